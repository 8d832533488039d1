-- Stops are foreseen: a row that covers a state has the mark of every cause for which the statement stops there.
use Rattle.std.proofs.Common.{◌≡◌, ℕ, zero, suc, ◌*◌, ◌/◌, ◌≤◌, Bool as Truth, true, false, cond, not, ◌&&◌, List, [], ◌∷◌, get_or, ℤ, pos, negsuc, ◌+ℤ◌, ◌-ℤ◌, ◌*ℤ◌, neg_ℤ, Ok, Err, Result, sym, refl, ap, ◌∙◌, subst, mul-le-mul_left, div-le_self, div-mul-le_self, arith}
use lib.Signed.{quot_z}
use Rattle.std.proofs.lemmas.Int.{ints}
use Rattle.std.proofs.lemmas.Bool.Decides.{nat_tests}
use Rattle.std.proofs.lemmas.Bool.{and_from, and_parts, or_from, cond-false}
use Rattle.numbers.specs.Int.{is_int, lowest}
use Rattle.numbers.specs.Arithmetic.{eq_z}
use Rattle.domain.specs.Domain.{Ops, Lawful, holds}
use Rattle.syntax.specs.declared.operator.Operator.{Operator}
use Rattle.syntax.specs.declared.operator.Operator.TheVariants.{Ld, Ldn, And, Andn, Or, Orn, Xor, Xorn, Add, Sub, Mul, Div, Gt, Ge, Lt, Le, Eq, Ne}
use Rattle.syntax.specs.declared.record.Operation.{Operation}
use Rattle.syntax.specs.declared.record.Operation.TheVariants as operation
use Rattle.syntax.specs.declared.record.Variable.{Variable}
use Rattle.syntax.specs.declared.record.Statement.{Statement}
use Rattle.cells.specs.declared.value.Value.{Value}
use Rattle.cells.specs.declared.value.Value.TheVariants.{Unset, Int}
use Rattle.cells.specs.declared.cell.Cell.{Cell}
use Rattle.cells.specs.Values.{sort_of, is_sized}
use Rattle.cells.specs.Cells.{covers, has, is_vacant, nothing}
use Rattle.meaning.specs.declared.compute.Cause.{Cause}
use Rattle.meaning.specs.declared.compute.Cause.TheVariants.{Kind, ZeroDivisor, Overflow}
use Rattle.meaning.specs.Meaning.{is_number, accepts_operator, accepted, sized, quotient, computed, State, operand, performed, with_result as result_of}
use Rattle.transfer.specs.Rows.{covers_all, is_unreachable}
use Rattle.transfer.specs.Transfer.{any_sort, operand_in}
use Rattle.transfer.specs.Marks.{has_cause, unreachable_marks, zero_by, overflow_by, kind_mark, marks_by, marks_of}
use Rattle.transfer.specs.Soundness.{Before, Foresees}
use Rattle.transfer.proofs.Covering.{any-from, clash, held, not-empty, covers-some}
use Rattle.transfer.proofs.Operators.{number_is, sized-stops}
use Rattle.transfer.proofs.Simulation.{Each, each_from, operand-sized, operand-covered, operand-has, cr-has, cr-covered}
use Rattle.transfer.proofs.Simulates.{never}

same-cause : {X : Type 0} (c d : Cause) → ◌≡◌ {A = Result X Cause} (Err c) (Err d) → c ≡ d
same-cause c d e = cc

-- of two INTs only −32768 by −1 has its quotient outside INT
quotient-leaves : (a b : ℤ) → is_int a ≡ true → is_int b ≡ true → is_int (quot_z a b) ≡ false → (a ≡ lowest) × (b ≡ negsuc 0)
quotient-leaves (pos a) (pos b) i j e = clash (is_int (pos (a / b))) (let h = div-le_self a b in grind (arith, ints, nat_tests)) e
quotient-leaves (pos a) (negsuc b) i j e = clash (is_int (neg_ℤ (pos (a / suc b)))) (let h = div-le_self a (suc b) in grind (arith, ints, nat_tests)) e
quotient-leaves (negsuc a) (pos b) i j e = clash (is_int (neg_ℤ (pos (suc a / b)))) (let h = div-le_self (suc a) b in grind (arith, ints, nat_tests)) e
quotient-leaves (negsuc a) (negsuc zero) i j e = (let h = div-le_self (suc a) 1 in grind (arith, ints, nat_tests), refl)
quotient-leaves (negsuc a) (negsuc (suc b)) i j e =
    clash (is_int (pos (suc a / suc (suc b))))
    (let h = div-mul-le_self (suc a) (suc (suc b)) in
    let k : suc a / suc (suc b) * 2 ≤ suc a / suc (suc b) * suc (suc b) = omega (arith, mul-two (suc a / suc (suc b)) b) in
    grind (arith, ints, nat_tests)) e
  where
    mul-two : (n b : ℕ) → n * 2 ≤ n * suc (suc b)
    mul-two n b = mul-le-mul_left n (omega arith)

module _ {S : Type 0} (o : Ops S) (law : Lawful o) where
  -- a row that covers a state is reachable
  pub reachable : (row : List (Cell S)) (values : List Value) → ((j : ℕ) → is_sized (get_or values j Unset) ≡ true) → covers_all o row values ≡ true → is_unreachable o row ≡ false
  reachable [] values z e = refl
  reachable (c ∷ row) [] z e =
      let p = and_parts (covers o c Unset) (covers_all o row []) e in
      or_from (is_vacant o c) (is_unreachable o row) (covers-some o law c Unset refl p.0) (reachable row [] z p.1)
  reachable (c ∷ row) (v ∷ values) z e =
      let p = and_parts (covers o c v) (covers_all o row values) e in
      or_from (is_vacant o c) (is_unreachable o row) (covers-some o law c v (z 0) p.0) (reachable row values (λ j. z (suc j)) p.1)

  -- the operators that stop, over two numbers
  module _ (x y : Cell S) (m n : ℤ) (g : holds o x.numbers m ≡ true) (h : holds o y.numbers n ≡ true) where
    abbrev Marked : Operator → Cause → Type 0
    Marked p Kind = Unit {0}
    Marked p ZeroDivisor = zero_by o p x y ≡ true
    Marked p Overflow = overflow_by o p x y ≡ true

    leaves : (p : Operator) (z : ℤ) (cause : Cause) → sized z ≡ Err cause → (is_int z ≡ false → overflow_by o p x y ≡ true) → Marked p cause
    leaves p z cause e f = let s = sized-stops z cause e in subst (Marked p) (sym s.1) (f s.0)

    divides : (cause : Cause) → quotient m n ≡ Err cause → Marked Div cause
    divides cause e = by (eq_z n (pos 0)) refl e
      where
        zero_is : eq_z n (pos 0) ≡ true → n ≡ pos 0
        zero_is q = grind (arith, ints, nat_tests)

        by : (t : Truth) → eq_z n (pos 0) ≡ t → cond t (Err ZeroDivisor) (sized (quot_z m n)) ≡ Err cause → Marked Div cause
        by true q e =
            let im = and_parts (is_int m) (o.contains x.numbers m) g in
            let jn = and_parts (is_int n) (o.contains y.numbers n) h in
            subst (Marked Div) (same-cause ZeroDivisor cause e) (and_from (not (o.is_empty x.numbers)) (o.contains y.numbers (pos 0)) (not-empty o law x.numbers m im.0 im.1) (subst (λ n. o.contains y.numbers n ≡ true) (zero_is q) jn.1))
        by false q e =
            leaves Div (quot_z m n) cause e
            (λ out.
            let im = and_parts (is_int m) (o.contains x.numbers m) g in
            let jn = and_parts (is_int n) (o.contains y.numbers n) h in
            let l = quotient-leaves m n im.0 jn.0 out in
            and_from (o.contains x.numbers lowest) (o.contains y.numbers (negsuc 0)) (subst (λ m. o.contains x.numbers m ≡ true) l.0 im.1) (subst (λ n. o.contains y.numbers n ≡ true) l.1 jn.1))

  marked : (x y : Cell S) (m n : ℤ) (g : holds o x.numbers m ≡ true) (h : holds o y.numbers n ≡ true) (p : Operator) (cause : Cause) → Marked x y m n g h p cause → (k : Truth) → (cause ≡ Kind → k ≡ true) → has_cause (record { overflow = overflow_by o p x y; zero_divisor = zero_by o p x y; kind = k; unreachable = false }) cause ≡ true
  marked x y m n g h p Kind e k f = f refl
  marked x y m n g h p ZeroDivisor e k f = e
  marked x y m n g h p Overflow e k f = e

  -- an arithmetic operator never stops for a kind
  module _ (x y : Cell S) (k : Truth) where
    abbrev Told : Operator → Value → Value → Cause → Type 0
    Told p a b cause = computed p a b ≡ Err cause → has_cause (record { overflow = overflow_by o p x y; zero_divisor = zero_by o p x y; kind = k; unreachable = false }) cause ≡ true

    not-kind : (z : ℤ) (cause : Cause) → sized z ≡ Err cause → cause ≡ Kind → k ≡ true
    not-kind z cause e q = absurd (let s = sized-stops z cause e in let t : Overflow ≡ Kind = sym s.1 ∙ q in let w : ◌≡◌ {A = ℕ} 0 1 = cc in omega arith)

    quotient-not-kind : (m n : ℤ) (cause : Cause) → quotient m n ≡ Err cause → cause ≡ Kind → k ≡ true
    quotient-not-kind m n cause e q = by (eq_z n (pos 0)) e
      where
        by : (t : Truth) → cond t (Err ZeroDivisor) (sized (quot_z m n)) ≡ Err cause → k ≡ true
        by true e = absurd (let t : ZeroDivisor ≡ Kind = same-cause ZeroDivisor cause e ∙ q in let w : ◌≡◌ {A = ℕ} 0 1 = cc in omega arith)
        by false e = not-kind (quot_z m n) cause e q

    on-numbers : (p : Operator) (a b : Value) (cause : Cause) → is_sized a ≡ true → is_sized b ≡ true → covers o x a ≡ true → covers o y b ≡ true → (is_number (sort_of a) && is_number (sort_of b)) ≡ true → ((m n : ℤ) → holds o x.numbers m ≡ true → holds o y.numbers n ≡ true → Told p (Int m) (Int n) cause) → Told p a b cause
    on-numbers p a b cause i j g h s f =
        let t = and_parts (is_number (sort_of a)) (is_number (sort_of b)) s in
        let m = number_is a t.0 in
        let n = number_is b t.1 in
        subst (λ a. Told p a b cause) (sym m.1) (subst (λ b. Told p (Int m.0) b cause) (sym n.1) (f m.0 n.0 (held o law x.numbers m.0 (subst (λ a. is_sized a ≡ true) m.1 i) (subst (λ a. covers o x a ≡ true) m.1 g)) (held o law y.numbers n.0 (subst (λ b. is_sized b ≡ true) n.1 j) (subst (λ b. covers o y b ≡ true) n.1 h))))

    pub operator-told : (p : Operator) (a b : Value) (cause : Cause) → is_sized a ≡ true → is_sized b ≡ true → covers o x a ≡ true → covers o y b ≡ true → accepts_operator p (sort_of a) (sort_of b) ≡ true → Told p a b cause
    operator-told Add a b cause i j g h s = on-numbers Add a b cause i j g h s (λ m n c d e. marked x y m n c d Add cause (leaves x y m n c d Add (m +ℤ n) cause e (law.add_asks x.numbers y.numbers m n c d)) k (not-kind (m +ℤ n) cause e))
    operator-told Sub a b cause i j g h s = on-numbers Sub a b cause i j g h s (λ m n c d e. marked x y m n c d Sub cause (leaves x y m n c d Sub (m -ℤ n) cause e (law.sub_asks x.numbers y.numbers m n c d)) k (not-kind (m -ℤ n) cause e))
    operator-told Mul a b cause i j g h s = on-numbers Mul a b cause i j g h s (λ m n c d e. marked x y m n c d Mul cause (leaves x y m n c d Mul (m *ℤ n) cause e (law.mul_asks x.numbers y.numbers m n c d)) k (not-kind (m *ℤ n) cause e))
    operator-told Div a b cause i j g h s = on-numbers Div a b cause i j g h s (λ m n c d e. marked x y m n c d Div cause (divides x y m n c d cause e) k (quotient-not-kind m n cause e))
    operator-told Ld a b cause i j g h s = λ e. never _ cause e
    operator-told Ldn a b cause i j g h s = λ e. never _ cause e
    operator-told And a b cause i j g h s = λ e. never _ cause e
    operator-told Andn a b cause i j g h s = λ e. never _ cause e
    operator-told Or a b cause i j g h s = λ e. never _ cause e
    operator-told Orn a b cause i j g h s = λ e. never _ cause e
    operator-told Xor a b cause i j g h s = λ e. never _ cause e
    operator-told Xorn a b cause i j g h s = λ e. never _ cause e
    operator-told Gt a b cause i j g h s = λ e. never _ cause e
    operator-told Ge a b cause i j g h s = λ e. never _ cause e
    operator-told Lt a b cause i j g h s = λ e. never _ cause e
    operator-told Le a b cause i j g h s = λ e. never _ cause e
    operator-told Eq a b cause i j g h s = λ e. never _ cause e
    operator-told Ne a b cause i j g h s = λ e. never _ cause e

  result-stops : (s : State) (r : Result Value Cause) (cause : Cause) → result_of s r ≡ Err cause → r ≡ Err cause
  result-stops s (Ok v) cause e = never _ cause e
  result-stops s (Err c) cause e = ap Err (same-cause c cause e)

  -- the marks of a row that covers a state have the cause of a stop
  module _ (vars : List Variable) (ss : List Statement) (op : Operation) (row : List (Cell S)) (s : State) (b : Before o vars ss op row s) where
    each : Each o row (s.cr ∷ s.values)
    each = each_from o row (s.cr ∷ s.values) b.covered

    all-sized : (j : ℕ) → is_sized (get_or (s.cr ∷ s.values) j Unset) ≡ true
    all-sized zero = b.sized.cr
    all-sized (suc j) = b.sized.values j

    pub marks-are : marks_of o vars row op ≡ marks_by o op (get_or row 0 (nothing o)) (operand_in o vars row op)
    marks-are = cond-false (is_unreachable o row) unreachable_marks _ (reachable row (s.cr ∷ s.values) all-sized b.covered)

    pub kind-marked : accepted op (sort_of s.cr) (sort_of (operand vars s.values op)) ≡ false → kind_mark o op (get_or row 0 (nothing o)) (operand_in o vars row op) ≡ true
    kind-marked a =
        any-from (λ p. any_sort (λ q. has o (get_or row 0 (nothing o)) p && (has o (operand_in o vars row op) q && not (accepted op p q)))) (sort_of s.cr)
        (any-from (λ q. has o (get_or row 0 (nothing o)) (sort_of s.cr) && (has o (operand_in o vars row op) q && not (accepted op (sort_of s.cr) q))) (sort_of (operand vars s.values op))
        (and_from (has o (get_or row 0 (nothing o)) (sort_of s.cr)) _ (cr-has o law vars row s b.long b.sized b.ordered each ss op b.names)
        (and_from (has o (operand_in o vars row op) (sort_of (operand vars s.values op))) _ (operand-has o law vars row s b.long b.sized b.ordered each ss op b.names) (ap not a))))

  stop-marked : (vars : List Variable) (ss : List Statement) (op : Operation) (row : List (Cell S)) (s : State) (b : Before o vars ss op row s) (cause : Cause) → accepted op (sort_of s.cr) (sort_of (operand vars s.values op)) ≡ true → performed op (operand vars s.values op) s ≡ Err cause → has_cause (marks_by o op (get_or row 0 (nothing o)) (operand_in o vars row op)) cause ≡ true
  stop-marked vars ss operation.Return row s b cause a e = never _ cause e
  stop-marked vars ss operation.Not row s b cause a e = never _ cause e
  stop-marked vars ss (operation.Label name) row s b cause a e = never _ cause e
  stop-marked vars ss (operation.Apply p z) row s b cause a e =
      let op = operation.Apply p z in
      let q = operand vars s.values op in
      operator-told (get_or row 0 (nothing o)) (operand_in o vars row op) (kind_mark o op (get_or row 0 (nothing o)) (operand_in o vars row op)) p s.cr q cause b.sized.cr
      (operand-sized o law vars row s b.long b.sized b.ordered (each vars ss op row s b) ss op b.names)
      (cr-covered o law vars row s b.long b.sized b.ordered (each vars ss op row s b))
      (operand-covered o law vars row s b.long b.sized b.ordered (each vars ss op row s b) ss op b.names) a (result-stops s (computed p s.cr q) cause e)
  stop-marked vars ss (operation.Store t i) row s b cause a e = never _ cause e
  stop-marked vars ss (operation.Jump j t) row s b cause a e = never _ cause e

  pub foresees : Foresees o
  foresees vars ss op row s b cause e = ap (λ m. has_cause m cause) (marks-are vars ss op row s b) ∙ by (accepted op (sort_of s.cr) (sort_of (operand vars s.values op))) refl e
    where
      by : (c : Truth) → accepted op (sort_of s.cr) (sort_of (operand vars s.values op)) ≡ c → cond c (performed op (operand vars s.values op) s) (Err Kind) ≡ Err cause → has_cause (marks_by o op (get_or row 0 (nothing o)) (operand_in o vars row op)) cause ≡ true
      by true a e = stop-marked vars ss op row s b cause a e
      by false a e = subst (λ c. has_cause (marks_by o op (get_or row 0 (nothing o)) (operand_in o vars row op)) c ≡ true) (same-cause Kind cause e) (kind-marked vars ss op row s b a)
