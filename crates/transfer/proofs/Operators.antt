-- What an operator makes of two values, the cell that it makes of their cells covers; and a stop is asked for.
use Rattle.std.proofs.Common.{◌≡◌, ℕ, Bool as Truth, true, false, cond, not, ◌&&◌, ◌||◌, ◌⊎◌, ℤ, pos, ◌+ℤ◌, ◌-ℤ◌, ◌*ℤ◌, Ok, Err, Result, sym, refl, ap, subst, inl, inr, ⊎_elim, arith}
use lib.Signed.{lt_z, quot_z}
use Rattle.std.proofs.lemmas.Bool.{and_from, and_parts}
use Rattle.domain.specs.declared.Truth.{Truth as Flags}
use Rattle.domain.specs.Domain.{Ops, Lawful, holds, allows}
use Rattle.numbers.specs.Int.{is_int}
use Rattle.numbers.specs.Arithmetic.{eq_z}
use Rattle.syntax.specs.declared.operator.Operator.{Operator}
use Rattle.syntax.specs.declared.operator.Operator.TheVariants.{Ld, Ldn, And, Andn, Or, Orn, Xor, Xorn, Add, Sub, Mul, Div, Gt, Ge, Lt, Le, Eq, Ne}
use Rattle.cells.specs.declared.value.Value.{Value}
use Rattle.cells.specs.declared.value.Value.TheVariants.{Unset, Bool, Int}
use Rattle.cells.specs.declared.cell.Cell.{Cell}
use Rattle.cells.specs.Values.{sort_of, is_sized}
use Rattle.cells.specs.Cells.{covers}
use Rattle.meaning.specs.declared.compute.Cause.{Cause}
use Rattle.meaning.specs.declared.compute.Cause.TheVariants.{ZeroDivisor, Overflow}
use Rattle.meaning.specs.Meaning.{is_bool, is_number, accepts_operator, combined, opposite, sized, quotient, computed}
use Rattle.transfer.specs.Transfer.{exchanged, flagged, opposites, over_pairs, logical, transferred}
use Rattle.transfer.proofs.Covering.{clash, held, contained}

-- a value of a sort that is BOOL is one, and so with INT
pub bool_is : (v : Value) → is_bool (sort_of v) ≡ true → (b : Truth) × (v ≡ Bool b)
bool_is Unset e = clash false e refl
bool_is (Bool b) e = (b, refl)
bool_is (Int n) e = clash false e refl

pub number_is : (v : Value) → is_number (sort_of v) ≡ true → (n : ℤ) × (v ≡ Int n)
number_is Unset e = clash false e refl
number_is (Bool b) e = clash false e refl
number_is (Int n) e = (n, refl)

-- a sized result is the number itself, inside INT
pub sized-is : (z : ℤ) (v : Value) → sized z ≡ Ok v → (is_int z ≡ true) × (v ≡ Int z)
sized-is z v e = by (is_int z) refl e
  where
    by : (b : Truth) → is_int z ≡ b → cond b (Ok (Int z)) (Err Overflow) ≡ Ok v → (is_int z ≡ true) × (v ≡ Int z)
    by true i e = (i, let s : Int z ≡ v = cc in sym s)
    by false i e = absurd (let x : ◌≡◌ {A = ℕ} 0 1 = cc in omega arith)

pub sized-stops : (z : ℤ) (cause : Cause) → sized z ≡ Err cause → (is_int z ≡ false) × (cause ≡ Overflow)
sized-stops z cause e = by (is_int z) refl e
  where
    by : (b : Truth) → is_int z ≡ b → cond b (Ok (Int z)) (Err Overflow) ≡ Err cause → (is_int z ≡ false) × (cause ≡ Overflow)
    by true i e = absurd (let x : ◌≡◌ {A = ℕ} 0 1 = cc in omega arith)
    by false i e = (i, let s : Overflow ≡ cause = cc in sym s)

pub quotient_is : (a b : ℤ) (v : Value) → quotient a b ≡ Ok v → (b ≡ pos 0 → ⊥) × (is_int (quot_z a b) ≡ true) × (v ≡ Int (quot_z a b))
quotient_is a b v e = by (eq_z b (pos 0)) refl e
  where
    by : (t : Truth) → eq_z b (pos 0) ≡ t → cond t (Err ZeroDivisor) (sized (quot_z a b)) ≡ Ok v → (b ≡ pos 0 → ⊥) × (is_int (quot_z a b) ≡ true) × (v ≡ Int (quot_z a b))
    by true i e = absurd (let x : ◌≡◌ {A = ℕ} 0 1 = cc in omega arith)
    by false i e = let s = sized-is (quot_z a b) v e in (λ z. clash (eq_z b (pos 0)) (ap (λ b. eq_z b (pos 0)) z) i, s.0, s.1)

one-of-four : (a b c d : Truth) → (a ≡ true) ⊎ ((b ≡ true) ⊎ ((c ≡ true) ⊎ (d ≡ true))) → (a || (b || (c || d))) ≡ true
one-of-four true b c d e = refl
one-of-four false true c d e = refl
one-of-four false false true d e = refl
one-of-four false false false true e = refl
one-of-four false false false false e = ⊎_elim (λ e. e) (⊎_elim (λ e. e) (⊎_elim (λ e. e) (λ e. e))) e

module _ {S : Type 0} (o : Ops S) (law : Lawful o) where
  -- truths over every allowed pair
  pub over-pairs : (f : Truth → Truth → Truth) (x y : Cell S) (a b : Truth) → covers o x (Bool a) ≡ true → covers o y (Bool b) ≡ true → f a b ≡ true → over_pairs o f x y ≡ true
  over-pairs f x y false false p q e = one-of-four (x.can_be_false && (y.can_be_false && f false false)) (x.can_be_false && (y.can_be_true && f false true)) (x.can_be_true && (y.can_be_false && f true false)) (x.can_be_true && (y.can_be_true && f true true)) (inl (and_from x.can_be_false _ p (and_from y.can_be_false _ q e)))
  over-pairs f x y false true p q e = one-of-four (x.can_be_false && (y.can_be_false && f false false)) (x.can_be_false && (y.can_be_true && f false true)) (x.can_be_true && (y.can_be_false && f true false)) (x.can_be_true && (y.can_be_true && f true true)) (inr (inl (and_from x.can_be_false _ p (and_from y.can_be_true _ q e))))
  over-pairs f x y true false p q e =
      one-of-four (x.can_be_false && (y.can_be_false && f false false)) (x.can_be_false && (y.can_be_true && f false true)) (x.can_be_true && (y.can_be_false && f true false)) (x.can_be_true && (y.can_be_true && f true true)) (inr (inr (inl (and_from x.can_be_true _ p (and_from y.can_be_false _ q e)))))
  over-pairs f x y true true p q e =
      one-of-four (x.can_be_false && (y.can_be_false && f false false)) (x.can_be_false && (y.can_be_true && f false true)) (x.can_be_true && (y.can_be_false && f true false)) (x.can_be_true && (y.can_be_true && f true true)) (inr (inr (inr (and_from x.can_be_true _ p (and_from y.can_be_true _ q e)))))

  logical-covers : (p : Operator) (x y : Cell S) (a b : Truth) → covers o x (Bool a) ≡ true → covers o y (Bool b) ≡ true → covers o (logical o p x y) (Bool (combined p a b)) ≡ true
  logical-covers p x y a b g h = by (combined p a b) refl
    where
      by : (t : Truth) → combined p a b ≡ t → covers o (logical o p x y) (Bool t) ≡ true
      by true e = over-pairs (combined p) x y a b g h e
      by false e = over-pairs (λ a b. not (combined p a b)) x y a b g h (ap not e)

  -- a flag that is on covers its truth, and exchanged its opposite
  flag-covers : (t : Flags) (b : Truth) → allows t b ≡ true → covers o (flagged o t) (Bool b) ≡ true
  flag-covers t true e = e
  flag-covers t false e = e

  exchanged-covers : (t : Flags) (b : Truth) → allows t b ≡ true → covers o (flagged o (exchanged t)) (Bool (not b)) ≡ true
  exchanged-covers t true e = e
  exchanged-covers t false e = e

  opposites-cover : (x : Cell S) (b : Truth) → covers o x (Bool b) ≡ true → covers o (opposites o x) (Bool (not b)) ≡ true
  opposites-cover x true e = e
  opposites-cover x false e = e

  pub opposite-covers : (x : Cell S) (v : Value) → is_bool (sort_of v) ≡ true → covers o x v ≡ true → covers o (opposites o x) (opposite v) ≡ true
  opposite-covers x Unset s e = clash false s refl
  opposite-covers x (Bool b) s e = opposites-cover x b e
  opposite-covers x (Int n) s e = clash false s refl

  abbrev Covered : Operator → Cell S → Cell S → Value → Value → Type 0
  Covered p x y a b = (v : Value) → computed p a b ≡ Ok v → covers o (transferred o p x y) v ≡ true

  -- over two truths, and over two numbers
  on-truths : (p : Operator) (x y : Cell S) (a b : Value) → covers o x a ≡ true → covers o y b ≡ true → (is_bool (sort_of a) && is_bool (sort_of b)) ≡ true → ((c d : Truth) → covers o x (Bool c) ≡ true → covers o y (Bool d) ≡ true → Covered p x y (Bool c) (Bool d)) → Covered p x y a b
  on-truths p x y a b g h s f =
      let t = and_parts (is_bool (sort_of a)) (is_bool (sort_of b)) s in
      let c = bool_is a t.0 in
      let d = bool_is b t.1 in
      subst (λ a. Covered p x y a b) (sym c.1) (subst (λ b. Covered p x y (Bool c.0) b) (sym d.1) (f c.0 d.0 (subst (λ a. covers o x a ≡ true) c.1 g) (subst (λ b. covers o y b ≡ true) d.1 h)))

  abbrev OnNumbers : Operator → Cell S → Cell S → Type 0
  OnNumbers p x y = (m n : ℤ) → holds o x.numbers m ≡ true → holds o y.numbers n ≡ true → Covered p x y (Int m) (Int n)

  on-numbers : (p : Operator) (x y : Cell S) (a b : Value) → is_sized a ≡ true → is_sized b ≡ true → covers o x a ≡ true → covers o y b ≡ true → (is_number (sort_of a) && is_number (sort_of b)) ≡ true → OnNumbers p x y → Covered p x y a b
  on-numbers p x y a b i j g h s f =
      let t = and_parts (is_number (sort_of a)) (is_number (sort_of b)) s in
      let m = number_is a t.0 in
      let n = number_is b t.1 in
      subst (λ a. Covered p x y a b) (sym m.1) (subst (λ b. Covered p x y (Int m.0) b) (sym n.1) (f m.0 n.0 (held o law x.numbers m.0 (subst (λ a. is_sized a ≡ true) m.1 i) (subst (λ a. covers o x a ≡ true) m.1 g)) (held o law y.numbers n.0 (subst (λ b. is_sized b ≡ true) n.1 j) (subst (λ b. covers o y b ≡ true) n.1 h))))

  -- a truth that is given is covered
  given : (c : Cell S) (t : Truth) → covers o c (Bool t) ≡ true → (v : Value) → ◌≡◌ {A = Result Value Cause} (Ok (Bool t)) (Ok v) → covers o c v ≡ true
  given c t e v i = subst (λ v. covers o c v ≡ true) (let s : Bool t ≡ v = cc in s) e

  module _ (x y : Cell S) where
    sums : OnNumbers Add x y
    sums m n g h v e = let s = sized-is (m +ℤ n) v e in subst (λ v. covers o (transferred o Add x y) v ≡ true) (sym s.1) (contained o law _ (m +ℤ n) (law.add_holds x.numbers y.numbers m n g h s.0))

    differences : OnNumbers Sub x y
    differences m n g h v e = let s = sized-is (m -ℤ n) v e in subst (λ v. covers o (transferred o Sub x y) v ≡ true) (sym s.1) (contained o law _ (m -ℤ n) (law.sub_holds x.numbers y.numbers m n g h s.0))

    products : OnNumbers Mul x y
    products m n g h v e = let s = sized-is (m *ℤ n) v e in subst (λ v. covers o (transferred o Mul x y) v ≡ true) (sym s.1) (contained o law _ (m *ℤ n) (law.mul_holds x.numbers y.numbers m n g h s.0))

    quotients : OnNumbers Div x y
    quotients m n g h v e = let s = quotient_is m n v e in subst (λ v. covers o (transferred o Div x y) v ≡ true) (sym s.2) (contained o law _ (quot_z m n) (law.div_holds x.numbers y.numbers m n g h s.0 s.1))

    -- what an operator gives is covered
    pub transferred-covers : (p : Operator) (a b : Value) → is_sized a ≡ true → is_sized b ≡ true → covers o x a ≡ true → covers o y b ≡ true → accepts_operator p (sort_of a) (sort_of b) ≡ true → Covered p x y a b
    transferred-covers Ld a b i j g h s = λ v e. subst (λ v. covers o y v ≡ true) (let q : b ≡ v = cc in q) h
    transferred-covers Ldn a b i j g h s = λ v e. subst (λ v. covers o (opposites o y) v ≡ true) (let q : opposite b ≡ v = cc in q) (opposite-covers y b s h)
    transferred-covers And a b i j g h s = on-truths And x y a b g h s (λ c d k l. given (logical o And x y) (combined And c d) (logical-covers And x y c d k l))
    transferred-covers Andn a b i j g h s = on-truths Andn x y a b g h s (λ c d k l. given (logical o Andn x y) (combined Andn c d) (logical-covers Andn x y c d k l))
    transferred-covers Or a b i j g h s = on-truths Or x y a b g h s (λ c d k l. given (logical o Or x y) (combined Or c d) (logical-covers Or x y c d k l))
    transferred-covers Orn a b i j g h s = on-truths Orn x y a b g h s (λ c d k l. given (logical o Orn x y) (combined Orn c d) (logical-covers Orn x y c d k l))
    transferred-covers Xor a b i j g h s = on-truths Xor x y a b g h s (λ c d k l. given (logical o Xor x y) (combined Xor c d) (logical-covers Xor x y c d k l))
    transferred-covers Xorn a b i j g h s = on-truths Xorn x y a b g h s (λ c d k l. given (logical o Xorn x y) (combined Xorn c d) (logical-covers Xorn x y c d k l))
    transferred-covers Add a b i j g h s = on-numbers Add x y a b i j g h s sums
    transferred-covers Sub a b i j g h s = on-numbers Sub x y a b i j g h s differences
    transferred-covers Mul a b i j g h s = on-numbers Mul x y a b i j g h s products
    transferred-covers Div a b i j g h s = on-numbers Div x y a b i j g h s quotients
    transferred-covers Gt a b i j g h s = on-numbers Gt x y a b i j g h s (λ m n k l. given (flagged o (o.less y.numbers x.numbers)) (lt_z n m) (flag-covers (o.less y.numbers x.numbers) (lt_z n m) (law.less_flags y.numbers x.numbers n m l k)))
    transferred-covers Ge a b i j g h s = on-numbers Ge x y a b i j g h s (λ m n k l. given (flagged o (exchanged (o.less x.numbers y.numbers))) (not (lt_z m n)) (exchanged-covers (o.less x.numbers y.numbers) (lt_z m n) (law.less_flags x.numbers y.numbers m n k l)))
    transferred-covers Lt a b i j g h s = on-numbers Lt x y a b i j g h s (λ m n k l. given (flagged o (o.less x.numbers y.numbers)) (lt_z m n) (flag-covers (o.less x.numbers y.numbers) (lt_z m n) (law.less_flags x.numbers y.numbers m n k l)))
    transferred-covers Le a b i j g h s = on-numbers Le x y a b i j g h s (λ m n k l. given (flagged o (exchanged (o.less y.numbers x.numbers))) (not (lt_z n m)) (exchanged-covers (o.less y.numbers x.numbers) (lt_z n m) (law.less_flags y.numbers x.numbers n m l k)))
    transferred-covers Eq a b i j g h s = on-numbers Eq x y a b i j g h s (λ m n k l. given (flagged o (o.equal x.numbers y.numbers)) (eq_z m n) (flag-covers (o.equal x.numbers y.numbers) (eq_z m n) (law.equal_flags x.numbers y.numbers m n k l)))
    transferred-covers Ne a b i j g h s = on-numbers Ne x y a b i j g h s (λ m n k l. given (flagged o (exchanged (o.equal x.numbers y.numbers))) (not (eq_z m n)) (exchanged-covers (o.equal x.numbers y.numbers) (eq_z m n) (law.equal_flags x.numbers y.numbers m n k l)))
