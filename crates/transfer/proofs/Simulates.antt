-- Simulation: where a statement runs, the row that is carried covers the new state; where it stops, the marks have the cause.
use Rattle.std.proofs.Common.{◌≡◌, ℕ, suc, ◌<◌, Bool as Truth, true, false, cond, not, List, ◌∷◌, length, get_or, set, Some, Ok, Err, Result, sym, refl, ap, ◌∙◌, subst, add-one, arith}
use Rattle.std.proofs.lemmas.List.{length-set, set-get_or}
use Rattle.std.proofs.lemmas.Bool.{and_from, and_parts, or_left, or_right, ltb-true}
use Rattle.domain.specs.Domain.{Ops, Lawful}
use Rattle.syntax.specs.declared.operator.Store.{Store}
use Rattle.syntax.specs.declared.operator.Store.TheVariants.{St, Stn, Set, Reset}
use Rattle.syntax.specs.declared.operator.Jump.{Jump}
use Rattle.syntax.specs.declared.operator.Jump.TheVariants.{Jmp, Jmpc, Jmpcn}
use Rattle.syntax.specs.declared.record.Operation.{Operation}
use Rattle.syntax.specs.declared.record.Operation.TheVariants as operation
use Rattle.syntax.specs.declared.record.Variable.{Variable}
use Rattle.syntax.specs.declared.record.Statement.{Statement}
use Rattle.cells.specs.declared.value.Value.{Value}
use Rattle.cells.specs.declared.value.Value.TheVariants.{Unset, Bool, Int}
use Rattle.cells.specs.declared.cell.Cell.{Cell}
use Rattle.cells.specs.Values.{sort_of}
use Rattle.cells.specs.Cells.{covers}
use Rattle.meaning.specs.declared.compute.Cause.{Cause}
use Rattle.meaning.specs.declared.compute.Cause.TheVariants.{Kind}
use Rattle.meaning.specs.declared.edge.Edge.{Edge}
use Rattle.meaning.specs.declared.edge.Edge.TheVariants as way
use Rattle.meaning.specs.Meaning.{is_bool, accepts_jump, accepts_store, accepted, truth_of, opposite, computed, State, operand, stored, jumps, performed, with_result as result_of}
use Rattle.transfer.specs.Rows.{covers_all}
use Rattle.transfer.specs.Transfer.{left_of, right_of, opposites, transferred, stored_cell, only_truth, with_result, with_variable, carried_by, carried}
use Rattle.transfer.specs.Soundness.{CoversState, Before, Simulates}
use Rattle.transfer.proofs.Covering.{clash}
use Rattle.transfer.proofs.Operators.{bool_is, opposite-covers, transferred-covers}
use Rattle.transfer.proofs.Simulation.{Each, each_from, from_each, set-each, operand-sized, left-covers, right-covers, carries}

pub never : {X : Type 0} {Y Z : Type 0} (y : Y) (z : Z) → ◌≡◌ {A = Result Y Z} (Ok y) (Err z) → X
never y z e = absurd (let q : ◌≡◌ {A = ℕ} 0 1 = cc in omega arith)

never' : {X : Type 0} {Y Z : Type 0} (y : Y) (z : Z) → ◌≡◌ {A = Result Y Z} (Err z) (Ok y) → X
never' y z e = absurd (let q : ◌≡◌ {A = ℕ} 0 1 = cc in omega arith)

pub same-pair : (p q : Edge × State) → ◌≡◌ {A = Result (Edge × State) Cause} (Ok p) (Ok q) → p ≡ q
same-pair p q e = cc

module _ {S : Type 0} (o : Ops S) (law : Lawful o) where
  -- a truth that takes a way on stays covered
  only-covers : (x : Cell S) (t : Truth) → covers o x (Bool t) ≡ true → covers o (only_truth o t x) (Bool t) ≡ true
  only-covers x true e = e
  only-covers x false e = e

  set-covers : (x y : Cell S) (c b : Truth) → covers o x (Bool c) ≡ true → covers o y (Bool b) ≡ true → covers o (stored_cell o Set x y) (cond c (Bool true) (Bool b)) ≡ true
  set-covers x y true b p q = or_left x.can_be_true _ p
  set-covers x y false true p q = or_right x.can_be_true _ (and_from x.can_be_false y.can_be_true p q)
  set-covers x y false false p q = and_from x.can_be_false y.can_be_false p q

  reset-covers : (x y : Cell S) (c b : Truth) → covers o x (Bool c) ≡ true → covers o y (Bool b) ≡ true → covers o (stored_cell o Reset x y) (cond c (Bool false) (Bool b)) ≡ true
  reset-covers x y true b p q = or_left x.can_be_true _ p
  reset-covers x y false true p q = and_from x.can_be_false y.can_be_true p q
  reset-covers x y false false p q = or_right x.can_be_true _ (and_from x.can_be_false y.can_be_false p q)

  module _ (vars : List Variable) (ss : List Statement) (op : Operation) (row : List (Cell S)) (s : State) (b : Before o vars ss op row s) where
    each : Each o row (s.cr ∷ s.values)
    each = each_from o row (s.cr ∷ s.values) b.covered

    some : 0 < length row
    some = omega (arith, b.long)

    -- another current result
    pub with-result : (c : Cell S) (v : Value) → covers o c v ≡ true → CoversState o (with_result o row c) (record { cr = v; values = s.values })
    with-result c v e = from_each o (set row 0 c) (v ∷ s.values) (set-each o row (s.cr ∷ s.values) 0 c v some (omega arith) each e)

    -- and another value of one variable
    with-variable : (c : Cell S) → covers o c s.cr ≡ true → (i : ℕ) → i < length vars → (d : Cell S) (w : Value) → covers o d w ≡ true → CoversState o (with_variable o row c i d) (record { cr = s.cr; values = set s.values i w })
    with-variable c e i l d w f =
        let first : Each o (set row 0 c) (s.cr ∷ s.values) = set-each o row (s.cr ∷ s.values) 0 c s.cr some (omega arith) each e in
        subst (λ k. covers_all o (set (set row 0 c) k d) (s.cr ∷ set s.values i w) ≡ true) (sym (add-one i))
        (from_each o (set (set row 0 c) (suc i) d) (s.cr ∷ set s.values i w) (set-each o (set row 0 c) (s.cr ∷ s.values) (suc i) d w (omega (arith, length-set row 0 c, b.long)) (omega (arith, b.there)) first f))

    abbrev x : Value
    x = operand vars s.values op

    abbrev left : Cell S
    left = left_of o vars row op

    abbrev right : Cell S
    right = right_of o vars row op

  -- where the carried row covers the new state
  abbrev Follows : List Variable → List (Cell S) → Cell S → Cell S → Operation → Edge → State → Type 0
  Follows vars row l r op edge t = (next : List (Cell S)) × (carried_by o vars row l r op edge ≡ Some next) × CoversState o next t

  follow-jump : (vars : List Variable) (ss : List Statement) (j : Jump) (t : _) (row : List (Cell S)) (s : State) (b : Before o vars ss (operation.Jump j t) row s) (l r : Cell S) → covers o l s.cr ≡ true → accepts_jump j (sort_of s.cr) ≡ true → Follows vars row l r (operation.Jump j t) (cond (jumps j s.cr) way.Jump way.Fall) s
  follow-jump vars ss Jmp t row s b l r e a = (with_result o row l, refl, with-result vars ss (operation.Jump Jmp t) row s b l s.cr e)
  follow-jump vars ss Jmpc t row s b l r e a = by s.cr (bool_is s.cr a) e refl
    where
      by : (v : Value) → (c : Truth) × (v ≡ Bool c) → covers o l v ≡ true → s.cr ≡ v → Follows vars row l r (operation.Jump Jmpc t) (cond (truth_of v) way.Jump way.Fall) s
      by Unset c e q = clash false (let z : ◌≡◌ {A = ℕ} 0 1 = (let y = c.1 in cc) in absurd (omega arith)) refl
      by (Int n) c e q = clash false (let z : ◌≡◌ {A = ℕ} 0 1 = (let y = c.1 in cc) in absurd (omega arith)) refl
      by (Bool true) c e q = (with_result o row (only_truth o true l), refl, with-result vars ss (operation.Jump Jmpc t) row s b (only_truth o true l) s.cr (ap (covers o (only_truth o true l)) q ∙ only-covers l true e))
      by (Bool false) c e q = (with_result o row (only_truth o false l), refl, with-result vars ss (operation.Jump Jmpc t) row s b (only_truth o false l) s.cr (ap (covers o (only_truth o false l)) q ∙ only-covers l false e))
  follow-jump vars ss Jmpcn t row s b l r e a = by s.cr (bool_is s.cr a) e refl
    where
      by : (v : Value) → (c : Truth) × (v ≡ Bool c) → covers o l v ≡ true → s.cr ≡ v → Follows vars row l r (operation.Jump Jmpcn t) (cond (not (truth_of v)) way.Jump way.Fall) s
      by Unset c e q = clash false (let z : ◌≡◌ {A = ℕ} 0 1 = (let y = c.1 in cc) in absurd (omega arith)) refl
      by (Int n) c e q = clash false (let z : ◌≡◌ {A = ℕ} 0 1 = (let y = c.1 in cc) in absurd (omega arith)) refl
      by (Bool true) c e q = (with_result o row (only_truth o true l), refl, with-result vars ss (operation.Jump Jmpcn t) row s b (only_truth o true l) s.cr (ap (covers o (only_truth o true l)) q ∙ only-covers l true e))
      by (Bool false) c e q = (with_result o row (only_truth o false l), refl, with-result vars ss (operation.Jump Jmpcn t) row s b (only_truth o false l) s.cr (ap (covers o (only_truth o false l)) q ∙ only-covers l false e))

  follow-store : (vars : List Variable) (ss : List Statement) (st : Store) (i : ℕ) (row : List (Cell S)) (s : State) (b : Before o vars ss (operation.Store st i) row s) (l r : Cell S) → covers o l s.cr ≡ true → covers o r (operand vars s.values (operation.Store st i)) ≡ true → accepts_store st (sort_of s.cr) (sort_of (operand vars s.values (operation.Store st i))) ≡ true → Follows vars row l r (operation.Store st i) way.Fall (record { cr = s.cr; values = stored st i s })
  follow-store vars ss St i row s b l r e f a = (with_variable o row l i l, refl, with-variable vars ss (operation.Store St i) row s b l e i (ltb-true i (length vars) b.names) l s.cr e)
  follow-store vars ss Stn i row s b l r e f a =
      (with_variable o row l i (opposites o l), refl, with-variable vars ss (operation.Store Stn i) row s b l e i (ltb-true i (length vars) b.names) (opposites o l) (opposite s.cr) (opposite-covers o law l s.cr (and_parts (is_bool (sort_of s.cr)) _ a).0 e))
  follow-store vars ss Set i row s b l r e f a =
      let t = and_parts (is_bool (sort_of s.cr)) (is_bool (sort_of (get_or s.values i Unset))) a in
      let c = bool_is s.cr t.0 in
      let d = bool_is (get_or s.values i Unset) t.1 in
      let new : covers o (stored_cell o Set l r) (cond c.0 (Bool true) (Bool d.0)) ≡ true = set-covers l r c.0 d.0 (subst (λ v. covers o l v ≡ true) c.1 e) (subst (λ v. covers o r v ≡ true) d.1 f) in
      let is : set s.values i (cond c.0 (Bool true) (Bool d.0)) ≡ stored Set i s = written c.0 s.cr c.1 true d.0 d.1 in
      (with_variable o row l i (stored_cell o Set l r), refl, subst (λ vs. CoversState o (with_variable o row l i (stored_cell o Set l r)) (record { cr = s.cr; values = vs })) is (with-variable vars ss (operation.Store Set i) row s b l e i (ltb-true i (length vars) b.names) (stored_cell o Set l r) (cond c.0 (Bool true) (Bool d.0)) new))
    where
      written : (c : Truth) (v : Value) → v ≡ Bool c → (k d : Truth) → get_or s.values i Unset ≡ Bool d → set s.values i (cond c (Bool k) (Bool d)) ≡ cond (truth_of v) (set s.values i (Bool k)) s.values
      written true v e k d f = sym (ap (λ v. cond (truth_of v) (set s.values i (Bool k)) s.values) e)
      written false v e k d f = ap (set s.values i) (sym f) ∙ set-get_or s.values i Unset ∙ sym (ap (λ v. cond (truth_of v) (set s.values i (Bool k)) s.values) e)
  follow-store vars ss Reset i row s b l r e f a =
      let t = and_parts (is_bool (sort_of s.cr)) (is_bool (sort_of (get_or s.values i Unset))) a in
      let c = bool_is s.cr t.0 in
      let d = bool_is (get_or s.values i Unset) t.1 in
      let new : covers o (stored_cell o Reset l r) (cond c.0 (Bool false) (Bool d.0)) ≡ true = reset-covers l r c.0 d.0 (subst (λ v. covers o l v ≡ true) c.1 e) (subst (λ v. covers o r v ≡ true) d.1 f) in
      let is : set s.values i (cond c.0 (Bool false) (Bool d.0)) ≡ stored Reset i s = written c.0 s.cr c.1 false d.0 d.1 in
      (with_variable o row l i (stored_cell o Reset l r), refl, subst (λ vs. CoversState o (with_variable o row l i (stored_cell o Reset l r)) (record { cr = s.cr; values = vs })) is (with-variable vars ss (operation.Store Reset i) row s b l e i (ltb-true i (length vars) b.names) (stored_cell o Reset l r) (cond c.0 (Bool false) (Bool d.0)) new))
    where
      written : (c : Truth) (v : Value) → v ≡ Bool c → (k d : Truth) → get_or s.values i Unset ≡ Bool d → set s.values i (cond c (Bool k) (Bool d)) ≡ cond (truth_of v) (set s.values i (Bool k)) s.values
      written true v e k d f = sym (ap (λ v. cond (truth_of v) (set s.values i (Bool k)) s.values) e)
      written false v e k d f = ap (set s.values i) (sym f) ∙ set-get_or s.values i Unset ∙ sym (ap (λ v. cond (truth_of v) (set s.values i (Bool k)) s.values) e)

  -- what an operator's answer says of the new state
  result-is : (s : State) (r : Result Value Cause) (edge : Edge) (t : State) → result_of s r ≡ Ok (edge, t) → (v : Value) × (r ≡ Ok v) × (edge ≡ way.Fall) × (t ≡ record { cr = v; values = s.values })
  result-is s (Ok v) edge t e = let q = same-pair (way.Fall, record { cr = v; values = s.values }) (edge, t) e in (v, refl, sym (ap (λ p. p.0) q), sym (ap (λ p. p.1) q))
  result-is s (Err c) edge t e = never' (edge, t) c e

  -- an operation on accepted values
  follow : (vars : List Variable) (ss : List Statement) (op : Operation) (row : List (Cell S)) (s : State) (b : Before o vars ss op row s) (l r : Cell S) → covers o l s.cr ≡ true → covers o r (operand vars s.values op) ≡ true → accepted op (sort_of s.cr) (sort_of (operand vars s.values op)) ≡ true → (edge : Edge) (t : State) → performed op (operand vars s.values op) s ≡ Ok (edge, t) → (op ≡ operation.Return → ⊥) → Follows vars row l r op edge t
  follow vars ss operation.Return row s b l r e f a edge t p n = absurd (n refl)
  follow vars ss operation.Not row s b l r e f a edge t p n =
      let z = same-pair (way.Fall, record { cr = opposite s.cr; values = s.values }) (edge, t) p in
      let q : way.Fall ≡ edge = ap (λ p. p.0) z in
      let u : record { cr = opposite s.cr; values = s.values } ≡ t = ap (λ p. p.1) z in
      subst (λ edge. Follows vars row l r operation.Not edge t) q (subst (Follows vars row l r operation.Not way.Fall) u (with_result o row (opposites o l), refl, with-result vars ss operation.Not row s b (opposites o l) (opposite s.cr) (opposite-covers o law l s.cr a e)))
  follow vars ss (operation.Label name) row s b l r e f a edge t p n =
      let z = same-pair (way.Fall, s) (edge, t) p in
      let q : way.Fall ≡ edge = ap (λ p. p.0) z in
      let u : s ≡ t = ap (λ p. p.1) z in
      subst (λ edge. Follows vars row l r (operation.Label name) edge t) q (subst (Follows vars row l r (operation.Label name) way.Fall) u (with_result o row l, refl, with-result vars ss (operation.Label name) row s b l s.cr e))
  follow vars ss (operation.Apply k y) row s b l r e f a edge t p n =
      let w = result-is s (computed k s.cr (operand vars s.values (operation.Apply k y))) edge t p in
      let c : covers o (transferred o k l r) w.0 ≡ true = transferred-covers o law l r k s.cr (operand vars s.values (operation.Apply k y)) b.sized.cr (operand-sized o law vars row s b.long b.sized b.ordered (each_from o row (s.cr ∷ s.values) b.covered) ss (operation.Apply k y) b.names) e f a w.0 w.1 in
      subst (λ edge. Follows vars row l r (operation.Apply k y) edge t) (sym w.2) (subst (Follows vars row l r (operation.Apply k y) way.Fall) (sym w.3) (with_result o row (transferred o k l r), refl, with-result vars ss (operation.Apply k y) row s b (transferred o k l r) w.0 c))
  follow vars ss (operation.Store st i) row s b l r e f a edge t p n =
      let z = same-pair (way.Fall, record { cr = s.cr; values = stored st i s }) (edge, t) p in
      let q : way.Fall ≡ edge = ap (λ p. p.0) z in
      let u : record { cr = s.cr; values = stored st i s } ≡ t = ap (λ p. p.1) z in
      subst (λ edge. Follows vars row l r (operation.Store st i) edge t) q (subst (Follows vars row l r (operation.Store st i) way.Fall) u (follow-store vars ss st i row s b l r e f a))
  follow vars ss (operation.Jump j g) row s b l r e f a edge t p n =
      let z = same-pair (cond (jumps j s.cr) way.Jump way.Fall, s) (edge, t) p in
      let q : cond (jumps j s.cr) way.Jump way.Fall ≡ edge = ap (λ p. p.0) z in
      let u : s ≡ t = ap (λ p. p.1) z in
      subst (λ edge. Follows vars row l r (operation.Jump j g) edge t) q (subst (Follows vars row l r (operation.Jump j g) (cond (jumps j s.cr) way.Jump way.Fall)) u (follow-jump vars ss j g row s b l r e a))

  pub simulates : Simulates o
  simulates vars ss op row s b edge t p n = by (accepted op (sort_of s.cr) (sort_of x')) refl p
    where
      x' : Value
      x' = operand vars s.values op

      by : (c : Truth) → accepted op (sort_of s.cr) (sort_of x') ≡ c → cond c (performed op x' s) (Err Kind) ≡ Ok (edge, t) → (next : List (Cell S)) × (carried o vars row op edge ≡ Some next) × CoversState o next t
      by false a p = never' (edge, t) Kind p
      by true a p =
          let each' = each_from o row (s.cr ∷ s.values) b.covered in
          let f = follow vars ss op row s b (left_of o vars row op) (right_of o vars row op) (left-covers o law vars row s b.long b.sized b.ordered each' ss op b.names a) (right-covers o law vars row s b.long b.sized b.ordered each' ss op b.names a) a edge t p n in
          (f.0, carries o law vars row s b.long b.sized b.ordered each' ss op b.names a edge ∙ f.1, f.2)
