-- Rows that cover states go on to cover what a statement makes of them.
use Rattle.std.proofs.Common.{◌≡◌, ℕ, zero, suc, ◌+◌, ◌<◌, true, ◌&&◌, List, [], ◌∷◌, length, get_or, set, None, sym, refl, ap, ◌∙◌, subst, ⊎_elim, add-one, arith}
use lib.Signed.{le_z}
use Rattle.numbers.specs.Int.{is_int}
use Rattle.std.proofs.lemmas.List.{length-set, get_or-set_same, get_or-set_other}
use Rattle.std.proofs.lemmas.Bool.{and_from, and_parts, or_from, ltb-true, cases_eq, cond-false}
use Rattle.domain.specs.Domain.{Ops, Lawful}
use Rattle.syntax.specs.declared.operator.Store.TheVariants.{St, Stn, Set, Reset}
use Rattle.syntax.specs.declared.record.Operand.TheVariants.{Constant, Variable as variable}
use Rattle.syntax.specs.declared.record.Operation.{Operation}
use Rattle.syntax.specs.declared.record.Operation.TheVariants as operation
use Rattle.syntax.specs.declared.record.Variable.{Variable}
use Rattle.syntax.specs.declared.record.Statement.{Statement}
use Rattle.syntax.specs.Records.{no_variable}
use Rattle.reading.specs.Formed.{is_proper, in_order, names_only}
use Rattle.cells.specs.declared.value.Value.{Value}
use Rattle.cells.specs.declared.value.Value.TheVariants.{Unset}
use Rattle.cells.specs.declared.cell.Cell.{Cell}
use Rattle.cells.specs.Values.{sort_of, value_of, is_sized}
use Rattle.cells.specs.Cells.{covers, has, is_vacant, nothing}
use Rattle.meaning.specs.declared.edge.Edge.{Edge}
use Rattle.meaning.specs.Meaning.{accepted, State, kind_value, operand}
use Rattle.transfer.specs.Rows.{covers_all, width}
use Rattle.transfer.specs.Transfer.{operand_in, left_kept, right_kept, left_of, right_of, carried_by, carried}
use Rattle.transfer.specs.Soundness.{Sized}
use Rattle.transfer.proofs.Covering.{any-from, covers-has, covers-some, kept-covers, value-covers, proper-sized}

module _ {S : Type 0} (o : Ops S) where
  -- a row covers values exactly if each cell covers its own
  abbrev pub Each : List (Cell S) → List Value → Type 0
  Each row values = (j : ℕ) → j < length row → covers o (get_or row j (nothing o)) (get_or values j Unset) ≡ true

  pub each_from : (row : List (Cell S)) (values : List Value) → covers_all o row values ≡ true → Each row values
  each_from [] values e j l = absurd (omega arith)
  each_from (c ∷ row) [] e zero l = (and_parts (covers o c Unset) (covers_all o row []) e).0
  each_from (c ∷ row) [] e (suc j) l = each_from row [] (and_parts (covers o c Unset) (covers_all o row []) e).1 j (omega arith)
  each_from (c ∷ row) (v ∷ values) e zero l = (and_parts (covers o c v) (covers_all o row values) e).0
  each_from (c ∷ row) (v ∷ values) e (suc j) l = each_from row values (and_parts (covers o c v) (covers_all o row values) e).1 j (omega arith)

  pub from_each : (row : List (Cell S)) (values : List Value) → Each row values → covers_all o row values ≡ true
  from_each [] values f = refl
  from_each (c ∷ row) [] f = and_from (covers o c Unset) (covers_all o row []) (f 0 (omega arith)) (from_each row [] (λ j l. f (suc j) (omega arith)))
  from_each (c ∷ row) (v ∷ values) f = and_from (covers o c v) (covers_all o row values) (f 0 (omega arith)) (from_each row values (λ j l. f (suc j) (omega arith)))

  -- a cell and its value set at one place
  pub set-each : (row : List (Cell S)) (values : List Value) (i : ℕ) (c : Cell S) (v : Value) → i < length row → i < length values → Each row values → covers o c v ≡ true → Each (set row i c) (set values i v)
  set-each row values i c v h k f e j l =
      ⊎_elim
      (λ q. subst (λ j. covers o (get_or (set row i c) j (nothing o)) (get_or (set values i v) j Unset) ≡ true) (sym q) (ap (λ x. covers o x (get_or (set values i v) i Unset)) (get_or-set_same row i c (nothing o) h) ∙ ap (covers o c) (get_or-set_same values i v Unset k) ∙ e))
      (λ q. ap (λ x. covers o x (get_or (set values i v) j Unset)) (get_or-set_other row i j c (nothing o) q) ∙ ap (covers o (get_or row j (nothing o))) (get_or-set_other values i j v Unset q) ∙ f j (omega (arith, length-set row i c)))
      (cases_eq j i)

-- the state before a statement, seen through its row
module _ {S : Type 0} (o : Ops S) (law : Lawful o) (vars : List Variable) (row : List (Cell S)) (s : State) (long : length row ≡ width vars) (z : Sized s) (ordered : (j : ℕ) → j < length vars → in_order (get_or vars j no_variable) ≡ true) (each : Each o row (s.cr ∷ s.values)) where
  pub cr-covered : covers o (get_or row 0 (nothing o)) s.cr ≡ true
  cr-covered = each 0 (omega arith)

  pub variable-covered : (i : ℕ) → i < length vars → covers o (get_or row (i + 1) (nothing o)) (get_or s.values i Unset) ≡ true
  variable-covered i l = subst (λ k. covers o (get_or row k (nothing o)) (get_or s.values i Unset) ≡ true) (sym (add-one i)) (each (suc i) (omega arith))

  -- a variable's declared kind has a sized value
  kind-sized : (i : ℕ) → i < length vars → is_sized (kind_value vars i) ≡ true
  kind-sized i l =
      let v = get_or vars i no_variable in
      proper-sized v.declaration.initial (and_parts (is_int v.range.high) (is_proper v.declaration.initial) (and_parts (is_int v.range.low) _ (and_parts (le_z v.range.low v.range.high) _ (ordered i l)).1).1).1

  module _ (ss : List Statement) where
    pub operand-sized : (op : Operation) → names_only (length vars) ss op ≡ true → is_sized (operand vars s.values op) ≡ true
    operand-sized operation.Return n = refl
    operand-sized operation.Not n = refl
    operand-sized (operation.Label name) n = refl
    operand-sized (operation.Apply p (Constant k)) n = proper-sized k n
    operand-sized (operation.Apply p (variable i)) n = z.values i
    operand-sized (operation.Store St i) n = kind-sized i (ltb-true i (length vars) n)
    operand-sized (operation.Store Stn i) n = kind-sized i (ltb-true i (length vars) n)
    operand-sized (operation.Store Set i) n = z.values i
    operand-sized (operation.Store Reset i) n = z.values i
    operand-sized (operation.Jump j t) n = refl

    pub operand-covered : (op : Operation) → names_only (length vars) ss op ≡ true → covers o (operand_in o vars row op) (operand vars s.values op) ≡ true
    operand-covered operation.Return n = refl
    operand-covered operation.Not n = refl
    operand-covered (operation.Label name) n = refl
    operand-covered (operation.Apply p (Constant k)) n = value-covers o law (value_of k) (proper-sized k n)
    operand-covered (operation.Apply p (variable i)) n = variable-covered i (ltb-true i (length vars) n)
    operand-covered (operation.Store St i) n = value-covers o law (kind_value vars i) (kind-sized i (ltb-true i (length vars) n))
    operand-covered (operation.Store Stn i) n = value-covers o law (kind_value vars i) (kind-sized i (ltb-true i (length vars) n))
    operand-covered (operation.Store Set i) n = variable-covered i (ltb-true i (length vars) n)
    operand-covered (operation.Store Reset i) n = variable-covered i (ltb-true i (length vars) n)
    operand-covered (operation.Jump j t) n = refl

    -- what is kept of the current result and of the operand covers the values that are accepted together
    module _ (op : Operation) (n : names_only (length vars) ss op ≡ true) where
      abbrev x : Value
      x = operand vars s.values op

      pub operand-has : has o (operand_in o vars row op) (sort_of x) ≡ true
      operand-has = covers-has o law (operand_in o vars row op) x (operand-sized op n) (operand-covered op n)

      pub cr-has : has o (get_or row 0 (nothing o)) (sort_of s.cr) ≡ true
      cr-has = covers-has o law (get_or row 0 (nothing o)) s.cr z.cr cr-covered

      module _ (a : accepted op (sort_of s.cr) (sort_of x) ≡ true) where
        pub left-covers : covers o (left_of o vars row op) s.cr ≡ true
        left-covers = kept-covers o law (left_kept o op (operand_in o vars row op)) (get_or row 0 (nothing o)) s.cr (any-from (λ b. has o (operand_in o vars row op) b && accepted op (sort_of s.cr) b) (sort_of x) (and_from (has o (operand_in o vars row op) (sort_of x)) _ operand-has a)) cr-covered

        pub right-covers : covers o (right_of o vars row op) x ≡ true
        right-covers = kept-covers o law (right_kept o op (get_or row 0 (nothing o))) (operand_in o vars row op) x (any-from (λ b. has o (get_or row 0 (nothing o)) b && accepted op b (sort_of x)) (sort_of s.cr) (and_from (has o (get_or row 0 (nothing o)) (sort_of s.cr)) _ cr-has a)) (operand-covered op n)

        -- so something is carried
        pub carries : (edge : Edge) → carried o vars row op edge ≡ carried_by o vars row (left_of o vars row op) (right_of o vars row op) op edge
        carries edge = cond-false _ None _ (or_from (is_vacant o (left_of o vars row op)) (is_vacant o (right_of o vars row op)) (covers-some o law (left_of o vars row op) s.cr z.cr left-covers) (covers-some o law (right_of o vars row op) x (operand-sized op n) right-covers))
