-- The rows at which a scan starts cover the state that it starts with.
use Rattle.std.proofs.Common.{◌≡◌, ℕ, zero, suc, ◌+◌, ◌<◌, true, false, List, [], ◌∷◌, length, get_or, drop, sym, refl, ap, ◌∙◌, subst, add-one, one-add, arith}
use lib.Signed.{le_z}
use Rattle.std.proofs.lemmas.List.{length-drop, get_or-drop, get_or-map}
use Rattle.std.proofs.lemmas.Bool.{and_parts}
use Rattle.numbers.specs.Int.{is_int}
use Rattle.domain.specs.Domain.{Ops, Lawful}
use Rattle.syntax.specs.declared.record.Class.{Class}
use Rattle.syntax.specs.declared.record.Class.TheVariants.{Local, Input, Output}
use Rattle.syntax.specs.declared.record.Constant.{Constant}
use Rattle.syntax.specs.declared.record.Constant.TheVariants as constant
use Rattle.syntax.specs.declared.record.Variable.{Variable}
use Rattle.syntax.specs.Records.{no_variable}
use Rattle.reading.specs.Formed.{is_proper, in_order}
use Rattle.cells.specs.declared.value.Value.{Value}
use Rattle.cells.specs.declared.value.Value.TheVariants.{Unset, Bool, Int}
use Rattle.cells.specs.declared.cell.Cell.{Cell}
use Rattle.cells.specs.Values.{value_of}
use Rattle.cells.specs.Cells.{covers, nothing, of_value}
use Rattle.transfer.specs.Rows.{given_to, start_cell, initial_cell, initial_cells, restart_cells}
use Rattle.transfer.specs.Soundness.{GivenBy, StartedAt, SimulatesReturn, StartsCovered}
use Rattle.transfer.proofs.Covering.{contained, value-covers, proper-sized}
use Rattle.transfer.proofs.Simulation.{each_from, from_each, variable-covered}

-- the parts of a variable that is in order
range-parts : (v : Variable) → in_order v ≡ true → (is_int v.range.low ≡ true) × (is_int v.range.high ≡ true) × (is_proper v.declaration.initial ≡ true)
range-parts v e =
    let a = (and_parts (le_z v.range.low v.range.high) _ e).1 in
    let b = and_parts (is_int v.range.low) _ a in
    let c = and_parts (is_int v.range.high) (is_proper v.declaration.initial) b.1 in
    (b.0, c.0, c.1)

module _ {S : Type 0} (o : Ops S) (law : Lawful o) where
  given-covers : (k : Constant) (v : Variable) (new : Value) → is_int v.range.low ≡ true → is_int v.range.high ≡ true → GivenBy k v new → covers o (given_to o k v) new ≡ true
  given-covers (constant.Bool b) v Unset l h g = absurd g
  given-covers (constant.Bool b) v (Bool true) l h g = refl
  given-covers (constant.Bool b) v (Bool false) l h g = refl
  given-covers (constant.Bool b) v (Int n) l h g = absurd g
  given-covers (constant.Int k) v Unset l h g = absurd g
  given-covers (constant.Int k) v (Bool b) l h g = absurd g
  given-covers (constant.Int k) v (Int n) l h g = contained o law (o.span v.range.low v.range.high) n (law.span_holds v.range.low v.range.high n l h g.0 g.1)

  -- a cell that covers the old value, when a scan starts, covers the new one
  start-covers : (class : Class) (v : Variable) (c : Cell S) (old new : Value) → in_order v ≡ true → covers o c old ≡ true → StartedAt class v old new → covers o (start_cell o class v c) new ≡ true
  start-covers Local v c old new i e s = subst (λ x. covers o c x ≡ true) (sym s) e
  start-covers Input v c old new i e s = let r = range-parts v i in given-covers v.declaration.initial v new r.0 r.1 s
  start-covers Output v c old new i e s = subst (λ x. covers o c x ≡ true) (sym s) e

  restart-long : (vars : List Variable) (cells : List (Cell S)) → length (restart_cells o vars cells) ≡ length vars
  restart-long [] cells = refl
  restart-long (v ∷ vars) [] = ap suc (restart-long vars [])
  restart-long (v ∷ vars) (c ∷ cells) = ap suc (restart-long vars cells)

  restart-at : (vars : List Variable) (cells : List (Cell S)) (j : ℕ) → j < length vars → j < length cells → get_or (restart_cells o vars cells) j (nothing o) ≡ start_cell o (get_or vars j no_variable).declaration.class (get_or vars j no_variable) (get_or cells j (nothing o))
  restart-at [] cells j l k = absurd (omega arith)
  restart-at (v ∷ vars) [] j l k = absurd (omega arith)
  restart-at (v ∷ vars) (c ∷ cells) zero l k = refl
  restart-at (v ∷ vars) (c ∷ cells) (suc j) l k = restart-at vars cells j (omega arith) (omega arith)

  initial-long : (vars : List Variable) → length (initial_cells o vars) ≡ length vars
  initial-long [] = refl
  initial-long (v ∷ vars) = ap suc (initial-long vars)

  initial-at : (vars : List Variable) (j : ℕ) → j < length vars → get_or (initial_cells o vars) j (nothing o) ≡ initial_cell o (get_or vars j no_variable)
  initial-at [] j l = absurd (omega arith)
  initial-at (v ∷ vars) zero l = refl
  initial-at (v ∷ vars) (suc j) l = initial-at vars j (omega arith)

  pub simulates-return : SimulatesReturn o
  simulates-return vars ss row s b new started =
      from_each o (restart_cells o vars (drop 1 row)) new
      (λ j l.
      let lt : j < length vars = omega (arith, restart-long vars (drop 1 row)) in
      let there : j < length (drop 1 row) = omega (arith, length-drop 1 row, b.long) in
      let each = each_from o row (s.cr ∷ s.values) b.covered in
      let same : get_or (drop 1 row) j (nothing o) ≡ get_or row (j + 1) (nothing o) = get_or-drop 1 row j (nothing o) ∙ ap (λ k. get_or row k (nothing o)) (one-add j ∙ sym (add-one j)) in
      let old = ap (λ c. covers o c (get_or s.values j Unset)) same ∙ variable-covered o law vars row s b.long b.sized b.ordered each j lt in
      ap (λ c. covers o c (get_or new j Unset)) (restart-at vars (drop 1 row) j lt there)
      ∙ start-covers (get_or vars j no_variable).declaration.class (get_or vars j no_variable) (get_or (drop 1 row) j (nothing o)) (get_or s.values j Unset) (get_or new j Unset) (b.ordered j lt) old (started j lt))

  pub starts-covered : StartsCovered o
  starts-covered vars ordered new started =
      from_each o (initial_cells o vars) new
      (λ j l.
      let lt : j < length vars = omega (arith, initial-long vars) in
      let v = get_or vars j no_variable in
      let init = value_of v.declaration.initial in
      let old = value-covers o law init (proper-sized v.declaration.initial (range-parts v (ordered j lt)).2) in
      ap (λ c. covers o c (get_or new j Unset)) (initial-at vars j lt)
      ∙ start-covers v.declaration.class v (of_value o init) init (get_or new j Unset) (ordered j lt) old (subst (λ x. StartedAt v.declaration.class v x (get_or new j Unset)) (get_or-map (λ v. value_of v.declaration.initial) vars j no_variable Unset lt) (started j lt)))
