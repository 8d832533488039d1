-- How long carried rows are.
use Rattle.std.proofs.Common.{◌≡◌, ◌+◌, ◌||◌, List, [], ◌∷◌, length, drop, set, Some, None, Option, refl, ap, ◌∙◌, subst, arith, length-set}
use Rattle.std.proofs.lemmas.Bool.{cond_both}
use Rattle.domain.specs.Domain.{Ops}
use Rattle.syntax.specs.declared.operator.Jump.{Jump}
use Rattle.syntax.specs.declared.operator.Jump.TheVariants.{Jmp, Jmpc, Jmpcn}
use Rattle.syntax.specs.declared.record.Operation.{Operation}
use Rattle.syntax.specs.declared.record.Operation.TheVariants as operation
use Rattle.syntax.specs.declared.record.Variable.{Variable}
use Rattle.cells.specs.declared.cell.Cell.{Cell}
use Rattle.cells.specs.declared.value.Value.TheVariants.{Unset}
use Rattle.cells.specs.Cells.{is_vacant, of_value}
use Rattle.meaning.specs.declared.edge.Edge.{Edge}
use Rattle.meaning.specs.declared.edge.Edge.TheVariants as way
use Rattle.transfer.specs.declared.carry.Change.{Change}
use Rattle.transfer.specs.declared.carry.Change.TheVariants as change
use Rattle.transfer.specs.Rows.{width, start_row, initial_cell, initial_cells, restart_cells}
use Rattle.transfer.specs.Transfer.{on_fall, on_jump, jump_carried, carried_by, carried, return_row, left_of, right_of, stored_cell}
use Rattle.transfer.specs.Carrying.{changed_row}
use Rattle.transfer.proofs.Changes.{restart-length}
use Rattle.table.proofs.Starting.{initial-length}

module _ {S : Type 0} (o : Ops S) (vars : List Variable) where
  -- a row that is carried, where one is, has the program's width
  abbrev Wide : Option (List (Cell S)) → Type 0
  Wide (Some row) = length row ≡ width vars
  Wide None = Unit {0}

  pub return-length : (row : List (Cell S)) → length (return_row o vars row) ≡ width vars
  return-length row = omega (arith, restart-length o vars (drop 1 row))

  module _ (row : List (Cell S)) (long : length row ≡ width vars) where
    fall-wide : (e : Edge) (next : List (Cell S)) → length next ≡ width vars → Wide (on_fall o e next)
    fall-wide way.Fall next h = h
    fall-wide way.Jump next h = tt

    jump-wide : (e : Edge) (next : List (Cell S)) → length next ≡ width vars → Wide (on_jump o e next)
    jump-wide way.Fall next h = tt
    jump-wide way.Jump next h = h

    result-length : (x : Cell S) → length (set row 0 x) ≡ width vars
    result-length x = length-set row 0 x ∙ long

    jumps-wide : (j : Jump) (e : Edge) (x : Cell S) → Wide (jump_carried o j e row x)
    jumps-wide Jmp way.Fall x = tt
    jumps-wide Jmp way.Jump x = result-length _
    jumps-wide Jmpc way.Fall x = result-length _
    jumps-wide Jmpc way.Jump x = result-length _
    jumps-wide Jmpcn way.Fall x = result-length _
    jumps-wide Jmpcn way.Jump x = result-length _

    by_wide : (x y : Cell S) (op : Operation) (e : Edge) → Wide (carried_by o vars row x y op e)
    by_wide x y operation.Return e = jump-wide e (return_row o vars row) (return-length row)
    by_wide x y operation.Not e = fall-wide e _ (result-length _)
    by_wide x y (operation.Label name) e = fall-wide e _ (result-length _)
    by_wide x y (operation.Apply p z) e = fall-wide e _ (result-length _)
    by_wide x y (operation.Store s i) e = fall-wide e _ (length-set (set row 0 x) (i + 1) (stored_cell o s x y) ∙ result-length x)
    by_wide x y (operation.Jump j t) e = jumps-wide j e x

    pub carried-length : (op : Operation) (e : Edge) (next : List (Cell S)) → carried o vars row op e ≡ Some next → length next ≡ width vars
    carried-length op e next is =
        subst Wide is
        (cond_both (is_vacant o (left_of o vars row op) || is_vacant o (right_of o vars row op)) None
        (carried_by o vars row (left_of o vars row op) (right_of o vars row op) op e) Wide (λ v. tt)
        (λ v. by_wide (left_of o vars row op) (right_of o vars row op) op e))

    -- the same of a row by what is new in it
    pub changed-length : (x : Cell S) (c : Change S) → length (changed_row o vars row x c) ≡ width vars
    changed-length x change.Nothing = result-length x
    changed-length x (change.Variable i c) = length-set (set row 0 x) (i + 1) c ∙ result-length x
    changed-length x change.Inputs = return-length row

-- the start row has the program's width
pub start-length : {S : Type 0} (o : Ops S) (vars : List Variable) → length (start_row o vars) ≡ width vars
start-length o vars = omega (arith, initial-length o vars)

restart-starts : {S : Type 0} (o : Ops S) (vars : List Variable) → restart_cells o vars [] ≡ initial_cells o vars
restart-starts o [] = refl
restart-starts o (v ∷ vars) = ap (λ cells. initial_cell o v ∷ cells) (restart-starts o vars)

-- the start row is what a return leaves where there is no row
pub return-starts : {S : Type 0} (o : Ops S) (vars : List Variable) → return_row o vars [] ≡ start_row o vars
return-starts o vars = ap (λ cells. of_value o Unset ∷ cells) (restart-starts o vars)
