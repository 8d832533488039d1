-- A carried row by what is new in it: the current result, and at most one variable or the inputs.
use Rattle.std.specs.Prelude.{ℕ, ◌+◌, Bool as Truth, true, false, cond, List, Some, None, Option, nat_lt}
use Rattle.domain.specs.Domain.{Ops}
use Rattle.syntax.specs.declared.operator.Jump.{Jump}
use Rattle.syntax.specs.declared.operator.Jump.TheVariants.{Jmp, Jmpc, Jmpcn}
use Rattle.syntax.specs.declared.record.Operation.{Operation}
use Rattle.syntax.specs.declared.record.Operation.TheVariants as operation
use Rattle.syntax.specs.declared.record.Variable.{Variable}
use Rattle.cells.specs.declared.value.Value.TheVariants.{Unset}
use Rattle.cells.specs.declared.cell.Cell.{Cell}
use Rattle.cells.specs.Cells.{of_value}
use Rattle.meaning.specs.declared.edge.Edge.{Edge}
use Rattle.meaning.specs.declared.edge.Edge.TheVariants as way
use Rattle.transfer.specs.declared.carry.Change.{Change}
use Rattle.transfer.specs.declared.carry.Change.TheVariants as change
use Rattle.transfer.specs.declared.carry.Carried.{Carried}
use Rattle.transfer.specs.Transfer.{opposites, transferred, stored_cell, only_truth, with_result, with_variable, return_row, target_of}

-- what an option holds, as a function gives it
abbrev pub mapped : {A B : Type 0} → (A → B) → Option A → Option B
mapped f (Some x) = Some (f x)
mapped f None = None

module _ {S : Type 0} (o : Ops S) where
  abbrev pub changed_row : List Variable → List (Cell S) → Cell S → Change S → List (Cell S)
  changed_row vars row x change.Nothing = with_result o row x
  changed_row vars row x (change.Variable i c) = with_variable o row x i c
  changed_row vars row x change.Inputs = return_row o vars row

  -- the row that a change of another row stands for
  abbrev pub row_of : List Variable → List (Cell S) → Carried S → List (Cell S)
  row_of vars row c = changed_row vars row c.cr c.change

  -- every input is given a value anew
  abbrev pub gives_inputs : Change S → Truth
  gives_inputs change.Nothing = false
  gives_inputs (change.Variable i c) = false
  gives_inputs change.Inputs = true

  -- only the current result is new
  abbrev pub resulting : Cell S → Carried S
  resulting x = record { cr = x; change = change.Nothing }

  abbrev pub jump_change : Jump → Edge → Cell S → Option (Carried S)
  jump_change Jmp way.Fall x = None
  jump_change Jmp way.Jump x = Some (resulting x)
  jump_change Jmpc way.Fall x = Some (resulting (only_truth o false x))
  jump_change Jmpc way.Jump x = Some (resulting (only_truth o true x))
  jump_change Jmpcn way.Fall x = Some (resulting (only_truth o true x))
  jump_change Jmpcn way.Jump x = Some (resulting (only_truth o false x))

  abbrev pub fall_change : Edge → Carried S → Option (Carried S)
  fall_change way.Fall c = Some c
  fall_change way.Jump c = None

  abbrev pub return_change : Edge → Option (Carried S)
  return_change way.Fall = None
  return_change way.Jump = Some (record { cr = of_value o Unset; change = change.Inputs })

  -- what is new on each way on, where x and y are what is kept of the current result and the operand
  abbrev pub change_by : Cell S → Cell S → Operation → Edge → Option (Carried S)
  change_by x y operation.Return edge = return_change edge
  change_by x y operation.Not edge = fall_change edge (resulting (opposites o x))
  change_by x y (operation.Label name) edge = fall_change edge (resulting x)
  change_by x y (operation.Apply p z) edge = fall_change edge (resulting (transferred o p x y))
  change_by x y (operation.Store s i) edge = fall_change edge (record { cr = x; change = change.Variable i (stored_cell o s x y) })
  change_by x y (operation.Jump j t) edge = jump_change j edge x

-- the next statement's number, where a usize holds it
abbrev pub next_of : ℕ → ℕ
next_of k = cond (nat_lt k 18446744073709551615) (k + 1) k

-- the statement that a way on leads to, by numbers that a usize holds
abbrev pub target_held : ℕ → Operation → Edge → ℕ
target_held k op way.Fall = next_of k
target_held k op way.Jump = target_of k op way.Jump
