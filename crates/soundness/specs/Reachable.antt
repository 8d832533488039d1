-- The states that a program can come to: scan after scan, statement after statement, whatever its inputs are given.
use Rattle.std.specs.Prelude.{◌≡◌, ℕ, ◌<◌, ◌≤◌, true, List, length, Ok, ◌≢◌, slice_index_or}
use Rattle.domain.specs.Domain.{Ops}
use Rattle.syntax.specs.declared.record.Operation.TheVariants.{Return}
use Rattle.program.specs.Model.{Code}
use Rattle.cells.specs.declared.value.Value.{Value}
use Rattle.cells.specs.declared.value.Value.TheVariants.{Unset}
use Rattle.cells.specs.declared.cell.Cell.{Cell}
use Rattle.cells.specs.Values.{is_sized}
use Rattle.meaning.specs.declared.edge.Edge.{Edge}
use Rattle.meaning.specs.Meaning.{State, perform}
use Rattle.transfer.specs.Rows.{width, row_at}
use Rattle.transfer.specs.Transfer.{target_of}
use Rattle.transfer.specs.Soundness.{Started, initial_values, CoversState}
use Rattle.table.specs.Tables.{operation_at}
use Rattle.table_check.specs.Passing.{Passes}

-- the values with which a scan starts: each input has one inside its range, the others keep theirs; there is a place for each variable, and every number is an INT
pub record Given (p : Code) (old new : List Value) : Type 0 where
  pub started : Started p.variables old new
  pub there : length p.variables ≤ length new
  pub sized : (j : ℕ) → is_sized (slice_index_or new j Unset) ≡ true

-- a scan starts with the current result unset
abbrev pub at_start : List Value → State
at_start values = record { cr = Unset; values = values }

-- the statements before which a program can be, and the current results and values that it can have there:
-- the first scan starts from the initial values; a statement that is no return leads on to its target;
-- and behind a return the next scan starts from the values that are there
pub data Reachable (p : Code) : ℕ → State → Type 0 where
  first : (new : List Value) → 0 < length p.statements → Given p (initial_values p.variables) new → Reachable p 0 (at_start new)
  next : (k : ℕ) (s : State) (edge : Edge) (t : State) → Reachable p k s → (operation_at p.statements k ≢ Return) → perform p.variables (operation_at p.statements k) s ≡ Ok (edge, t) → Reachable p (target_of k (operation_at p.statements k) edge) t
  again : (k : ℕ) (s : State) (new : List Value) → Reachable p k s → operation_at p.statements k ≡ Return → Given p s.values new → Reachable p 0 (at_start new)

-- in a table that passes, the row of a statement covers every state that the program can come to before it
abbrev pub ReachableCovered : {S : Type 0} → Ops S → Code → Type 0
ReachableCovered {S} o p = (table : List (Cell S)) → Passes o p table → (k : ℕ) (s : State) → Reachable p k s → CoversState o (row_at (width p.variables) table k) s
