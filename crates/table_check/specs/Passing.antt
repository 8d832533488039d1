-- When a table passes: each row that is carried lies within the row of the statement that it comes to.
use Rattle.std.specs.Prelude.{◌≡◌, ℕ, ◌<◌, true, false, List, length, Some, slice_index_or}
use Rattle.domain.specs.Domain.{Ops}
use Rattle.program.specs.Model.{Code}
use Rattle.cells.specs.declared.cell.Cell.{Cell}
use Rattle.cells.specs.Cells.{nothing, within}
use Rattle.meaning.specs.declared.edge.Edge.{Edge}
use Rattle.transfer.specs.Rows.{width, row_at, is_unreachable, start_row}
use Rattle.transfer.specs.Transfer.{carried, target_of}
use Rattle.table.specs.Tables.{operation_at, table_size}

module _ {S : Type 0} (o : Ops S) where
  -- each cell of a row is within the cell at its place in another row
  abbrev pub RowWithin : List (Cell S) → List (Cell S) → Type 0
  RowWithin row target = (i : ℕ) → i < length row → within o (slice_index_or row i (nothing o)) (slice_index_or target i (nothing o)) ≡ true

  -- a row that comes to statement k is within the row there; one that is unreachable asks nothing
  abbrev pub TakenIn : Code → List (Cell S) → ℕ → List (Cell S) → Type 0
  TakenIn p table k row = is_unreachable o row ≡ false → RowWithin row (row_at (width p.variables) table k)

  -- a table passes for a program and its ranges
  pub record Passes (p : Code) (table : List (Cell S)) : Type 0 where
    -- it has a row for each statement
    pub sized : length table ≡ table_size p
    -- the start row is within the row of statement 0
    pub starts : 0 < length p.statements → TakenIn p table 0 (start_row o p.variables)
    -- each reachable row, carried along its statement on each way on, is within the row of its target
    pub carries : (k : ℕ) → k < length p.statements → is_unreachable o (row_at (width p.variables) table k) ≡ false → (edge : Edge) (next : List (Cell S)) → carried o p.variables (row_at (width p.variables) table k) (operation_at p.statements k) edge ≡ Some next → TakenIn p table (target_of k (operation_at p.statements k) edge) next
