-- The cells of rows that are brought in place, by their index and the cell there before.
use Rattle.std.specs.Prelude.{◌≡◌, ℕ, ◌-◌, ◌<◌, cond, List, length, get_or, ◌==◌, slice_index_or}
use Rattle.domain.specs.Domain.{Ops}
use Rattle.syntax.specs.declared.record.Variable.{Variable}
use Rattle.syntax.specs.Records.{no_variable}
use Rattle.cells.specs.declared.value.Value.TheVariants.{Unset}
use Rattle.cells.specs.declared.cell.Cell.{Cell}
use Rattle.cells.specs.Cells.{nothing, of_value}
use Rattle.transfer.specs.Rows.{start_cell}

module _ {S : Type 0} (o : Ops S) where
  -- calls give each cell of a row, from its index and the cell there in another row
  abbrev pub Gives : (ℕ → Cell S → Cell S → Type 0) → List (Cell S) → List (Cell S) → Type 0
  Gives call source row = (i : ℕ) (cell : Cell S) → i < length row → call i (slice_index_or source i (nothing o)) cell → cell ≡ slice_index_or row i (nothing o)

  -- one cell of a row with another current result and another variable
  abbrev pub changed_at : Cell S → ℕ → Cell S → ℕ → Cell S → Cell S
  changed_at cr variable cell i own = cond (i == 0) cr (cond (i - 1 == variable) cell own)

  -- one cell of the row that a return leaves
  abbrev pub restarted_at : List Variable → ℕ → Cell S → Cell S
  restarted_at vars i own =
      cond (i == 0) (of_value o Unset)
      (start_cell o (get_or vars (i - 1) no_variable).declaration.class (slice_index_or vars (i - 1) no_variable) own)
