-- Rows: a cell for the current result and one for each variable; the row that starts a program, and the one a return leaves.
use Rattle.std.specs.Prelude.{ℕ, ◌+◌, ◌*◌, Bool as Truth, true, ◌&&◌, List, [], ◌∷◌, map, length, take, drop}
use Rattle.std.specs.List.{list_any}
use Rattle.domain.specs.Domain.{Ops}
use Rattle.syntax.specs.declared.record.Class.{Class}
use Rattle.syntax.specs.declared.record.Class.TheVariants.{Local, Input, Output}
use Rattle.syntax.specs.declared.record.Constant.{Constant}
use Rattle.syntax.specs.declared.record.Constant.TheVariants.{Bool, Int}
use Rattle.syntax.specs.declared.record.Variable.{Variable}
use Rattle.cells.specs.declared.value.Value.{Value}
use Rattle.cells.specs.declared.value.Value.TheVariants.{Unset}
use Rattle.cells.specs.declared.cell.Cell.{Cell}
use Rattle.cells.specs.Values.{value_of}
use Rattle.cells.specs.Cells.{covers, is_vacant, of_value, of_range, either_truth}

-- the cells of a row: one for the current result and one for each variable
abbrev pub width : List Variable → ℕ
width vars = length vars + 1

-- the row before statement k, in a table that lies row after row
abbrev pub row_at : {X : Type 0} → ℕ → List X → ℕ → List X
row_at w table k = take w (drop (k * w) table)

module _ {S : Type 0} (o : Ops S) where
  -- each cell covers its value; a value that is not there is unset
  abbrev pub covers_all : List (Cell S) → List Value → Truth
  covers_all [] values = true
  covers_all (c ∷ cells) [] = covers o c Unset && covers_all cells []
  covers_all (c ∷ cells) (v ∷ values) = covers o c v && covers_all cells values

  -- a row with a vacant cell is unreachable
  abbrev pub is_unreachable : List (Cell S) → Truth
  is_unreachable cells = list_any (is_vacant o) cells

  -- what an input can be given: a BOOL either truth, an INT its range
  abbrev pub given_to : Constant → Variable → Cell S
  given_to (Bool b) v = either_truth o
  given_to (Int n) v = of_range o v.range.low v.range.high

  -- the cell of a variable when a scan starts: an input is given a value, the others keep theirs
  abbrev pub start_cell : Class → Variable → Cell S → Cell S
  start_cell Local v c = c
  start_cell Input v c = given_to v.declaration.initial v
  start_cell Output v c = c

  abbrev pub initial_cell : Variable → Cell S
  initial_cell v = start_cell v.declaration.class v (of_value o (value_of v.declaration.initial))

  abbrev pub initial_cells : List Variable → List (Cell S)
  initial_cells vars = map initial_cell vars

  -- the start row: the current result is unset, and the variables have their initial values or what they are given
  abbrev pub start_row : List Variable → List (Cell S)
  start_row vars = of_value o Unset ∷ initial_cells vars

  abbrev pub restart_cells : List Variable → List (Cell S) → List (Cell S)
  restart_cells [] cells = []
  restart_cells (v ∷ vars) [] = initial_cell v ∷ restart_cells vars []
  restart_cells (v ∷ vars) (c ∷ cells) = start_cell v.declaration.class v c ∷ restart_cells vars cells
