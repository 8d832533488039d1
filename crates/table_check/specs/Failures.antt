-- The first cell of a table that does not take in what is carried to it: by start row, statement, way on (fall-through first) and cell.
use Rattle.std.specs.Prelude.{ℕ, ◌+◌, ◌*◌, cond, List, [], ◌∷◌, Some, None, Option, slice_index_or}
use Rattle.domain.specs.Domain.{Ops}
use Rattle.program.specs.Model.{Code}
use Rattle.syntax.specs.declared.record.Operation.{Operation}
use Rattle.syntax.specs.declared.record.Statement.{Statement}
use Rattle.syntax.specs.declared.record.Variable.{Variable}
use Rattle.cells.specs.declared.cell.Cell.{Cell}
use Rattle.cells.specs.Cells.{nothing, within}
use Rattle.meaning.specs.declared.edge.Edge.{Edge}
use Rattle.meaning.specs.declared.edge.Edge.TheVariants as way
use Rattle.transfer.specs.Rows.{width, row_at, is_unreachable, start_row}
use Rattle.transfer.specs.Transfer.{carried, target_of}

-- the first of two places, where there is one
abbrev pub or_else : Option ℕ → Option ℕ → Option ℕ
or_else (Some place) other = Some place
or_else None other = other

module _ {S : Type 0} (o : Ops S) (vars : List Variable) (table : List (Cell S)) where
  -- the first place from `start` on whose cell does not take in the row's cell that comes there
  abbrev pub first_outside : ℕ → List (Cell S) → Option ℕ
  first_outside start [] = None
  first_outside start (c ∷ cells) = cond (within o c (slice_index_or table start (nothing o))) (first_outside (start + 1) cells) (Some start)

  -- where a row that comes to statement k is not taken in; one that is unreachable asks nothing
  abbrev pub fails_at : ℕ → List (Cell S) → Option ℕ
  fails_at k row = cond (is_unreachable o row) None (first_outside (k * width vars) row)

  -- the same for a row that may not come at all
  abbrev pub fails_if : ℕ → Option (List (Cell S)) → Option ℕ
  fails_if k (Some row) = fails_at k row
  fails_if k None = None

  -- where the row of statement k, carried on one way on, is not taken in
  abbrev pub fails_on : ℕ → Operation → Edge → Option ℕ
  fails_on k op edge = fails_if (target_of k op edge) (carried o vars (row_at (width vars) table k) op edge)

  -- the same on each way on, fall-through first
  abbrev pub fails_from : ℕ → Operation → Option ℕ
  fails_from k op = cond (is_unreachable o (row_at (width vars) table k)) None (or_else (fails_on k op way.Fall) (fails_on k op way.Jump))

  -- the same for statements in their order, the first of them being statement k
  abbrev pub fails_among : ℕ → List Statement → Option ℕ
  fails_among k [] = None
  fails_among k (s ∷ ss) = or_else (fails_from k s.operation) (fails_among (k + 1) ss)

  -- the start row comes first; a program without statements asks nothing
  abbrev pub fails_with : List Statement → Option ℕ
  fails_with [] = None
  fails_with (s ∷ ss) = or_else (fails_at 0 (start_row o vars)) (fails_among 0 (s ∷ ss))

-- the first place of a program's table that does not take in what is carried there
abbrev pub first_failure : {S : Type 0} → Ops S → Code → List (Cell S) → Option ℕ
first_failure o p table = fails_with o p.variables table p.statements
