-- A sweep: the start row and then each row, carried along its ways on as the check carries it, is brought to the rows that it comes to.
use Rattle.std.specs.Prelude.{ℕ, ◌+◌, ◌*◌, Bool as Truth, false, cond, ◌||◌, List, [], ◌∷◌, Some, None, Option, nat_le}
use Rattle.domain.specs.Domain.{Ops}
use Rattle.program.specs.Model.{Code}
use Rattle.syntax.specs.declared.record.Operation.{Operation}
use Rattle.syntax.specs.declared.record.Statement.{Statement}
use Rattle.syntax.specs.declared.record.Variable.{Variable}
use Rattle.cells.specs.declared.cell.Cell.{Cell}
use Rattle.meaning.specs.declared.edge.Edge.{Edge}
use Rattle.meaning.specs.declared.edge.Edge.TheVariants as way
use Rattle.transfer.specs.Rows.{width, row_at, is_unreachable, start_row}
use Rattle.transfer.specs.Transfer.{carried, target_of}
use Rattle.table.specs.Growing.{Grown, unchanged, grown}

-- when to widen: from the ninth sweep on, the first being sweep 1
abbrev pub widens : ℕ → Truth
widens sweep = nat_le 9 sweep

-- one thing after another: what the second finds is what the first left
abbrev pub and_then : {S : Type 0} → Grown S → (List (Cell S) → Grown S) → Grown S
and_then g f = record { cells = (f g.cells).cells; changed = g.changed || (f g.cells).changed }

module _ {S : Type 0} (o : Ops S) (widening : Truth) (vars : List Variable) where
  -- a row that comes to statement k is brought to the row there; one that is unreachable brings nothing
  abbrev pub brought : ℕ → List (Cell S) → List (Cell S) → Grown S
  brought k row cells = cond (is_unreachable o row) (unchanged cells) (grown o widening cells false (k * width vars) row)

  -- the same for a row that may not come at all
  abbrev pub brought_if : ℕ → Option (List (Cell S)) → List (Cell S) → Grown S
  brought_if k (Some row) cells = brought k row cells
  brought_if k None cells = unchanged cells

  -- the row of statement k, carried on one way on, is brought to its target
  abbrev pub brought_on : ℕ → Operation → Edge → List (Cell S) → Grown S
  brought_on k op edge cells = brought_if (target_of k op edge) (carried o vars (row_at (width vars) cells k) op edge) cells

  -- the same on each way on, fall-through first; an unreachable row is not carried
  abbrev pub brought_from : ℕ → Operation → List (Cell S) → Grown S
  brought_from k op cells =
      cond (is_unreachable o (row_at (width vars) cells k)) (unchanged cells)
      (and_then (brought_on k op way.Fall cells) (brought_on k op way.Jump))

  -- the same for statements in their order, the first of them being statement k
  abbrev pub swept_from : Grown S → ℕ → List Statement → Grown S
  swept_from g k [] = g
  swept_from g k (s ∷ ss) = swept_from (and_then g (brought_from k s.operation)) (k + 1) ss

  -- one sweep: the start row comes first; a program without statements has no row
  abbrev pub swept_with : List Statement → List (Cell S) → Grown S
  swept_with [] cells = unchanged cells
  swept_with (s ∷ ss) cells = swept_from (brought 0 (start_row o vars) cells) 0 (s ∷ ss)

-- a sweep over a program's table, by its number from 1
abbrev pub swept : {S : Type 0} → Ops S → Code → ℕ → List (Cell S) → Grown S
swept o p sweep cells = swept_with o (widens sweep) p.variables p.statements cells
