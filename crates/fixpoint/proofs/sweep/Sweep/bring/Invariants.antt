use Rattle.std.proofs.Common.{◌≡◌, ◌+◌, ◌*◌, false, List, length, drop}
use Rattle.cells.specs.declared.cell.Cell.{Cell}
use Rattle.cells.specs.Cells.{nothing}
use Rattle.transfer.specs.Rows.{width, row_at}
use Rattle.table.specs.Growing.{grown}
use Rattle.fixpoint.specs.Bringing.{Gives}
use Rattle.fixpoint.proofs.Places.{Kept}
use Rattle.fixpoint.proofs.sweep.Sweep.bring.Given as goal

-- what is left of a row gives the answer, and what is left of its source is as it was
abbrev pub invariant-loop-i : goal.invariant-loop-i
invariant-loop-i g l =
    let o = g.D.Domain.ops in
    let w = width l.self.variables.now in
    let b = l.self.widening in
    goal.G-IsAlwaysCallable g l.given
    × ((row : List (Cell g.row.D.Denot)) → length row ≡ w → Gives o (λ i own cell. goal.G-post g l.given i own cell) (row_at w l.initial.cells l.from) row → grown o b l.cells l.changed (l.to * w + l.i) (drop l.i row) ≡ grown o b l.initial.cells false (l.to * w) row)
    × Kept (nothing o) l.initial.cells l.cells w l.from l.i
