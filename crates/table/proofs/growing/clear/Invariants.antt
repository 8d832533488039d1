use Rattle.std.proofs.Common.{◌≡◌, take, replicate}
use Rattle.cells.specs.Cells.{nothing}
use Rattle.table.proofs.growing.clear.Given as goal

abbrev pub invariant-loop-cell : goal.invariant-loop-cell
invariant-loop-cell g l = take l.cell-index l.cells ≡ replicate l.cell-index (nothing g.D.Domain.ops)
