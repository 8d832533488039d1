use Rattle.std.proofs.Common.{◌≡◌, take, string_bytes, fold}
use Rattle.notation.specs.Cells.{with_cell}
use Rattle.notation.proofs.sheet.sheet_line.Given as goal

abbrev pub invariant-loop-cell : goal.invariant-loop-cell
invariant-loop-cell g l = string_bytes l.out ≡ fold (with_cell g.D.Domain.ops g.D.Notation.written) (string_bytes l.initial.out) (take l.cell-index l.row)
