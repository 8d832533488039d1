use Rattle.std.proofs.Common.{◌≡◌, ℕ, ◌<◌, get_or}
use Rattle.table_check.specs.Sheets.{no_marks, marks_at}
use Rattle.table_check.proofs.judged.Judged.write_marks.Given as goal

abbrev pub invariant-loop-k : goal.invariant-loop-k
invariant-loop-k g l =
    (j : ℕ) → j < l.k → get_or l.marks j no_marks ≡ marks_at g.D.Domain.ops (record { variables = l.self.variables.now; statements = l.self.statements.now }) l.self.cells.now j
