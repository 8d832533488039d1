use Rattle.std.proofs.Common.{◌≡◌, drop}
use Rattle.table_check.specs.Failures.{fails_among}
use Rattle.table_check.proofs.judged.Judged.fails_among.Given as goal

-- what is left of the statements gives the answer
abbrev pub invariant-loop-k : goal.invariant-loop-k
invariant-loop-k g l =
    let o = g.D.Domain.ops in
    fails_among o l.self.variables.now l.self.cells.now l.k (drop l.k l.self.statements.now) ≡ fails_among o l.self.variables.now l.self.cells.now 0 l.self.statements.now
