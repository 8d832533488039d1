use Rattle.std.proofs.Common.{◌≡◌, drop}
use Rattle.fixpoint.specs.Sweeps.{swept_from}
use Rattle.fixpoint.proofs.sweep.Sweep.over.Given as goal

-- what is left of the statements gives the answer
abbrev pub invariant-loop-number : goal.invariant-loop-number
invariant-loop-number g l =
    let o = g.D.Domain.ops in
    swept_from o l.self.widening l.self.variables.now (record { cells = l.cells; changed = l.changed }) l.number (drop l.number l.self.statements.now)
    ≡ swept_from o l.self.widening l.self.variables.now (record { cells = l.initial.cells; changed = l.initial.changed }) 0 l.self.statements.now
