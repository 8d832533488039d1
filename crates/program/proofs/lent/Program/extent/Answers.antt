use Rattle.std.proofs.Common.{sym, subst}
use Rattle.program.specs.Model.{InUse}
use Rattle.program.proofs.Uses.{in-use}
use Rattle.program.proofs.lent.Program.extent.Goals as goal

pub returns-clause-there : goal.returns-clause-there
returns-clause-there c =
    let p = c.args.self.now in
    subst (λ e. InUse e p.variables.now p.statements.now) (sym c.unwrap_or.ensures) (in-use p.outcome p.variables.now p.statements.now p.filled)
