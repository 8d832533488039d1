use Rattle.fixpoint.proofs.Passed.{settled-tables-pass}
use Rattle.fixpoint.proofs.settling.settling_is_sound.Goals as goal

pub returns : goal.returns
returns g c = settled-tables-pass g.D.Domain.ops
