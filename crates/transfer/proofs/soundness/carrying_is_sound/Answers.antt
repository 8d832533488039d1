use Rattle.transfer.proofs.Simulates.{simulates}
use Rattle.transfer.proofs.Starts.{simulates-return, starts-covered}
use Rattle.transfer.proofs.Foresees.{foresees}
use Rattle.transfer.proofs.soundness.carrying_is_sound.Goals as goal

pub returns : goal.returns
returns g c = record {
  simulates = simulates g.D.Domain.ops g.met.D.Domain.lawful;
  simulates_return = simulates-return g.D.Domain.ops g.met.D.Domain.lawful;
  starts_covered = starts-covered g.D.Domain.ops g.met.D.Domain.lawful;
  foresees = foresees g.D.Domain.ops g.met.D.Domain.lawful;
}
