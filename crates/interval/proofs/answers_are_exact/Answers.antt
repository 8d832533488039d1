use Rattle.interval.proofs.Exactness.{exact}
use Rattle.interval.proofs.answers_are_exact.Goals as goal

pub returns : goal.returns
returns c = exact
