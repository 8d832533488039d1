use Rattle.program.specs.Model.{code}
use Rattle.soundness.proofs.Reaching.{reachable-covered}
use Rattle.soundness.proofs.Machines.{steps-stay-covered, stops-are-marked, runs-reach, calls-are-runs}
use Rattle.soundness.proofs.promise.beside_any_passing_table.Goals as goal

pub returns : goal.returns
returns g c =
    let o = g.D.Domain.ops in
    let law = g.met.D.Domain.lawful in
    let p = code c.args.program.now in
    let formed = c.variables.ensures.formed in
    record {
      steps_stay_covered = steps-stay-covered o p formed law;
      stops_are_marked = stops-are-marked o p formed law;
      reachable_covered = reachable-covered o law p formed;
      runs_reach = runs-reach o p formed;
      calls_are_runs = calls-are-runs o p;
    }
