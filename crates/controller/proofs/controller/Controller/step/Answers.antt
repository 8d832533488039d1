use Rattle.controller.specs.Machine.{machine, code_of, to_step, reply}
use Rattle.controller.proofs.Laws.{step-laws, step_of}
use Rattle.controller.proofs.Alike.{runs-alike}
use Rattle.controller.proofs.controller.Controller.step.Goals as goal

pub returns-clause-laws : goal.returns-clause-laws
returns-clause-laws g c =
    let k = c.args.self.now in
    let sight = c.look-sight.result in
    let d = c.dispatch.ensures.reply in
    step_of (reply (code_of k) (to_step sight) (machine k)) (machine k) (machine c.dispatch.new.self) c.dispatch.result d.answer d.next (step-laws (code_of k) k.phase sight (machine k))

pub returns-clause-alike : goal.returns-clause-alike
returns-clause-alike g c = runs-alike g.D.Domain.ops (code_of c.args.self.now)
