use Rattle.std.proofs.Common.{rules}
use Rattle.program.specs.Model.{Memory}
use Rattle.commands.specs.Running.{run_refusal_in}
use Rattle.commands.proofs.running.run.Goals as goal

pub returns : goal.returns
returns g c = c.answer_by.ensures (λ (m : Memory). run_refusal_in c.args.input.now m) (λ p q r call. search rules)
