use Rattle.std.proofs.Common.{rules}
use Rattle.program.specs.Model.{Memory}
use Rattle.commands.specs.Refusal.{refusal_in}
use Rattle.commands.proofs.answer.list.Goals as goal

pub returns : goal.returns
returns c = c.answer_by.ensures (λ (m : Memory). refusal_in c.args.input.now m) (λ p q r call. search rules)
