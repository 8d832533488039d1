use Rattle.std.proofs.Common.{rules}
use Rattle.program.specs.Model.{Memory}
use Rattle.commands.specs.Judging.{check_in}
use Rattle.commands.proofs.checking.check_table.Goals as goal

pub returns : goal.returns
returns g c = c.answer_by.ensures (λ (m : Memory). check_in g.D.Domain.ops g.D.Notation.read_as c.args.input.now c.args.table.now m) (λ p q r call. search rules)
