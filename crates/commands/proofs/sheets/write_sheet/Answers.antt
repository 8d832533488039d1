use Rattle.std.proofs.Common.{rules, min}
use Rattle.program.specs.Model.{Memory}
use Rattle.commands.specs.Judging.{sheet_in}
use Rattle.commands.proofs.sheets.write_sheet.Goals as goal

pub returns : goal.returns
returns g c = c.answer_by.ensures (λ (m : Memory). sheet_in g.D.Domain.ops (min c.args.options.sweeps 65535) c.args.input.now m) (λ p q r call. search rules)
