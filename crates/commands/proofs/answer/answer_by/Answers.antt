use Rattle.std.proofs.Common.{◌≡◌, subst, rules}
use Rattle.std.specs.Fn.{FnOnceReturnsAtMut}
use Rattle.program.specs.Model.{Memory, memory, read_memory}
use Rattle.reading.specs.Reading.{reading}
use Rattle.commands.specs.Endings.{Ends}
use Rattle.commands.proofs.answer.answer_by.Goals as goal

pub returns : goal.returns
returns g c = λ want each.
    let called : FnOnceReturnsAtMut g.J.FnOnce c.args.job c.read-program.result c.job-ending.result c.job-ending.new.arg2 = search rules in
    let same : memory c.read-program.result ≡ read_memory (reading c.args.text.now c.args.options.variables c.args.options.statements) = search rules in
    c.conclude.ensures _ (subst (λ (m : Memory). Ends c.job-ending.result (want m)) same (each _ _ _ called))
