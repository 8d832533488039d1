use Rattle.std.proofs.Common.{codes, sym, ap, rules}
use Rattle.numbers.proofs.Spelling.{spells}
use Rattle.options.specs.Line.{kind_named}
use Rattle.options.proofs.names.kind_named.Goals as goal

pub returns-in-interval : goal.returns-in-interval
returns-in-interval c = sym (ap kind_named (spells c.args.word.now (codes "interval") (search rules)))
