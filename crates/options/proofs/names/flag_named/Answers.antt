use Rattle.std.proofs.Common.{codes, sym, ap, rules}
use Rattle.numbers.proofs.Spelling.{spells}
use Rattle.options.specs.Line.{flag_named}
use Rattle.options.proofs.names.flag_named.Goals as goal

pub returns-in-45 : goal.returns-in-45
returns-in-45 c = sym (ap flag_named (spells c.args.word.now (codes "--statements") (search rules)))

pub returns-in-45-2 : goal.returns-in-45-2
returns-in-45-2 c = sym (ap flag_named (spells c.args.word.now (codes "--variables") (search rules)))

pub returns-in-45-3 : goal.returns-in-45-3
returns-in-45-3 c = sym (ap flag_named (spells c.args.word.now (codes "--sweeps") (search rules)))

pub returns-in-45-4 : goal.returns-in-45-4
returns-in-45-4 c = sym (ap flag_named (spells c.args.word.now (codes "--kind") (search rules)))

pub returns-in-45-5 : goal.returns-in-45-5
returns-in-45-5 c = sym (ap flag_named (spells c.args.word.now (codes "--explain") (search rules)))
