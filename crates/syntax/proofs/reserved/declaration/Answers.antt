use Rattle.std.proofs.Common.{codes, sym, ap, rules}
use Rattle.numbers.proofs.Spelling.{spells}
use Rattle.syntax.specs.Tokens.{among, declaration_words}
use Rattle.syntax.proofs.reserved.declaration.Goals as goal

pub returns-in-69 : goal.returns-in-69
returns-in-69 c = sym (ap (among declaration_words) (spells c.args.bytes.now (codes "END_VAR") (search rules)))

pub returns-in-86 : goal.returns-in-86
returns-in-86 c = sym (ap (among declaration_words) (spells c.args.bytes.now (codes "VAR_INPUT") (search rules)))

pub returns-in-86-2 : goal.returns-in-86-2
returns-in-86-2 c = sym (ap (among declaration_words) (spells c.args.bytes.now (codes "VAR_OUTPUT") (search rules)))
