use Rattle.std.proofs.Common.{codes, rules, sym, ap}
use Rattle.numbers.proofs.Spelling.{spells}
use Rattle.script.specs.Orders.{order_named}
use Rattle.script.proofs.order.order_named.Goals as goal

pub returns-in-restart : goal.returns-in-restart
returns-in-restart c = sym (ap order_named (spells c.args.word.now (codes "restart") (search rules)))
