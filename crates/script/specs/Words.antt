-- What each word of a script asks for.
use Rattle.std.specs.Prelude.{ℤ, Some, None, Option}
use Rattle.numbers.specs.Number.{int_of}
use Rattle.words.specs.Words.{Lexeme, name, number, colon, semicolon, assign}
use Rattle.script.specs.declared.order.Order.{Order}
use Rattle.script.specs.declared.order.Order.TheVariants as order
use Rattle.script.specs.declared.pending.Pending.{Pending}
use Rattle.script.specs.declared.pending.Pending.TheVariants.{Ranges, Nothing, Start, Scan}
use Rattle.script.specs.declared.pending.Act.{Act}
use Rattle.script.specs.declared.pending.Act.TheVariants.{Pass, Number, Call, Unknown}
use Rattle.script.specs.Orders.{order_named}

-- a number before the first call is one of the ranges, and one behind start or scan an input; elsewhere none fits
abbrev pub number_act : Pending → Option ℤ → Option Act
number_act Ranges n = Some Pass
number_act Nothing n = None
number_act Start None = None
number_act Start (Some n) = Some (Number n)
number_act Scan None = None
number_act Scan (Some n) = Some (Number n)

-- a name is a call or not
abbrev pub name_act : Option Order → Act
name_act (Some o) = Call o
name_act None = Unknown

-- what a word asks for; none where it does not fit
abbrev pub act_on : Pending → Lexeme → Option Act
act_on p (name bytes) = Some (name_act (order_named bytes))
act_on p (number bytes) = number_act p (int_of bytes)
act_on p colon = None
act_on p semicolon = None
act_on p assign = None

-- what the numbers after a call belong to
abbrev pub pending_after : Order → Pending
pending_after order.Start = Start
pending_after order.Scan = Scan
pending_after order.Step = Nothing
pending_after order.Restart = Nothing
pending_after order.Read = Nothing
