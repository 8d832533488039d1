-- One proof for each sort of word.
use Rattle.syntax.specs.declared.operator.Command.{Command}
use Rattle.syntax.specs.declared.record.Class.{Class}
use Rattle.syntax.specs.declared.record.Kind.{Kind as KindOf}
use Rattle.syntax.specs.declared.record.Constant.{Constant}
use Rattle.syntax.specs.declared.token.Sign.TheVariants as g
use Rattle.syntax.specs.declared.token.Token.{Token}
use Rattle.syntax.specs.declared.token.Token.TheVariants as t

pub by_token : (P : Token → Type 0) → P t.Name → ((k : Constant) → P (t.Constant k)) → P (t.Sign g.Colon) → P (t.Sign g.Semicolon) → P (t.Sign g.Assign) → ((b : Class) → P (t.Block b)) → P t.EndBlock → ((k : KindOf) → P (t.Kind k)) → ((c : Command) → P (t.Command c)) → (token : Token) → P token
by_token P name constant colon semicolon assign block end kind command t.Name = name
by_token P name constant colon semicolon assign block end kind command (t.Constant k) = constant k
by_token P name constant colon semicolon assign block end kind command (t.Sign g.Colon) = colon
by_token P name constant colon semicolon assign block end kind command (t.Sign g.Semicolon) = semicolon
by_token P name constant colon semicolon assign block end kind command (t.Sign g.Assign) = assign
by_token P name constant colon semicolon assign block end kind command (t.Block b) = block b
by_token P name constant colon semicolon assign block end kind command t.EndBlock = end
by_token P name constant colon semicolon assign block end kind command (t.Kind k) = kind k
by_token P name constant colon semicolon assign block end kind command (t.Command c) = command c
