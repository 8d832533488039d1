-- An operator's spelling, looked up in the table of reserved words, is that operator.
use Rattle.std.proofs.Common.{◌≡◌, ℕ, List, Some, refl, ap, ◌∙◌}
use Rattle.syntax.specs.declared.operator.Operator.{Operator}
use Rattle.syntax.specs.declared.operator.Operator.TheVariants.{Ld, Ldn, And, Andn, Or, Orn, Xor, Xorn, Add, Sub, Mul, Div, Gt, Ge, Lt, Le, Eq, Ne}
use Rattle.syntax.specs.declared.operator.Store.{Store}
use Rattle.syntax.specs.declared.operator.Store.TheVariants.{St, Stn, Set, Reset}
use Rattle.syntax.specs.declared.operator.Jump.{Jump}
use Rattle.syntax.specs.declared.operator.Jump.TheVariants.{Jmp, Jmpc, Jmpcn}
use Rattle.syntax.specs.declared.operator.Command.{Command}
use Rattle.syntax.specs.declared.operator.Command.TheVariants as c
use Rattle.syntax.specs.declared.token.Token.TheVariants as t
use Rattle.syntax.specs.Tokens.{among, reserved_words}
use Rattle.commands.specs.Spelling.{operator_spelling, store_spelling, jump_spelling, spelling}

operator-reads-back : (o : Operator) → among reserved_words (operator_spelling o) ≡ Some (t.Command (c.Apply o))
operator-reads-back Ld = refl
operator-reads-back Ldn = refl
operator-reads-back And = refl
operator-reads-back Andn = refl
operator-reads-back Or = refl
operator-reads-back Orn = refl
operator-reads-back Xor = refl
operator-reads-back Xorn = refl
operator-reads-back Add = refl
operator-reads-back Sub = refl
operator-reads-back Mul = refl
operator-reads-back Div = refl
operator-reads-back Gt = refl
operator-reads-back Ge = refl
operator-reads-back Lt = refl
operator-reads-back Le = refl
operator-reads-back Eq = refl
operator-reads-back Ne = refl

store-reads-back : (s : Store) → among reserved_words (store_spelling s) ≡ Some (t.Command (c.Store s))
store-reads-back St = refl
store-reads-back Stn = refl
store-reads-back Set = refl
store-reads-back Reset = refl

jump-reads-back : (j : Jump) → among reserved_words (jump_spelling j) ≡ Some (t.Command (c.Jump j))
jump-reads-back Jmp = refl
jump-reads-back Jmpc = refl
jump-reads-back Jmpcn = refl

pub reads-back : (k : Command) → among reserved_words (spelling k) ≡ Some (t.Command k)
reads-back c.Ret = refl
reads-back c.Not = refl
reads-back (c.Apply o) = operator-reads-back o
reads-back (c.Store s) = store-reads-back s
reads-back (c.Jump j) = jump-reads-back j

pub told : (k : Command) (word : List ℕ) → word ≡ spelling k → among reserved_words word ≡ Some (t.Command k)
told k word e = ap (among reserved_words) e ∙ reads-back k
