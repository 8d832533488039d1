-- How the operators are spelled: the inverse of the table of reserved words.
use Rattle.std.specs.Prelude.{ℕ, List, codes}
use Rattle.syntax.specs.declared.operator.Operator.{Operator}
use Rattle.syntax.specs.declared.operator.Operator.TheVariants.{Ld, Ldn, And, Andn, Or, Orn, Xor, Xorn, Add, Sub, Mul, Div, Gt, Ge, Lt, Le, Eq, Ne}
use Rattle.syntax.specs.declared.operator.Store.{Store}
use Rattle.syntax.specs.declared.operator.Store.TheVariants.{St, Stn, Set, Reset}
use Rattle.syntax.specs.declared.operator.Jump.{Jump}
use Rattle.syntax.specs.declared.operator.Jump.TheVariants.{Jmp, Jmpc, Jmpcn}
use Rattle.syntax.specs.declared.operator.Command.{Command}
use Rattle.syntax.specs.declared.operator.Command.TheVariants as c

-- those that take a variable or a constant
abbrev pub operator_spelling : Operator → List ℕ
operator_spelling Ld = codes "LD"
operator_spelling Ldn = codes "LDN"
operator_spelling And = codes "AND"
operator_spelling Andn = codes "ANDN"
operator_spelling Or = codes "OR"
operator_spelling Orn = codes "ORN"
operator_spelling Xor = codes "XOR"
operator_spelling Xorn = codes "XORN"
operator_spelling Add = codes "ADD"
operator_spelling Sub = codes "SUB"
operator_spelling Mul = codes "MUL"
operator_spelling Div = codes "DIV"
operator_spelling Gt = codes "GT"
operator_spelling Ge = codes "GE"
operator_spelling Lt = codes "LT"
operator_spelling Le = codes "LE"
operator_spelling Eq = codes "EQ"
operator_spelling Ne = codes "NE"

-- those that take a variable and may change it
abbrev pub store_spelling : Store → List ℕ
store_spelling St = codes "ST"
store_spelling Stn = codes "STN"
store_spelling Set = codes "S"
store_spelling Reset = codes "R"

-- those that take a label
abbrev pub jump_spelling : Jump → List ℕ
jump_spelling Jmp = codes "JMP"
jump_spelling Jmpc = codes "JMPC"
jump_spelling Jmpcn = codes "JMPCN"

abbrev pub spelling : Command → List ℕ
spelling c.Ret = codes "RET"
spelling c.Not = codes "NOT"
spelling (c.Apply o) = operator_spelling o
spelling (c.Store s) = store_spelling s
spelling (c.Jump j) = jump_spelling j
