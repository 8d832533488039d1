-- When records make a program: what its statements name is there, it ends with RET, and its ranges are in order.
use Rattle.std.specs.Prelude.{◌≡◌, ℕ, ◌+◌, ◌<◌, ◌≤◌, Bool, true, ◌&&◌, List, length, get_or, take, is_some, int_le, nat_lt, slice_index_or}
use Rattle.numbers.specs.Int.{is_int}
use Rattle.syntax.specs.declared.record.Constant.{Constant}
use Rattle.syntax.specs.declared.record.Constant.TheVariants.{Bool as bool, Int as int}
use Rattle.syntax.specs.declared.record.Operand.{Operand}
use Rattle.syntax.specs.declared.record.Operand.TheVariants.{Constant as constant, Variable as variable}
use Rattle.syntax.specs.declared.record.Operation.{Operation}
use Rattle.syntax.specs.declared.record.Operation.TheVariants.{Return, Not, Label, Apply, Store, Jump}
use Rattle.syntax.specs.declared.record.Variable.{Variable}
use Rattle.syntax.specs.declared.record.Statement.{Statement}
use Rattle.syntax.specs.Records.{no_variable, no_statement}
use Rattle.reading.specs.declared.draft.Extent.{Extent}
use Rattle.reading.specs.Names.{label_name}
use Rattle.reading.specs.Reading.{is_return}

-- a constant is a truth or an INT
abbrev pub is_proper : Constant → Bool
is_proper (bool b) = true
is_proper (int n) = is_int n

-- an operand is such a constant, or one of v variables
abbrev pub operand_in : ℕ → Operand → Bool
operand_in v (constant k) = is_proper k
operand_in v (variable i) = nat_lt i v

-- an operation names only what is there: v variables, and labels among the statements
abbrev pub names_only : ℕ → List Statement → Operation → Bool
names_only v ss Return = true
names_only v ss Not = true
names_only v ss (Label name) = true
names_only v ss (Apply o x) = operand_in v x
names_only v ss (Store s i) = nat_lt i v
names_only v ss (Jump j t) = is_some (label_name (slice_index_or ss t.statement no_statement))

-- all statements do
abbrev pub Whole : ℕ → List Statement → Type 0
Whole v ss = (i : ℕ) → i < length ss → names_only v ss (get_or ss i no_statement).operation ≡ true

-- the last statement, where there is one, is RET
abbrev pub Returning : List Statement → Type 0
Returning ss = (i : ℕ) → i + 1 ≡ length ss → is_return (get_or ss i no_statement).operation ≡ true

-- a variable's initial value is a truth or an INT, and its range lies inside INT with its low not above its high
abbrev pub in_order : Variable → Bool
in_order v = int_le v.range.low v.range.high && (is_int v.range.low && (is_int v.range.high && is_proper v.declaration.initial))

-- all variables are so
abbrev pub Ordered : List Variable → Type 0
Ordered vs = (j : ℕ) → j < length vs → in_order (slice_index_or vs j no_variable) ≡ true

-- variables and statements that make a program; none at all do
pub record Formed (vs : List Variable) (ss : List Statement) : Type 0 where
  pub few : length vs ≤ 64
  pub short : length ss ≤ 1024
  pub whole : Whole (length vs) ss
  pub returning : Returning ss
  pub ordered : Ordered vs

-- records of which the first make a program, and the rest are blank
pub record Filled (e : Extent) (vs : List Variable) (ss : List Statement) : Type 0 where
  pub variables_there : e.variables ≤ length vs
  pub statements_there : e.statements ≤ length ss
  pub formed : Formed (take e.variables vs) (take e.statements ss)
  pub variables_rest : (j : ℕ) → e.variables ≤ j → slice_index_or vs j no_variable ≡ no_variable
  pub statements_rest : (i : ℕ) → e.statements ≤ i → slice_index_or ss i no_statement ≡ no_statement
