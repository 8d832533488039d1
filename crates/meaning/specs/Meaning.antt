-- What each statement does to values, and when it stops: the one meaning that running, carrying and marking share.
use Rattle.std.specs.Prelude.{ℕ, Bool as Truth, true, false, cond, not, ◌&&◌, ◌||◌, List, get_or, ℤ, pos, ◌+ℤ◌, ◌-ℤ◌, ◌*ℤ◌, Ok, Err, Result, int_div, int_lt, slice_index_or, slice_set}
use Rattle.numbers.specs.Int.{is_int}
use Rattle.numbers.specs.Arithmetic.{eq_z}
use Rattle.syntax.specs.declared.operator.Operator.{Operator}
use Rattle.syntax.specs.declared.operator.Operator.TheVariants.{Ld, Ldn, And, Andn, Or, Orn, Xor, Xorn, Add, Sub, Mul, Div, Gt, Ge, Lt, Le, Eq, Ne}
use Rattle.syntax.specs.declared.operator.Store.{Store}
use Rattle.syntax.specs.declared.operator.Store.TheVariants.{St, Stn, Set, Reset}
use Rattle.syntax.specs.declared.operator.Jump.{Jump}
use Rattle.syntax.specs.declared.operator.Jump.TheVariants.{Jmp, Jmpc, Jmpcn}
use Rattle.syntax.specs.declared.record.Operand.{Operand}
use Rattle.syntax.specs.declared.record.Operand.TheVariants.{Constant, Variable as variable}
use Rattle.syntax.specs.declared.record.Operation.{Operation}
use Rattle.syntax.specs.declared.record.Operation.TheVariants as operation
use Rattle.syntax.specs.declared.record.Variable.{Variable}
use Rattle.syntax.specs.Records.{no_variable}
use Rattle.cells.specs.declared.value.Value.{Value}
use Rattle.cells.specs.declared.value.Value.TheVariants.{Unset, Bool, Int}
use Rattle.cells.specs.declared.value.Sort.{Sort}
use Rattle.cells.specs.declared.value.Sort.TheVariants as sort
use Rattle.cells.specs.Values.{sort_of, value_of}
use Rattle.meaning.specs.declared.source.Source.{Source}
use Rattle.meaning.specs.declared.source.Source.TheVariants as source
use Rattle.meaning.specs.declared.edge.Edge.{Edge}
use Rattle.meaning.specs.declared.edge.Edge.TheVariants as way
use Rattle.meaning.specs.declared.compute.Cause.{Cause}
use Rattle.meaning.specs.declared.compute.Cause.TheVariants.{Kind, ZeroDivisor, Overflow}

abbrev pub is_bool : Sort → Truth
is_bool sort.Unset = false
is_bool sort.Bool = true
is_bool sort.Int = false

abbrev pub is_number : Sort → Truth
is_number sort.Unset = false
is_number sort.Bool = false
is_number sort.Int = true

-- LD takes a value of any kind, LDN a BOOL; the logical operators two BOOLs; the others two INTs
abbrev pub accepts_operator : Operator → Sort → Sort → Truth
accepts_operator Ld a b = true
accepts_operator Ldn a b = is_bool b
accepts_operator And a b = is_bool a && is_bool b
accepts_operator Andn a b = is_bool a && is_bool b
accepts_operator Or a b = is_bool a && is_bool b
accepts_operator Orn a b = is_bool a && is_bool b
accepts_operator Xor a b = is_bool a && is_bool b
accepts_operator Xorn a b = is_bool a && is_bool b
accepts_operator Add a b = is_number a && is_number b
accepts_operator Sub a b = is_number a && is_number b
accepts_operator Mul a b = is_number a && is_number b
accepts_operator Div a b = is_number a && is_number b
accepts_operator Gt a b = is_number a && is_number b
accepts_operator Ge a b = is_number a && is_number b
accepts_operator Lt a b = is_number a && is_number b
accepts_operator Le a b = is_number a && is_number b
accepts_operator Eq a b = is_number a && is_number b
accepts_operator Ne a b = is_number a && is_number b

-- ST takes a current result of the variable's kind; STN, S and R take two BOOLs
abbrev pub accepts_store : Store → Sort → Sort → Truth
accepts_store St a b = (is_bool a && is_bool b) || (is_number a && is_number b)
accepts_store Stn a b = is_bool a && is_bool b
accepts_store Set a b = is_bool a && is_bool b
accepts_store Reset a b = is_bool a && is_bool b

-- a conditional jump takes a BOOL
abbrev pub accepts_jump : Jump → Sort → Truth
accepts_jump Jmp a = true
accepts_jump Jmpc a = is_bool a
accepts_jump Jmpcn a = is_bool a

-- which current results and operands each operation accepts
abbrev pub accepted : Operation → Sort → Sort → Truth
accepted operation.Return a b = true
accepted operation.Not a b = is_bool a
accepted (operation.Label name) a b = true
accepted (operation.Apply o x) a b = accepts_operator o a b
accepted (operation.Store s i) a b = accepts_store s a b
accepted (operation.Jump j t) a b = accepts_jump j a

-- what the logical operators make of two truths; the N form takes the operand's opposite
abbrev pub combined : Operator → Truth → Truth → Truth
combined Ld a b = false
combined Ldn a b = false
combined And a b = a && b
combined Andn a b = a && not b
combined Or a b = a || b
combined Orn a b = a || not b
combined Xor a b = (a && not b) || (not a && b)
combined Xorn a b = (a && b) || (not a && not b)
combined Add a b = false
combined Sub a b = false
combined Mul a b = false
combined Div a b = false
combined Gt a b = false
combined Ge a b = false
combined Lt a b = false
combined Le a b = false
combined Eq a b = false
combined Ne a b = false

-- the truth and the number that a value holds
abbrev pub truth_of : Value → Truth
truth_of Unset = false
truth_of (Bool b) = b
truth_of (Int n) = false

abbrev pub number_of : Value → ℤ
number_of Unset = pos 0
number_of (Bool b) = pos 0
number_of (Int n) = n

abbrev pub opposite : Value → Value
opposite v = Bool (not (truth_of v))

-- a result, where it lies inside INT
abbrev pub sized : ℤ → Result Value Cause
sized z = cond (is_int z) (Ok (Int z)) (Err Overflow)

-- a quotient drops its fraction, and has no divisor 0
abbrev pub quotient : ℤ → ℤ → Result Value Cause
quotient a b = cond (eq_z b (pos 0)) (Err ZeroDivisor) (sized (int_div a b))

-- a sum, a difference, a product or a quotient
abbrev pub arithmetic : Operator → ℤ → ℤ → Result Value Cause
arithmetic Ld a b = quotient a b
arithmetic Ldn a b = quotient a b
arithmetic And a b = quotient a b
arithmetic Andn a b = quotient a b
arithmetic Or a b = quotient a b
arithmetic Orn a b = quotient a b
arithmetic Xor a b = quotient a b
arithmetic Xorn a b = quotient a b
arithmetic Add a b = sized (a +ℤ b)
arithmetic Sub a b = sized (a -ℤ b)
arithmetic Mul a b = sized (a *ℤ b)
arithmetic Div a b = quotient a b
arithmetic Gt a b = quotient a b
arithmetic Ge a b = quotient a b
arithmetic Lt a b = quotient a b
arithmetic Le a b = quotient a b
arithmetic Eq a b = quotient a b
arithmetic Ne a b = quotient a b

-- a comparison: GT is LT with its sides exchanged, and GE, LE and NE are the opposites of LT, GT and EQ
abbrev pub compared : Operator → ℤ → ℤ → Truth
compared Ld a b = not (eq_z a b)
compared Ldn a b = not (eq_z a b)
compared And a b = not (eq_z a b)
compared Andn a b = not (eq_z a b)
compared Or a b = not (eq_z a b)
compared Orn a b = not (eq_z a b)
compared Xor a b = not (eq_z a b)
compared Xorn a b = not (eq_z a b)
compared Add a b = not (eq_z a b)
compared Sub a b = not (eq_z a b)
compared Mul a b = not (eq_z a b)
compared Div a b = not (eq_z a b)
compared Gt a b = int_lt b a
compared Ge a b = not (int_lt a b)
compared Lt a b = int_lt a b
compared Le a b = not (int_lt b a)
compared Eq a b = eq_z a b
compared Ne a b = not (eq_z a b)

-- the value that an operator gives, the current result on the left
abbrev pub computed : Operator → Value → Value → Result Value Cause
computed Ld a b = Ok b
computed Ldn a b = Ok (opposite b)
computed And a b = Ok (Bool (combined And (truth_of a) (truth_of b)))
computed Andn a b = Ok (Bool (combined Andn (truth_of a) (truth_of b)))
computed Or a b = Ok (Bool (combined Or (truth_of a) (truth_of b)))
computed Orn a b = Ok (Bool (combined Orn (truth_of a) (truth_of b)))
computed Xor a b = Ok (Bool (combined Xor (truth_of a) (truth_of b)))
computed Xorn a b = Ok (Bool (combined Xorn (truth_of a) (truth_of b)))
computed Add a b = arithmetic Add (number_of a) (number_of b)
computed Sub a b = arithmetic Sub (number_of a) (number_of b)
computed Mul a b = arithmetic Mul (number_of a) (number_of b)
computed Div a b = arithmetic Div (number_of a) (number_of b)
computed Gt a b = Ok (Bool (compared Gt (number_of a) (number_of b)))
computed Ge a b = Ok (Bool (compared Ge (number_of a) (number_of b)))
computed Lt a b = Ok (Bool (compared Lt (number_of a) (number_of b)))
computed Le a b = Ok (Bool (compared Le (number_of a) (number_of b)))
computed Eq a b = Ok (Bool (compared Eq (number_of a) (number_of b)))
computed Ne a b = Ok (Bool (compared Ne (number_of a) (number_of b)))

-- the current result and the variables' values
pub record State : Type 0 where
  pub cr : Value
  pub values : List Value

-- a value of the kind that a variable is declared with
abbrev pub kind_value : List Variable → ℕ → Value
kind_value vars i = value_of (get_or vars i no_variable).declaration.initial

-- a constant gives its value, a variable what it holds
abbrev pub source_of_operand : Operand → Source
source_of_operand (Constant k) = source.Value (value_of k)
source_of_operand (variable i) = source.Variable i

-- ST and STN look at the variable's declared kind, S and R at what it holds
abbrev pub source_of_store : List Variable → Store → ℕ → Source
source_of_store vars St i = source.Value (kind_value vars i)
source_of_store vars Stn i = source.Value (kind_value vars i)
source_of_store vars Set i = source.Variable i
source_of_store vars Reset i = source.Variable i

-- the source of an operation's operand; unset where it has none
abbrev pub source_of : List Variable → Operation → Source
source_of vars operation.Return = source.Value Unset
source_of vars operation.Not = source.Value Unset
source_of vars (operation.Label name) = source.Value Unset
source_of vars (operation.Apply o x) = source_of_operand x
source_of vars (operation.Store s i) = source_of_store vars s i
source_of vars (operation.Jump j t) = source.Value Unset

-- what a source gives, where `of` says how a value is held and `at` what a variable holds
abbrev pub held_by : {A : Type 0} → (Value → A) → (ℕ → A) → Source → A
held_by of at (source.Value v) = of v
held_by of at (source.Variable i) = at i

-- where values are held, a value is what it is, and a variable that is not there is unset
abbrev pub value_at : List Value → ℕ → Value
value_at values i = slice_index_or values i Unset

abbrev pub operand_of : List Value → Operand → Value
operand_of values x = held_by (λ v. v) (value_at values) (source_of_operand x)

-- the operand of an operation; unset where it has none
abbrev pub operand : List Variable → List Value → Operation → Value
operand vars values op = held_by (λ v. v) (value_at values) (source_of vars op)

-- what a store writes: ST the current result, STN its opposite; S and R TRUE or FALSE, only while it is TRUE
abbrev pub stored : Store → ℕ → State → List Value
stored St i s = slice_set s.values i s.cr
stored Stn i s = slice_set s.values i (opposite s.cr)
stored Set i s = cond (truth_of s.cr) (slice_set s.values i (Bool true)) s.values
stored Reset i s = cond (truth_of s.cr) (slice_set s.values i (Bool false)) s.values

-- JMP always jumps, JMPC on TRUE and JMPCN on FALSE
abbrev pub jumps : Jump → Value → Truth
jumps Jmp cr = true
jumps Jmpc cr = truth_of cr
jumps Jmpcn cr = not (truth_of cr)

abbrev pub with_result : State → Result Value Cause → Result (Edge × State) Cause
with_result s (Ok v) = Ok (way.Fall, record { cr = v; values = s.values })
with_result s (Err cause) = Err cause

-- an operation on values that it accepts
abbrev pub performed : Operation → Value → State → Result (Edge × State) Cause
performed operation.Return x s = Ok (way.Jump, record { cr = Unset; values = s.values })
performed operation.Not x s = Ok (way.Fall, record { cr = opposite s.cr; values = s.values })
performed (operation.Label name) x s = Ok (way.Fall, s)
performed (operation.Apply o y) x s = with_result s (computed o s.cr x)
performed (operation.Store t i) x s = Ok (way.Fall, record { cr = s.cr; values = stored t i s })
performed (operation.Jump j t) x s = Ok (cond (jumps j s.cr) way.Jump way.Fall, s)

-- one statement: the new state and the way on, or why it stops; a wrong kind comes first
abbrev pub perform : List Variable → Operation → State → Result (Edge × State) Cause
perform vars o s =
    cond (accepted o (sort_of s.cr) (sort_of (operand vars s.values o))) (performed o (operand vars s.values o) s) (Err Kind)
