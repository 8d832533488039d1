-- Worked cases: statements, number sets and what they come to, in one table.
use Rattle.std.specs.Prelude.{◌≡◌, Bool as Truth, true, List, [], ◌∷◌, map, ℤ, pos, negsuc, Ok, Err, Result}
use Rattle.syntax.specs.declared.operator.Operator.{Operator}
use Rattle.syntax.specs.declared.operator.Operator.TheVariants.{Add, Div}
use Rattle.syntax.specs.declared.operator.Jump.TheVariants.{Jmpc}
use Rattle.syntax.specs.declared.record.Constant.TheVariants as constant
use Rattle.syntax.specs.declared.record.Operand.TheVariants.{Constant}
use Rattle.syntax.specs.declared.record.Operation.{Operation}
use Rattle.syntax.specs.declared.record.Operation.TheVariants.{Apply, Jump}
use Rattle.cells.specs.declared.value.Value.{Value}
use Rattle.cells.specs.declared.value.Value.TheVariants.{Unset, Int}
use Rattle.meaning.specs.declared.compute.Cause.{Cause}
use Rattle.meaning.specs.declared.compute.Cause.TheVariants.{Kind, ZeroDivisor, Overflow}
use Rattle.meaning.specs.declared.edge.Edge.{Edge}
use Rattle.meaning.specs.Meaning.{State, perform}
use Rattle.interval.specs.Interval.{interval_ops}
use Rattle.interval.specs.declared.Interval.{Interval}
use Rattle.list.specs.NumberList.{listed, smallest, list_ops}

-- something to work out: a statement from a current result, the product of two intervals, the join of two lists of numbers
pub data Case : Type 0 where
  statement : Value → Operation → Case
  product : Interval → Interval → Case
  join : List ℤ → List ℤ → Case

-- what it comes to: the new current result or why it stops, an interval and whether it leaves INT, a list of numbers
pub data Answer : Type 0 where
  result : Result Value Cause → Answer
  interval : Interval → Truth → Answer
  numbers : List ℤ → Answer

abbrev pub new_result : Result (Edge × State) Cause → Result Value Cause
new_result (Ok w) = Ok w.1.cr
new_result (Err cause) = Err cause

-- by the definitions that running, carrying and marking use
abbrev pub worked : Case → Answer
worked (statement cr op) = result (new_result (perform [] op (record { cr = cr; values = [] })))
worked (product x y) = interval (interval_ops.mul x y) (interval_ops.mul_overflows x y)
worked (join xs ys) = numbers (listed (list_ops.join (smallest xs) (smallest ys)))

-- an operator with a constant for its operand
abbrev pub with : Operator → ℤ → Operation
with o n = Apply o (Constant (constant.Int n))

abbrev pub from_to : ℤ → ℤ → Interval
from_to low high = record { low = low; high = high }

abbrev pub jumpc : Operation
jumpc = Jump Jmpc (record { name = record { place = 0; length = 0 }; statement = 0 })

-- a case, and what it is to come to
pub record Line : Type 0 where
  pub case : Case
  pub want : Answer

abbrev line : Case → Answer → Line
line c a = record { case = c; want = a }

-- −32768 by −1, by 0 and by 1; −7 by 2; 32767 and 0, and 1; JMPC on unset; 1..3 times 20000..20000; 1,3 with 3,5
abbrev pub cases : List Line
cases =
    line (statement (Int (negsuc 32767)) (with Div (negsuc 0))) (result (Err Overflow)) ∷
    line (statement (Int (negsuc 32767)) (with Div (pos 0))) (result (Err ZeroDivisor)) ∷
    line (statement (Int (negsuc 32767)) (with Div (pos 1))) (result (Ok (Int (negsuc 32767)))) ∷
    line (statement (Int (negsuc 6)) (with Div (pos 2))) (result (Ok (Int (negsuc 2)))) ∷
    line (statement (Int (pos 32767)) (with Add (pos 0))) (result (Ok (Int (pos 32767)))) ∷
    line (statement (Int (pos 32767)) (with Add (pos 1))) (result (Err Overflow)) ∷
    line (statement Unset jumpc) (result (Err Kind)) ∷
    line (product (from_to (pos 1) (pos 3)) (from_to (pos 20000) (pos 20000))) (interval (from_to (pos 20000) (pos 32767)) true) ∷
    line (join (pos 1 ∷ pos 3 ∷ []) (pos 3 ∷ pos 5 ∷ [])) (numbers (pos 1 ∷ pos 3 ∷ pos 5 ∷ [])) ∷ []

-- each case comes to what its line says
abbrev pub CasesHold : Type 0
CasesHold = map (λ l. worked l.case) cases ≡ map (λ l. l.want) cases
