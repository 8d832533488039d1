-- A controller as plain data, and what each call makes of it.
use Rattle.std.specs.Prelude.{◌≡◌, ℕ, false, cond, not, List, [], ◌∷◌, length, ℤ, Some, None, Ok, Err, Option, Result, ◌==◌}
use Rattle.domain.specs.Domain.{Ops}
use Rattle.syntax.specs.declared.record.Operation.{Operation}
use Rattle.syntax.specs.declared.record.Operation.TheVariants as operation
use Rattle.syntax.specs.declared.record.Statement.{Statement}
use Rattle.program.specs.Model.{Code}
use Rattle.cells.specs.declared.value.Value.TheVariants.{Unset}
use Rattle.cells.specs.declared.cell.Cell.{Cell}
use Rattle.meaning.specs.declared.compute.Cause.{Cause}
use Rattle.meaning.specs.declared.edge.Edge.{Edge}
use Rattle.meaning.specs.Meaning.{State, perform}
use Rattle.transfer.specs.Rows.{width, row_at, covers_all}
use Rattle.transfer.specs.Transfer.{target_of}
use Rattle.transfer.specs.Marks.{has_cause, marks_of}
use Rattle.table.specs.Tables.{operation_at, table_size}
use Rattle.controller.specs.declared.phase.Phase.{Phase}
use Rattle.controller.specs.declared.phase.Phase.TheVariants.{Waiting, Running, Stopped}
use Rattle.controller.specs.declared.fault.CallFault.{CallFault}
use Rattle.controller.specs.declared.fault.CallFault.TheVariants.{WrongSize, NotWaiting, NotRunning, StepsFull, BadInput}
use Rattle.controller.specs.declared.call.Sight.{Sight}
use Rattle.controller.specs.declared.call.Call.{Call}
use Rattle.controller.specs.declared.call.Call.TheVariants as call
use Rattle.controller.specs.declared.controller.Controller.{Controller}
use Rattle.controller.specs.Tallies.{Tally, tally, is_full, tallied}
use Rattle.controller.specs.Registers.{held}
use Rattle.controller.specs.Lists.{input_count, output_count, first_bad, given, initially, shown}

-- a controller without its program: the memory is the current result and 64 values
pub record Machine : Type 0 where
  pub phase : Phase
  pub at : ℕ
  pub memory : State
  pub counts : Tally

abbrev pub machine : Controller → Machine
machine k = record { phase = k.phase; at = k.at; memory = held k.registers; counts = tally k.counts }

abbrev pub code_of : Controller → Code
code_of k = record { variables = k.variables.now; statements = k.statements.now }

-- a program with no statement can't run
abbrev pub first_phase : List Statement → Phase
first_phase [] = Stopped None
first_phase (s ∷ ss) = Waiting

-- a controller that has not run yet, but for its counts
abbrev pub fresh : Code → Tally → Machine
fresh p t = record { phase = first_phase p.statements; at = 0; memory = initially p.variables; counts = t }

-- RET ends the scan
abbrev pub phase_after : Operation → Phase
phase_after operation.Return = Waiting
phase_after operation.Not = Running
phase_after (operation.Label name) = Running
phase_after (operation.Apply o x) = Running
phase_after (operation.Store s i) = Running
phase_after (operation.Jump j t) = Running

-- a step, by what its statement does: it goes on, or stops where it stands and keeps its memory
abbrev pub advanced : Sight → Operation → Result (Edge × State) Cause → Machine → Machine
advanced sight o (Ok w) m = record {
  phase = phase_after o;
  at = target_of m.at o w.0;
  memory = w.1;
  counts = tallied (not sight.covered) false m.counts;
}
advanced sight o (Err c) m = record {
  phase = Stopped (Some c);
  at = m.at;
  memory = m.memory;
  counts = tallied (not sight.covered) (not (has_cause sight.marks c)) m.counts;
}

abbrev pub stepped : Code → Sight → Machine → Machine
stepped p sight m =
    advanced sight (operation_at p.statements m.at) (perform p.variables (operation_at p.statements m.at) m.memory) m

-- what a step sees of its table: the size, and of the row before its statement the cover and the marks
abbrev pub sight_of : {S : Type 0} → Ops S → Code → List (Cell S) → Machine → Sight
sight_of o p cells m = record {
  size = length cells;
  covered = covers_all o (row_at (width p.variables) cells m.at) (m.memory.cr ∷ m.memory.values);
  marks = marks_of o p.variables (row_at (width p.variables) cells m.at) (operation_at p.statements m.at);
}

-- what a call answers, and the controller after it
pub record Reply : Type 0 where
  pub answer : Result (Unit {0}) CallFault
  pub next : Machine

-- a refused call changes nothing
abbrev pub refused : CallFault → Machine → Reply
refused f m = record { answer = Err f; next = m }

abbrev pub done : Machine → Reply
done m = record { answer = Ok tt; next = m }

-- a list of the wrong size comes before any other fault
abbrev pub if_sized : ℕ → ℕ → CallFault → CallFault
if_sized size wanted f = cond (size == wanted) f (WrongSize wanted)

-- a start, while the controller waits
abbrev pub start_with : Code → List ℤ → Option ℕ → Machine → Reply
start_with p xs (Some k) m = refused (BadInput k) m
start_with p xs None m = done (record {
  phase = Running;
  at = 0;
  memory = record { cr = Unset; values = given xs 0 p.variables m.memory.values };
  counts = m.counts;
})

abbrev pub start_reply : Code → List ℤ → Machine → Reply
start_reply p xs m =
    cond (length xs == input_count p.variables) (start_with p xs (first_bad xs 0 p.variables) m)
    (refused (BadInput (input_count p.variables)) m)

-- a step, while it runs
abbrev pub step_reply : Code → Sight → Machine → Reply
step_reply p sight m =
    cond (sight.size == table_size p) (cond (is_full m.counts) (refused (StepsFull m.at) m) (done (stepped p sight m)))
    (refused (WrongSize (table_size p)) m)

-- a reading into a list of some length, while it waits
abbrev pub read_reply : Code → ℕ → Machine → Reply
read_reply p n m = cond (n == output_count p.variables) (done m) (refused (WrongSize (output_count p.variables)) m)

-- a call, with what its references hold
pub data Request : Type 0 where
  to_start : List ℤ → Request
  to_step : Sight → Request
  to_restart : Request
  to_read : ℕ → Request

abbrev pub request_of : Call → ℕ → Request
request_of (call.Start xs) n = to_start xs.now
request_of (call.Step sight) n = to_step sight
request_of call.Restart n = to_restart
request_of call.Read n = to_read n

-- any call, by the phase that it finds
abbrev pub reply_in : Code → Phase → Request → Machine → Reply
reply_in p Waiting (to_start xs) m = start_reply p xs m
reply_in p Running (to_start xs) m = refused (NotWaiting m.at) m
reply_in p (Stopped c) (to_start xs) m = refused (NotWaiting m.at) m
reply_in p Waiting (to_step sight) m = refused (if_sized sight.size (table_size p) (NotRunning m.at)) m
reply_in p Running (to_step sight) m = step_reply p sight m
reply_in p (Stopped c) (to_step sight) m = refused (if_sized sight.size (table_size p) (NotRunning m.at)) m
reply_in p Waiting to_restart m = done (fresh p m.counts)
reply_in p Running to_restart m = done (fresh p m.counts)
reply_in p (Stopped c) to_restart m = done (fresh p m.counts)
reply_in p Waiting (to_read n) m = read_reply p n m
reply_in p Running (to_read n) m = refused (if_sized n (output_count p.variables) (NotWaiting m.at)) m
reply_in p (Stopped c) (to_read n) m = refused (if_sized n (output_count p.variables) (NotWaiting m.at)) m

abbrev pub reply : Code → Request → Machine → Reply
reply p q m = reply_in p m.phase q m

-- the caller's output list after a call that came with it
abbrev pub read_out : Code → Machine → List ℤ → List ℤ
read_out p m out = cond (length out == output_count p.variables) (shown p.variables m.memory.values) out

abbrev pub output_in : Code → Phase → Request → Machine → List ℤ → List ℤ
output_in p f (to_start xs) m out = out
output_in p f (to_step sight) m out = out
output_in p f to_restart m out = out
output_in p Waiting (to_read n) m out = read_out p m out
output_in p Running (to_read n) m out = out
output_in p (Stopped c) (to_read n) m out = out

abbrev pub output : Code → Request → Machine → List ℤ → List ℤ
output p q m out = output_in p m.phase q m out

-- the code's answer and the controller after it are those of a reply, and its program stays
pub record Replied (want : Reply) (k k' : Controller) (r : Result (Unit {0}) CallFault) : Type 0 where
  pub answer : r ≡ want.answer
  pub next : machine k' ≡ want.next
  pub same : code_of k' ≡ code_of k
