-- The current result and the table of values, as plain data.
use Rattle.std.specs.Prelude.{◌≡◌, List, map, Ok, Err, Result}
use Rattle.cells.specs.declared.value.Value.{Value}
use Rattle.meaning.specs.Meaning.{State}
use Rattle.meaning.specs.declared.edge.Edge.{Edge}
use Rattle.meaning.specs.declared.compute.Cause.{Cause}
use Rattle.controller.specs.declared.slot.Slot.{Slot}
use Rattle.controller.specs.declared.registers.Registers.{Registers}

abbrev pub value_in : Slot → Value
value_in s = s.value

abbrev pub values_in : List Slot → List Value
values_in ss = map value_in ss

-- what the meaning of a statement works on
abbrev pub held : Registers → State
held r = record { cr = r.cr; values = values_in r.slots }

-- the way on that a statement's meaning gives, or why it stops
abbrev pub way_of : Result (Edge × State) Cause → Result Edge Cause
way_of (Ok w) = Ok w.0
way_of (Err c) = Err c

-- a statement that stops changes nothing
abbrev pub state_after : Result (Edge × State) Cause → State → State
state_after (Ok w) s = w.1
state_after (Err c) s = s

-- the code's answer and the state after it are those of a meaning
pub record Performed (want : Result (Edge × State) Cause) (before after : State) (r : Result Edge Cause) : Type 0 where
  pub answer : r ≡ way_of want
  pub next : after ≡ state_after want before
