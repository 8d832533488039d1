-- The numbers and places of refused calls.
use Rattle.std.specs.Prelude.{ℕ}
use Rattle.controller.specs.declared.fault.CallFault.{CallFault}
use Rattle.controller.specs.declared.fault.CallFault.TheVariants.{WrongSize, NotWaiting, NotRunning, StepsFull, BadInput}

abbrev pub number_of : CallFault → ℕ
number_of (WrongSize p) = 21
number_of (NotWaiting p) = 22
number_of (NotRunning p) = 23
number_of (StepsFull p) = 24
number_of (BadInput p) = 14

abbrev pub place_of : CallFault → ℕ
place_of (WrongSize p) = p
place_of (NotWaiting p) = p
place_of (NotRunning p) = p
place_of (StepsFull p) = p
place_of (BadInput p) = p
