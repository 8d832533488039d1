-- What a call is told to have come to, and how that is written.
use Rattle.std.specs.Prelude.{ℕ, List, ◌++◌, ℤ, Some, None, Ok, Err, codes, decimal, fold, Option, Result}
use Rattle.std.specs.Fmt.{signed_decimal}
use Rattle.meaning.specs.declared.compute.Cause.{Cause}
use Rattle.meaning.specs.declared.compute.Cause.TheVariants as cause
use Rattle.controller.specs.declared.fault.CallFault.{CallFault}
use Rattle.controller.specs.declared.phase.Phase.{Phase}
use Rattle.controller.specs.declared.phase.Phase.TheVariants as phase
use Rattle.controller.specs.Faults.{number_of, place_of}
use Rattle.controller.specs.Machine.{Machine}
use Rattle.script.specs.declared.line.Line.{Line}
use Rattle.script.specs.declared.line.Line.TheVariants.{Started, Restarted, At, Waiting, Stopped, Refused}

abbrev pub stands_in : Phase → ℕ → Line
stands_in phase.Waiting n = Waiting
stands_in phase.Running n = At n
stands_in (phase.Stopped c) n = Stopped n c

-- where a controller stands
abbrev pub stands_as : Machine → Line
stands_as m = stands_in m.phase m.at

-- a line, unless the call was refused
abbrev pub line_for : Result (Unit {0}) CallFault → Line → Line
line_for (Ok x) line = line
line_for (Err f) line = Refused f

-- the letter of a cause; a controller without a statement stopped for none
abbrev pub cause_letter : Option Cause → List ℕ
cause_letter (Some cause.Overflow) = codes "O"
cause_letter (Some cause.ZeroDivisor) = codes "Z"
cause_letter (Some cause.Kind) = codes "K"
cause_letter None = codes "-"

abbrev pub place_text : ℕ → List ℕ
place_text place = codes "at " ++ (decimal place ++ codes "\n")

abbrev pub stop_text : ℕ → Option Cause → List ℕ
stop_text place c = ((codes "stopped " ++ (decimal place ++ codes " ")) ++ cause_letter c) ++ codes "\n"

-- a refusal, by its number and its place
abbrev pub refusal_text : ℕ → ℕ → List ℕ
refusal_text n place = codes "refused " ++ (decimal n ++ (codes " " ++ (decimal place ++ codes "\n")))

-- the line of each outcome
abbrev pub line_text : Line → List ℕ
line_text Started = codes "started\n"
line_text Restarted = codes "restarted\n"
line_text (At place) = place_text place
line_text Waiting = codes "waiting\n"
line_text (Stopped place c) = stop_text place c
line_text (Refused f) = refusal_text (number_of f) (place_of f)

-- a text with a number behind it, after a blank
abbrev pub with_output : List ℕ → ℤ → List ℕ
with_output text n = (text ++ codes " ") ++ signed_decimal n

-- the line of a reading
abbrev pub outputs_text : List ℤ → List ℕ
outputs_text ns = fold with_output (codes "read") ns ++ codes "\n"
