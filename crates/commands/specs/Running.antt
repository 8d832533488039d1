-- Which refusal the job `run` ends with, if any.
use Rattle.std.specs.Prelude.{ℕ, List, Some, None, Ok, Err, Option, Result}
use Rattle.reading.specs.declared.fault.ProgramFault.{ProgramFault}
use Rattle.reading.specs.Reading.{reading}
use Rattle.program.specs.Model.{Memory, read_memory}
use Rattle.ranges.specs.declared.fault.RangesFault.{RangesFault}
use Rattle.ranges.specs.Front.{setting_front}
use Rattle.script.specs.declared.fault.ScriptFault.{ScriptFault}
use Rattle.script.specs.Script.{script_refusal}
use Rattle.commands.specs.declared.fault.JobFault.{JobFault}
use Rattle.commands.specs.declared.fault.JobFault.TheVariants.{Program, Ranges, Script}

-- the refusal that ended a script
abbrev pub by_script : Option ScriptFault → Option JobFault
by_script None = None
by_script (Some f) = Some (Script f)

-- the ranges at the front go before the calls
abbrev pub by_front : Result (Unit {0}) RangesFault → Option ScriptFault → Option JobFault
by_front (Ok x) e = by_script e
by_front (Err f) e = Some (Ranges f)

-- the program's fault goes before those of the script
abbrev pub by_text : Option ProgramFault → Result (Unit {0}) RangesFault → Option ScriptFault → Option JobFault
by_text (Some f) r e = Some (Program f)
by_text None r e = by_front r e

abbrev pub run_refusal_in : List ℕ → Memory → Option JobFault
run_refusal_in input m = by_text m.fault (setting_front input m).answer (script_refusal input)

-- the refusal of a text and a script, in places for nv variables and ns statements
abbrev pub run_refusal : List ℕ → List ℕ → ℕ → ℕ → Option JobFault
run_refusal text input nv ns = run_refusal_in input (read_memory (reading text nv ns))
