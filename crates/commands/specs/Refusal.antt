-- Which refusal the job `list` ends with, if any.
use Rattle.std.specs.Prelude.{ℕ, List, Some, None, Ok, Err, Option, Result}
use Rattle.reading.specs.declared.fault.ProgramFault.{ProgramFault}
use Rattle.reading.specs.Reading.{reading}
use Rattle.program.specs.Model.{Memory, read_memory}
use Rattle.ranges.specs.declared.fault.RangesFault.{RangesFault}
use Rattle.ranges.specs.Ranges.{setting}
use Rattle.commands.specs.declared.fault.JobFault.{JobFault}
use Rattle.commands.specs.declared.fault.JobFault.TheVariants.{Program, Ranges}

-- the ranges are refused, or nothing is
abbrev pub by_ranges : Result (Unit {0}) RangesFault → Option JobFault
by_ranges (Ok x) = None
by_ranges (Err f) = Some (Ranges f)

-- the program's fault goes before those of the ranges
abbrev pub by_program : Option ProgramFault → Result (Unit {0}) RangesFault → Option JobFault
by_program (Some f) r = Some (Program f)
by_program None r = by_ranges r

abbrev pub refusal_in : List ℕ → Memory → Option JobFault
refusal_in input m = by_program m.fault (setting input m).answer

-- the refusal of a text and its ranges, in places for nv variables and ns statements
abbrev pub refusal_of : List ℕ → List ℕ → ℕ → ℕ → Option JobFault
refusal_of text input nv ns = refusal_in input (read_memory (reading text nv ns))
