-- The number and the place that each fault of a job tells.
use Rattle.std.specs.Prelude.{ℕ}
use Rattle.reading.specs.Faults.{program_number, program_place}
use Rattle.ranges.specs.Faults.{ranges_number, ranges_place}
use Rattle.table_text.specs.Faults.{table_number, table_place}
use Rattle.table_check.specs.Faults.{number_of as check_number, place_of as check_place}
use Rattle.fixpoint.specs.Faults.{number_of as settle_number, place_of as settle_place}
use Rattle.script.specs.Faults.{script_number, script_place}
use Rattle.commands.specs.declared.fault.JobFault.{JobFault}
use Rattle.commands.specs.declared.fault.JobFault.TheVariants.{Program, Ranges, Table, Check, Settle, Script}

abbrev pub job_number : JobFault → ℕ
job_number (Program f) = program_number f
job_number (Ranges f) = ranges_number f
job_number (Table f) = table_number f
job_number (Check f) = check_number f
job_number (Settle f) = settle_number f
job_number (Script f) = script_number f

abbrev pub job_place : JobFault → ℕ
job_place (Program f) = program_place f
job_place (Ranges f) = ranges_place f
job_place (Table f) = table_place f
job_place (Check f) = check_place f
job_place (Settle f) = settle_place f
job_place (Script f) = script_place f
