-- Which refusal the jobs `check` and `sheet` end with, if any.
use Rattle.std.specs.Prelude.{ℕ, List, length, take, replicate, Some, None, Ok, Err, Option, Result}
use Rattle.reading.specs.declared.fault.ProgramFault.{ProgramFault}
use Rattle.program.specs.Model.{Code, Memory, read_memory}
use Rattle.reading.specs.Reading.{reading}
use Rattle.ranges.specs.Ranges.{setting}
use Rattle.domain.specs.Domain.{Ops}
use Rattle.cells.specs.declared.cell.Cell.{Cell}
use Rattle.cells.specs.Cells.{nothing}
use Rattle.transfer.specs.Rows.{width}
use Rattle.table.specs.Tables.{table_size}
use Rattle.table_text.specs.declared.fault.TableFault.{TableFault}
use Rattle.table_text.specs.Table.{table_read}
use Rattle.table_check.specs.declared.fault.CheckFault.{CheckFault}
use Rattle.table_check.specs.Sheets.{Shown, checked}
use Rattle.fixpoint.specs.declared.fault.SettleFault.{SettleFault}
use Rattle.fixpoint.specs.Settling.{settled_in}
use Rattle.commands.specs.declared.fault.JobFault.{JobFault}
use Rattle.commands.specs.declared.fault.JobFault.TheVariants.{Table, Check, Settle}
use Rattle.commands.specs.Refusal.{refusal_in}

-- what a program keeps once its ranges are set; one of a refused text stays as it is
abbrev pub readied_by : Option ProgramFault → List ℕ → Memory → Memory
readied_by (Some f) input m = m
readied_by None input m = (setting input m).after

abbrev pub readied : List ℕ → Memory → Memory
readied input m = readied_by m.fault input m

-- a table is refused, or nothing is
abbrev pub by_check : {S : Type 0} → Result (Shown S) CheckFault → Option JobFault
by_check (Ok s) = None
by_check (Err f) = Some (Check f)

-- the program of a memory
abbrev pub code_in : Memory → Code
code_in m = record { variables = take m.variable_count m.variables; statements = take m.statement_count m.statements }

-- what a refusal leaves to come
abbrev pub or_then : Option JobFault → Option JobFault → Option JobFault
or_then (Some r) other = Some r
or_then None other = other

module _ {S : Type 0} (o : Ops S) (reads : List ℕ → Option S) where
  -- the table's text is refused, or its table is judged; there are m places for marks
  abbrev pub by_table : Code → ℕ → Result (Unit {0}) TableFault → List (Cell S) → Option JobFault
  by_table p m (Err f) cells = Some (Table f)
  by_table p m (Ok x) cells = by_check (checked o p cells m)

  -- a table's text is read over cells
  abbrev pub check_over : List ℕ → Code → List (Cell S) → ℕ → Option JobFault
  check_over table p cells m =
      by_table p m (table_read o reads table (length p.statements) (width p.variables) cells).answer
      (table_read o reads table (length p.statements) (width p.variables) cells).after

  -- the job `check` for a program whose ranges are set: its cells begin as nothing
  abbrev pub check_ready : List ℕ → Code → Option JobFault
  check_ready table p = check_over table p (replicate (table_size p) (nothing o)) (length p.statements)

  -- the program's faults come first, then those of the ranges, then the table's
  abbrev pub check_in : List ℕ → List ℕ → Memory → Option JobFault
  check_in input table m = or_then (refusal_in input m) (check_ready table (code_in (readied input m)))

  -- the same of a text, in places for nv variables and ns statements
  abbrev pub check_refusal : List ℕ → List ℕ → List ℕ → ℕ → ℕ → Option JobFault
  check_refusal text input table nv ns = check_in input table (read_memory (reading text nv ns))

module _ {S : Type 0} (o : Ops S) where
  -- the sweeps do not settle, or the table that they settle is judged
  abbrev pub by_settling : Code → ℕ → Result ℕ SettleFault → List (Cell S) → Option JobFault
  by_settling p m (Err f) cells = Some (Settle f)
  by_settling p m (Ok n) cells = by_check (checked o p cells m)

  -- a table is settled over cells
  abbrev pub sheet_over : Code → ℕ → List (Cell S) → ℕ → Option JobFault
  sheet_over p sweeps cells m = by_settling p m (settled_in o p sweeps cells).answer (settled_in o p sweeps cells).cells

  -- the job `sheet` for a program whose ranges are set
  abbrev pub sheet_ready : ℕ → Code → Option JobFault
  sheet_ready sweeps p = sheet_over p sweeps (replicate (table_size p) (nothing o)) (length p.statements)

  -- the program's faults come first, then those of the ranges
  abbrev pub sheet_in : ℕ → List ℕ → Memory → Option JobFault
  sheet_in sweeps input m = or_then (refusal_in input m) (sheet_ready sweeps (code_in (readied input m)))

  -- the same of a text, in places for nv variables and ns statements
  abbrev pub sheet_refusal : ℕ → List ℕ → List ℕ → ℕ → ℕ → Option JobFault
  sheet_refusal sweeps text input nv ns = sheet_in sweeps input (read_memory (reading text nv ns))
