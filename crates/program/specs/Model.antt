-- A program as plain data: the records that it has in use, and all that it keeps.
use Rattle.std.specs.List.{enumerate_from}
use Rattle.std.specs.Result.{result_unwrap_or, result_err}
use Rattle.std.specs.Prelude.{◌≡◌, ℕ, ◌≤◌, Bool, true, false, cond, List, length, get_or, take, map, filter, ℤ, Some, None, Ok, Err, Option, Result, int_lt, slice_get, slice_index_or, slice_set}
use Rattle.syntax.specs.declared.record.Class.{Class}
use Rattle.syntax.specs.declared.record.Class.TheVariants.{Local, Input, Output}
use Rattle.syntax.specs.declared.record.Constant.{Constant}
use Rattle.syntax.specs.declared.record.Constant.TheVariants as constant
use Rattle.syntax.specs.declared.record.Variable.{Variable}
use Rattle.syntax.specs.declared.record.Statement.{Statement}
use Rattle.syntax.specs.Records.{no_variable, ranged}
use Rattle.reading.specs.declared.fault.ProgramFault.{ProgramFault}
use Rattle.reading.specs.declared.fault.RangeFault.{RangeFault}
use Rattle.reading.specs.declared.fault.RangeFault.TheVariants.{NoIntInput, LowAboveHigh}
use Rattle.reading.specs.declared.draft.Extent.{Extent}
use Rattle.reading.specs.Reading.{Reading}
use Rattle.reading.specs.FirstFault.{HasFault, First}
use Rattle.reading.specs.Formed.{Formed}
use Rattle.program.specs.declared.lent.Program.{Program}

-- the records that a program has in use
pub record Code : Type 0 where
  pub variables : List Variable
  pub statements : List Statement

-- all that a program keeps: the caller's records, how many are in use, and why its text was refused
pub record Memory : Type 0 where
  pub variables : List Variable
  pub statements : List Statement
  pub fault : Option ProgramFault
  pub variable_count : ℕ
  pub statement_count : ℕ

-- how many records are in use; none after a refusal
abbrev pub extent_in : Result Extent ProgramFault → Extent
extent_in r = result_unwrap_or r (record { variables = 0; statements = 0 })

-- so many records are there, and they make a program
pub record InUse (e : Extent) (vs : List Variable) (ss : List Statement) : Type 0 where
  pub variables_there : e.variables ≤ length vs
  pub statements_there : e.statements ≤ length ss
  pub formed : Formed (take e.variables vs) (take e.statements ss)

-- what reading a text leaves
abbrev pub memory_by : Result Extent ProgramFault → List Variable → List Statement → Memory
memory_by r vs ss = record {
  variables = vs;
  statements = ss;
  fault = result_err r;
  variable_count = (extent_in r).variables;
  statement_count = (extent_in r).statements;
}

abbrev pub memory : Program → Memory
memory p = memory_by p.outcome p.variables.now p.statements.now

abbrev pub code : Program → Code
code p = record { variables = take (memory p).variable_count p.variables.now; statements = take (memory p).statement_count p.statements.now }

abbrev pub read_memory : Reading → Memory
read_memory r = memory_by r.answer r.variables r.statements

-- whether the text was refused, and why
abbrev pub outcome_of : Option ProgramFault → Result (Unit {0}) ProgramFault
outcome_of None = Ok tt
outcome_of (Some f) = Err f

-- a text that was read has no fault, and a refused one is told the first that it has
abbrev pub TellsFirst : List ℕ → ℕ → ℕ → Option ProgramFault → Type 0
TellsFirst text nv ns None = (pass point n q : ℕ) → HasFault text nv ns pass point n q → ⊥
TellsFirst text nv ns (Some f) = First text nv ns f

abbrev pub is_input : Class → Bool
is_input Local = false
is_input Input = true
is_input Output = false

-- the variable, counted from i, that is the input at a position from 0 among all inputs
abbrev pub input_from : ℕ → List Variable → ℕ → Option ℕ
input_from i vs position = slice_get (map (λ (x : ℕ × Variable). x.0) (filter (λ (x : ℕ × Variable). is_input x.1.declaration.class) (enumerate_from i vs))) position

-- the input is an INT
abbrev pub is_int : Constant → Bool
is_int (constant.Bool b) = false
is_int (constant.Int n) = true

-- an answer, and what the program keeps after it
pub record Outcome (X E : Type 0) : Type 0 where
  pub answer : Result X E
  pub after : Memory

-- of setting a range
abbrev pub Setting : Type 0
Setting = Outcome (Unit {0}) RangeFault

abbrev pub with_range : Memory → ℕ → ℤ → ℤ → Memory
with_range m i low high = record {
  variables = slice_set m.variables i (ranged (slice_index_or m.variables i no_variable) (record { low = low; high = high }));
  statements = m.statements;
  fault = m.fault;
  variable_count = m.variable_count;
  statement_count = m.statement_count;
}

abbrev pub refused_as : Memory → RangeFault → Setting
refused_as m f = record { answer = Err f; after = m }

-- a range is for an INT input, and its low is not above its high; else nothing changes
abbrev pub ranging_at : Memory → Option ℕ → ℕ → ℤ → ℤ → Setting
ranging_at m None position low high = refused_as m (NoIntInput position)
ranging_at m (Some i) position low high =
    cond (is_int (get_or m.variables i no_variable).declaration.initial)
    (cond (int_lt high low) (refused_as m (LowAboveHigh position)) (record { answer = Ok tt; after = with_range m i low high }))
    (refused_as m (NoIntInput position))

abbrev pub input_at : Memory → ℕ → Option ℕ
input_at m position = input_from 0 (take m.variable_count m.variables) position

abbrev pub ranging : Memory → ℕ → ℤ → ℤ → Setting
ranging m position low high = ranging_at m (input_at m position) position low high

-- the code's answer and the program's memory are those of an outcome, and the program keeps the caller's records
pub record SetAs {X E : Type 0} (want : Outcome X E) (r : Result X E) (old new : Program) : Type 0 where
  pub answer : r ≡ want.answer
  pub memory : memory new ≡ want.after
  pub variables : new.variables.ghost_name ≡ old.variables.ghost_name
  pub statements : new.statements.ghost_name ≡ old.statements.ghost_name
