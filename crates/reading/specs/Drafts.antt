-- A program in the making: the stage that its text has come to, its records, and how many of them are in use.
use Rattle.std.specs.Prelude.{ℕ, ◌+◌, ◌≤◌, min, Bool, cond, ◌||◌, List, length, take, is_some, Some, None, Ok, Err, Option, Result, nat_lt, slice_set}
use Rattle.syntax.specs.declared.operator.Command.{Command}
use Rattle.syntax.specs.declared.operator.Command.TheVariants as c
use Rattle.syntax.specs.declared.record.Name.{Name}
use Rattle.syntax.specs.declared.record.Variable.{Variable}
use Rattle.syntax.specs.declared.record.Operand.TheVariants as operand
use Rattle.syntax.specs.declared.record.Operation.{Operation}
use Rattle.syntax.specs.declared.record.Operation.TheVariants as operation
use Rattle.syntax.specs.declared.record.Statement.{Statement}
use Rattle.syntax.specs.declared.grammar.Stage.{Stage}
use Rattle.syntax.specs.declared.grammar.Stage.TheVariants.{Block, VariableColon, Body, LabelColon, Value, Storage, Destination}
use Rattle.syntax.specs.declared.grammar.Step.{Step}
use Rattle.syntax.specs.declared.grammar.Step.TheVariants.{Enter, Declare, Keep, Begin, Label, Complete, Use, Change, Aim}
use Rattle.syntax.specs.Records.{declared_as}
use Rattle.reading.specs.declared.fault.StatementFault.{StatementFault}
use Rattle.reading.specs.declared.fault.StatementFault.TheVariants.{NoVariable}
use Rattle.reading.specs.declared.fault.ProgramFault.{ProgramFault}
use Rattle.reading.specs.declared.fault.ProgramFault.TheVariants as p
use Rattle.reading.specs.declared.draft.Progress.{Progress}
use Rattle.reading.specs.Names.{variable_name, label_name, found}

pub record Draft : Type 0 where
  pub progress : Progress
  pub variables : List Variable
  pub statements : List Statement

abbrev pub draft_of : Progress → List Variable → List Statement → Draft
draft_of p vs ss = record { progress = p; variables = vs; statements = ss }

-- what is in use is there
pub record Fits (p : Progress) (vs : List Variable) (ss : List Statement) : Type 0 where
  pub variables : p.variables ≤ length vs
  pub statements : p.statements ≤ length ss

-- what is declared so far
abbrev pub declared_in : Draft → List Variable
declared_in d = take d.progress.variables d.variables

abbrev pub statements_in : Draft → List Statement
statements_in d = take d.progress.statements d.statements

-- a program has at most 64 variables and 1,024 statements, and no more than the caller's places
abbrev pub room_for_variables : Draft → ℕ
room_for_variables d = min (length d.variables) 64

abbrev pub room_for_statements : Draft → ℕ
room_for_statements d = min (length d.statements) 1024

-- the same draft at another stage
abbrev pub entered : Draft → Stage → Draft
entered d stage = record {
  progress = record { stage = stage; variables = d.progress.variables; statements = d.progress.statements };
  variables = d.variables;
  statements = d.statements;
}

-- with a variable more, or a statement more, and then another stage
abbrev pub with_variable : Draft → Variable → Stage → Draft
with_variable d v stage = record {
  progress = record { stage = stage; variables = d.progress.variables + 1; statements = d.progress.statements };
  variables = slice_set d.variables d.progress.variables v;
  statements = d.statements;
}

abbrev pub with_statement : Draft → Statement → Stage → Draft
with_statement d s stage = record {
  progress = record { stage = stage; variables = d.progress.variables; statements = d.progress.statements + 1 };
  variables = d.variables;
  statements = slice_set d.statements d.progress.statements s;
}

-- what follows where there is room for one variable, or one statement, more
abbrev pub if_variable_fits : {X : Type 0} → Draft → ℕ → X → Result X ProgramFault
if_variable_fits d place next = cond (nat_lt d.progress.variables (room_for_variables d)) (Ok next) (Err (p.VariablesFull place))

abbrev pub if_statement_fits : {X : Type 0} → Draft → ℕ → X → Result X ProgramFault
if_statement_fits d place next = cond (nat_lt d.progress.statements (room_for_statements d)) (Ok next) (Err (p.StatementsFull place))

-- a name is known when a variable or a label has it
abbrev pub is_known : List ℕ → Draft → Name → Bool
is_known text d name = is_some (found variable_name text name 0 (declared_in d)) || is_some (found label_name text name 0 (statements_in d))

-- a new name is none that is known
abbrev pub if_new : {X : Type 0} → List ℕ → Draft → Name → Result X ProgramFault → Result X ProgramFault
if_new text d name next = cond (is_known text d name) (Err (p.Redeclared name.place)) next

-- an operator at a place begins a statement; RET and NOT are whole already
abbrev pub begun_with : Draft → ℕ → Command → Draft
begun_with d place c.Ret = with_statement d (record { operation = operation.Return; place = place }) Body
begun_with d place c.Not = with_statement d (record { operation = operation.Not; place = place }) Body
begun_with d place (c.Apply o) = entered d (Value o place)
begun_with d place (c.Store s) = entered d (Storage s place)
begun_with d place (c.Jump j) = entered d (Destination j place)

-- a statement that began at a place is whole
abbrev pub completed : Draft → Operation → ℕ → Result Draft ProgramFault
completed d o place = if_statement_fits d place (with_statement d (record { operation = o; place = place }) Body)

-- the variable that has a name, for an operand
abbrev pub as_variable : Name → Option ℕ → Result ℕ StatementFault
as_variable name None = Err (NoVariable name.place)
as_variable name (Some i) = Ok i

abbrev pub variable_at : List ℕ → List Variable → Name → Result ℕ StatementFault
variable_at text vs name = as_variable name (found variable_name text name 0 vs)

abbrev pub completed_by : Draft → (ℕ → Operation) → ℕ → Result ℕ StatementFault → Result Draft ProgramFault
completed_by d make place (Err e) = Err (p.Statement e)
completed_by d make place (Ok i) = completed d (make i) place

-- what a word that fits does to the draft; the name is the word's place and length
abbrev pub applied : List ℕ → Draft → Name → Step → Result Draft ProgramFault
applied text d name (Enter stage) = Ok (entered d stage)
applied text d name (Declare class) = if_new text d name (if_variable_fits d name.place (entered d (VariableColon class name)))
applied text d name (Keep declaration) = if_variable_fits d declaration.name.place (with_variable d (declared_as declaration) (Block declaration.class))
applied text d name (Begin command) = if_statement_fits d name.place (begun_with d name.place command)
applied text d name Label = if_new text d name (if_statement_fits d name.place (with_statement d (record { operation = operation.Label name; place = name.place }) LabelColon))
applied text d name (Complete o k place) = completed d (operation.Apply o (operand.Constant k)) place
applied text d name (Use o place) = completed_by d (λ i. operation.Apply o (operand.Variable i)) place (variable_at text (declared_in d) name)
applied text d name (Change s place) = completed_by d (λ i. operation.Store s i) place (variable_at text (declared_in d) name)
applied text d name (Aim j place) = completed d (operation.Jump j (record { name = name; statement = 0 })) place
