-- Where a statement or a declaration has begun there is a place for it, so only a first word can want one.
use Rattle.std.proofs.Common.{◌≡◌, ℕ, ◌<◌, Bool, true, false, cond, ltb, List, IfOk, Some, None, Ok, Err, Option, Result, refl}
use Rattle.std.proofs.lemmas.Bool.{ltb-true}
use Rattle.syntax.specs.declared.operator.Command.{Command}
use Rattle.syntax.specs.declared.operator.Command.TheVariants as c
use Rattle.syntax.specs.declared.record.Constant.{Constant}
use Rattle.syntax.specs.declared.record.Constant.TheVariants.{Bool as bool, Int}
use Rattle.syntax.specs.declared.record.Declaration.{Declaration}
use Rattle.syntax.specs.declared.record.Name.{Name}
use Rattle.syntax.specs.declared.record.Operation.{Operation}
use Rattle.syntax.specs.declared.token.Token.{Token}
use Rattle.syntax.specs.declared.grammar.Stage.{Stage}
use Rattle.syntax.specs.declared.grammar.Stage.TheVariants.{Blocks, Block, VariableColon, Kind, AfterKind, Initial, Semicolon, Body, LabelColon, Value, Storage, Destination}
use Rattle.syntax.specs.declared.grammar.Step.{Step}
use Rattle.syntax.specs.declared.grammar.Step.TheVariants.{Enter, Declare, Keep, Begin, Label, Complete, Use, Change, Aim}
use Rattle.syntax.specs.Grammar.{begun, followed}
use Rattle.reading.specs.declared.fault.StatementFault.{StatementFault}
use Rattle.reading.specs.declared.fault.ProgramFault.{ProgramFault}
use Rattle.reading.proofs.Sorts.{by_token}
use Rattle.reading.specs.Drafts.{Draft, entered, room_for_variables, room_for_statements, is_known, begun_with, completed_by, variable_at, declared_in, applied}

abbrev pub VariableFits : Draft → Type 0
VariableFits d = d.progress.variables < room_for_variables d

abbrev pub StatementFits : Draft → Type 0
StatementFits d = d.progress.statements < room_for_statements d

-- what is known of a draft at a stage
abbrev pub Roomy : Draft → Stage → Type 0
Roomy d Blocks = Unit {0}
Roomy d (Block class) = Unit {0}
Roomy d (VariableColon class name) = VariableFits d
Roomy d (Kind class name) = VariableFits d
Roomy d (AfterKind x) = VariableFits d
Roomy d (Initial x) = VariableFits d
Roomy d (Semicolon x) = VariableFits d
Roomy d Body = Unit {0}
Roomy d LabelColon = Unit {0}
Roomy d (Value o p) = StatementFits d
Roomy d (Storage s p) = StatementFits d
Roomy d (Destination j p) = StatementFits d

-- and of what a word does there
abbrev pub StepRoomy : Draft → Step → Type 0
StepRoomy d (Enter stage) = Roomy d stage
StepRoomy d (Declare class) = Unit {0}
StepRoomy d (Keep x) = VariableFits d
StepRoomy d (Begin command) = Unit {0}
StepRoomy d Label = Unit {0}
StepRoomy d (Complete o k p) = StatementFits d
StepRoomy d (Use o p) = StatementFits d
StepRoomy d (Change s p) = StatementFits d
StepRoomy d (Aim j p) = StatementFits d

abbrev pub FitRoomy : Draft → Option Step → Type 0
FitRoomy d None = Unit {0}
FitRoomy d (Some step) = StepRoomy d step

module _ (d : Draft) where
  roomy-initial : (x : Declaration) (a b : Constant) → VariableFits d → FitRoomy d (begun x a b)
  roomy-initial x (bool a) (bool b) r = r
  roomy-initial x (bool a) (Int n) r = tt
  roomy-initial x (Int m) (bool b) r = tt
  roomy-initial x (Int m) (Int n) r = r

  pub roomy-followed : (stage : Stage) → Roomy d stage → (token : Token) → FitRoomy d (followed stage token)
  roomy-followed Blocks r = by_token (λ x. FitRoomy d (followed Blocks x)) tt (λ k. tt) tt tt tt (λ b. tt) tt (λ k. tt) (λ c. tt)
  roomy-followed (Block class) r = by_token (λ x. FitRoomy d (followed (Block class) x)) tt (λ k. tt) tt tt tt (λ b. tt) tt (λ k. tt) (λ c. tt)
  roomy-followed (VariableColon class name) r = by_token (λ x. FitRoomy d (followed (VariableColon class name) x)) tt (λ k. tt) r tt tt (λ b. tt) tt (λ k. tt) (λ c. tt)
  roomy-followed (Kind class name) r = by_token (λ x. FitRoomy d (followed (Kind class name) x)) tt (λ k. tt) tt tt tt (λ b. tt) tt (λ k. r) (λ c. tt)
  roomy-followed (AfterKind x) r = by_token (λ y. FitRoomy d (followed (AfterKind x) y)) tt (λ k. tt) tt r r (λ b. tt) tt (λ k. tt) (λ c. tt)
  roomy-followed (Initial x) r = by_token (λ y. FitRoomy d (followed (Initial x) y)) tt (λ k. roomy-initial x x.initial k r) tt tt tt (λ b. tt) tt (λ k. tt) (λ c. tt)
  roomy-followed (Semicolon x) r = by_token (λ y. FitRoomy d (followed (Semicolon x) y)) tt (λ k. tt) tt r tt (λ b. tt) tt (λ k. tt) (λ c. tt)
  roomy-followed Body r = by_token (λ x. FitRoomy d (followed Body x)) tt (λ k. tt) tt tt tt (λ b. tt) tt (λ k. tt) (λ c. tt)
  roomy-followed LabelColon r = by_token (λ x. FitRoomy d (followed LabelColon x)) tt (λ k. tt) tt tt tt (λ b. tt) tt (λ k. tt) (λ c. tt)
  roomy-followed (Value o p) r = by_token (λ x. FitRoomy d (followed (Value o p) x)) r (λ k. r) tt tt tt (λ b. tt) tt (λ k. tt) (λ c. tt)
  roomy-followed (Storage s p) r = by_token (λ x. FitRoomy d (followed (Storage s p) x)) r (λ k. tt) tt tt tt (λ b. tt) tt (λ k. tt) (λ c. tt)
  roomy-followed (Destination j p) r = by_token (λ x. FitRoomy d (followed (Destination j p) x)) r (λ k. tt) tt tt tt (λ b. tt) tt (λ k. tt) (λ c. tt)

abbrev pub RoomyAnswer : Result Draft ProgramFault → Type 0
RoomyAnswer r = IfOk r (λ e. Roomy e e.progress.stage)

roomy-if : (b : Bool) (next : Draft) (f : ProgramFault) → (b ≡ true → Roomy next next.progress.stage) → RoomyAnswer (cond b (Ok next) (Err f))
roomy-if true next f h = h refl
roomy-if false next f h = tt

roomy-unless : (b : Bool) (f : ProgramFault) (r : Result Draft ProgramFault) → RoomyAnswer r → RoomyAnswer (cond b (Err f) r)
roomy-unless true f r h = tt
roomy-unless false f r h = h

module _ (text : List ℕ) (d : Draft) where
  roomy-begun : (p : ℕ) (command : Command) → StatementFits d → Roomy (begun_with d p command) (begun_with d p command).progress.stage
  roomy-begun p c.Ret h = tt
  roomy-begun p c.Not h = tt
  roomy-begun p (c.Apply o) h = h
  roomy-begun p (c.Store s) h = h
  roomy-begun p (c.Jump j) h = h

  roomy-completed : (make : ℕ → Operation) (p : ℕ) (r : Result ℕ StatementFault) → RoomyAnswer (completed_by d make p r)
  roomy-completed make p (Err e) = tt
  roomy-completed make p (Ok i) = roomy-if (ltb d.progress.statements (room_for_statements d)) _ _ (λ _. tt)

  -- an entered stage has what its draft has
  roomy-entered : (stage : Stage) → Roomy d stage → Roomy (entered d stage) stage
  roomy-entered Blocks r = tt
  roomy-entered (Block class) r = tt
  roomy-entered (VariableColon class name) r = r
  roomy-entered (Kind class name) r = r
  roomy-entered (AfterKind x) r = r
  roomy-entered (Initial x) r = r
  roomy-entered (Semicolon x) r = r
  roomy-entered Body r = tt
  roomy-entered LabelColon r = tt
  roomy-entered (Value o p) r = r
  roomy-entered (Storage s p) r = r
  roomy-entered (Destination j p) r = r

  pub roomy-applied : (name : Name) (step : Step) → StepRoomy d step → RoomyAnswer (applied text d name step)
  roomy-applied name (Enter stage) r = roomy-entered stage r
  roomy-applied name (Declare class) r = roomy-unless (is_known text d name) _ _ (roomy-if (ltb d.progress.variables (room_for_variables d)) _ _ (λ e. ltb-true d.progress.variables (room_for_variables d) e))
  roomy-applied name (Keep x) r = roomy-if (ltb d.progress.variables (room_for_variables d)) _ _ (λ _. tt)
  roomy-applied name (Begin command) r = roomy-if (ltb d.progress.statements (room_for_statements d)) _ _ (λ e. roomy-begun name.place command (ltb-true d.progress.statements (room_for_statements d) e))
  roomy-applied name Label r = roomy-unless (is_known text d name) _ _ (roomy-if (ltb d.progress.statements (room_for_statements d)) _ _ (λ _. tt))
  roomy-applied name (Complete o k p) r = roomy-if (ltb d.progress.statements (room_for_statements d)) _ _ (λ _. tt)
  roomy-applied name (Use o p) r = roomy-completed _ p (variable_at text (declared_in d) name)
  roomy-applied name (Change s p) r = roomy-completed _ p (variable_at text (declared_in d) name)
  roomy-applied name (Aim j p) r = roomy-if (ltb d.progress.statements (room_for_statements d)) _ _ (λ _. tt)
