-- A draft stays sound: what its statements name is declared, its ranges are in order, and the records beyond it are blank.
use Rattle.std.proofs.Common.{◌≡◌, ℕ, zero, suc, ◌+◌, ◌<◌, ◌≤◌, Bool, true, false, cond, ltb, List, [], ◌∷◌, length, get_or, set, replicate, IfOk, Some, None, Ok, Err, Option, Result, sym, refl, ap, ◌∙◌, subst, ⊎_elim, arith}
use Rattle.std.proofs.lemmas.List.{length-set, length-take-le, length-replicate, get_or-set_same, get_or-set_other, get_or-replicate, get_or_past}
use Rattle.std.proofs.lemmas.Bool.{ltb-true, lt-ltb, cases_eq, cases_lt}
use Rattle.syntax.specs.declared.operator.Command.{Command}
use Rattle.syntax.specs.declared.operator.Command.TheVariants as c
use Rattle.syntax.specs.declared.record.Name.{Name}
use Rattle.syntax.specs.declared.record.Declaration.{Declaration}
use Rattle.syntax.specs.declared.record.Variable.{Variable}
use Rattle.syntax.specs.declared.record.Operand.TheVariants as operand
use Rattle.syntax.specs.declared.record.Operation.{Operation}
use Rattle.syntax.specs.declared.record.Operation.TheVariants.{Return, Not, Label, Apply, Store, Jump}
use Rattle.syntax.specs.declared.record.Statement.{Statement}
use Rattle.syntax.specs.declared.grammar.Stage.{Stage}
use Rattle.syntax.specs.declared.grammar.Step.{Step}
use Rattle.syntax.specs.declared.grammar.Step.TheVariants as step
use Rattle.syntax.specs.Records.{no_variable, no_statement, declared_as}
use Rattle.reading.specs.declared.fault.StatementFault.{StatementFault}
use Rattle.reading.specs.declared.fault.ProgramFault.{ProgramFault}
use Rattle.reading.specs.Names.{variable_name, has_name, found}
use Rattle.reading.specs.Drafts.{Draft, entered, with_variable, with_statement, if_variable_fits, if_statement_fits, is_known, begun_with, completed, completed_by, as_variable, variable_at, declared_in, applied, room_for_variables, room_for_statements}
use Rattle.reading.specs.Statements.{step_at}
use Rattle.reading.specs.Reading.{onward, go_on, taken_from, blank_draft}
use Rattle.reading.specs.Formed.{is_proper, operand_in, in_order}
use Rattle.reading.proofs.Proper.{ProperStage, ProperStep, ProperFit, proper-step}

-- what an operation says before jumps have their targets
abbrev pub declared_only : ℕ → Operation → Bool
declared_only v Return = true
declared_only v Not = true
declared_only v (Label name) = true
declared_only v (Apply o x) = operand_in v x
declared_only v (Store s i) = ltb i v
declared_only v (Jump j t) = true

abbrev pub InOrder : Variable → Type 0
InOrder v = in_order v ≡ true

pub record Sound (d : Draft) : Type 0 where
  pub variables-fit : d.progress.variables ≤ room_for_variables d
  pub statements-fit : d.progress.statements ≤ room_for_statements d
  pub operands : (i : ℕ) → i < d.progress.statements → declared_only d.progress.variables (get_or d.statements i no_statement).operation ≡ true
  pub stage-proper : ProperStage d.progress.stage
  pub ordered : (j : ℕ) → j < d.progress.variables → InOrder (get_or d.variables j no_variable)
  pub variables_rest : (j : ℕ) → d.progress.variables ≤ j → get_or d.variables j no_variable ≡ no_variable
  pub statements_rest : (i : ℕ) → d.progress.statements ≤ i → get_or d.statements i no_statement ≡ no_statement

below_more : (i v : ℕ) → ltb i v ≡ true → ltb i (v + 1) ≡ true
below_more i v e = lt-ltb i (v + 1) (omega (arith, ltb-true i v e))

declared-more : (v : ℕ) (o : Operation) → declared_only v o ≡ true → declared_only (v + 1) o ≡ true
declared-more v Return e = e
declared-more v Not e = e
declared-more v (Label name) e = e
declared-more v (Apply o (operand.Constant k)) e = e
declared-more v (Apply o (operand.Variable i)) e = below_more i v e
declared-more v (Store s i) e = below_more i v e
declared-more v (Jump j t) e = e

-- what holds of each element, and of the one that is set, holds after
module _ {X : Type 0} (xs : List X) (n : ℕ) (x none : X) (P : X → Type 0) where
  pub each_set : n < length xs → ((i : ℕ) → i < n → P (get_or xs i none)) → P x → (i : ℕ) → i < n + 1 → P (get_or (set xs n x) i none)
  each_set h below here i l = ⊎_elim (λ e. subst P (sym (ap (λ k. get_or (set xs n x) k none) e ∙ get_or-set_same xs n x none h)) here) (λ ne. let lt : i < n = at_most ne in subst P (sym (get_or-set_other xs n i x none ne)) (below i lt)) (cases_eq i n)
    where
      at_most : (i ≡ n → ⊥) → i < n
      at_most ne = omega (arith, ne)

  pub rest-set : ((i : ℕ) → n ≤ i → get_or xs i none ≡ none) → (i : ℕ) → n + 1 ≤ i → get_or (set xs n x) i none ≡ none
  rest-set rest i l = get_or-set_other xs n i x none (λ e. omega (arith, e)) ∙ rest i (omega arith)

module _ (d : Draft) (s : Sound d) where
  pub sound-entered : (stage : Stage) → ProperStage stage → Sound (entered d stage)
  sound-entered stage proper = record { stage-proper = proper; variables-fit = s.variables-fit; statements-fit = s.statements-fit; operands = s.operands; ordered = s.ordered; variables_rest = s.variables_rest; statements_rest = s.statements_rest }

  pub sound-variable : (x : Declaration) (stage : Stage) → is_proper x.initial ≡ true → ProperStage stage → d.progress.variables < room_for_variables d → Sound (with_variable d (declared_as x) stage)
  sound-variable x stage initial proper h = record {
    stage-proper = proper;
    variables-fit = simp length-set (omega arith);
    statements-fit = s.statements-fit;
    operands = λ i l. declared-more d.progress.variables (get_or d.statements i no_statement).operation (s.operands i l);
    ordered = each_set d.variables d.progress.variables (declared_as x) no_variable InOrder (omega arith) s.ordered initial;
    variables_rest = rest-set d.variables d.progress.variables (declared_as x) no_variable (λ _. Unit {0}) s.variables_rest;
    statements_rest = s.statements_rest;
  }

  pub sound-statement : (t : Statement) (stage : Stage) → ProperStage stage → declared_only d.progress.variables t.operation ≡ true → d.progress.statements < room_for_statements d → Sound (with_statement d t stage)
  sound-statement t stage proper e h = record {
    stage-proper = proper;
    variables-fit = s.variables-fit;
    statements-fit = simp length-set (omega arith);
    operands = each_set d.statements d.progress.statements t no_statement (λ u. declared_only d.progress.variables u.operation ≡ true) (omega arith) s.operands e;
    ordered = s.ordered;
    variables_rest = s.variables_rest;
    statements_rest = rest-set d.statements d.progress.statements t no_statement (λ _. Unit {0}) s.statements_rest;
  }

-- a record that is found is among those that were searched
found_within : {T : Type 0} (named : T → Option Name) (text : List ℕ) (name : Name) (k : ℕ) (xs : List T) (i : ℕ) → found named text name k xs ≡ Some i → i < k + length xs
found_within named text name k [] i e = absurd (let z : ◌≡◌ {A = ℕ} 0 1 = cc in omega arith)
found_within named text name k (x ∷ xs) i e = by (has_name named text name x) (found_within named text name (k + 1) xs i) e
  where
    by : (b : Bool) → (found named text name (k + 1) xs ≡ Some i → i < k + 1 + length xs) → cond b (Some k) (found named text name (k + 1) xs) ≡ Some i → i < k + length (x ∷ xs)
    by true more e = let same : k ≡ i = cc in omega arith
    by false more e = omega (arith, more e)

-- an answer whose draft, if it is one, is sound
abbrev pub SoundAnswer : Result Draft ProgramFault → Type 0
SoundAnswer r = IfOk r Sound

sound-if : (b : Bool) (next : Draft) (f : ProgramFault) → (b ≡ true → Sound next) → SoundAnswer (cond b (Ok next) (Err f))
sound-if true next f h = h refl
sound-if false next f h = tt

sound-unless : (b : Bool) (f : ProgramFault) (r : Result Draft ProgramFault) → SoundAnswer r → SoundAnswer (cond b (Err f) r)
sound-unless true f r h = tt
sound-unless false f r h = h

module _ (d : Draft) (place : ℕ) (next : Draft) where
  if-variable-fits : (d.progress.variables < room_for_variables d → Sound next) → SoundAnswer (if_variable_fits d place next)
  if-variable-fits f = sound-if _ next _ (λ e. f (ltb-true d.progress.variables (room_for_variables d) e))

  if-statement-fits : (d.progress.statements < room_for_statements d → Sound next) → SoundAnswer (if_statement_fits d place next)
  if-statement-fits f = sound-if _ next _ (λ e. f (ltb-true d.progress.statements (room_for_statements d) e))

module _ (text : List ℕ) (d : Draft) (s : Sound d) where
  sound-completed : (o : Operation) (place : ℕ) → declared_only d.progress.variables o ≡ true → SoundAnswer (completed d o place)
  sound-completed o place e = if-statement-fits d place _ (sound-statement d s (record { operation = o; place = place }) _ tt e)

  sound-completed-by : (make : ℕ → Operation) (place : ℕ) (name : Name) → ((i : ℕ) → ltb i d.progress.variables ≡ true → declared_only d.progress.variables (make i) ≡ true) → SoundAnswer (completed_by d make place (variable_at text (declared_in d) name))
  sound-completed-by make place name ok = by (found variable_name text name 0 (declared_in d)) (found_within variable_name text name 0 (declared_in d))
    where
      by : (o : Option ℕ) → ((i : ℕ) → o ≡ Some i → i < 0 + length (declared_in d)) → SoundAnswer (completed_by d make place (as_variable name o))
      by None h = tt
      by (Some i) h = sound-completed (make i) place (ok i (lt-ltb i d.progress.variables (omega (arith, h i refl, length-take-le d.progress.variables d.variables (omega (arith, s.variables-fit))))))

  sound-begun : (place : ℕ) (command : Command) → d.progress.statements < room_for_statements d → Sound (begun_with d place command)
  sound-begun place c.Ret h = sound-statement d s _ _ tt refl h
  sound-begun place c.Not h = sound-statement d s _ _ tt refl h
  sound-begun place (c.Apply o) h = sound-entered d s _ tt
  sound-begun place (c.Store o) h = sound-entered d s _ tt
  sound-begun place (c.Jump o) h = sound-entered d s _ tt

  pub sound-applied : (name : Name) (word : Step) → ProperStep word → SoundAnswer (applied text d name word)
  sound-applied name (step.Enter stage) proper = sound-entered d s stage proper
  sound-applied name (step.Declare class) proper = sound-unless (is_known text d name) _ _ (if-variable-fits d name.place _ (λ _. sound-entered d s _ tt))
  sound-applied name (step.Keep x) proper = if-variable-fits d x.name.place _ (sound-variable d s x _ proper tt)
  sound-applied name (step.Begin command) proper = if-statement-fits d name.place _ (sound-begun name.place command)
  sound-applied name step.Label proper = sound-unless (is_known text d name) _ _ (if-statement-fits d name.place _ (sound-statement d s _ _ tt refl))
  sound-applied name (step.Complete o k place) proper = sound-completed (Apply o (operand.Constant k)) place proper
  sound-applied name (step.Use o place) proper = sound-completed-by (λ i. Apply o (operand.Variable i)) place name (λ i e. e)
  sound-applied name (step.Change o place) proper = sound-completed-by (λ i. Store o i) place name (λ i e. e)
  sound-applied name (step.Aim j place) proper = sound-completed (Jump j (record { name = name; statement = 0 })) place refl

-- a text that begins with a sound draft ends with one
module _ (text : List ℕ) where
  sound-onward : (r : Result Draft ProgramFault) (next : Draft → Result Draft ProgramFault) → SoundAnswer r → ((d : Draft) → Sound d → SoundAnswer (next d)) → SoundAnswer (onward r next)
  sound-onward (Ok d) next s f = f d s
  sound-onward (Err e) next s f = tt

  sound-goes-on : (d : Draft) → Sound d → (r : Result (Option (Name × Step × ℕ)) StatementFault) → ProperFit r → (next : ℕ → Draft → Result Draft ProgramFault) → ((q : ℕ) (e : Draft) → Sound e → SoundAnswer (next q e)) → SoundAnswer (go_on text d r next)
  sound-goes-on d s (Err e) proper next f = tt
  sound-goes-on d s (Ok None) proper next f = s
  sound-goes-on d s (Ok (Some x)) proper next f = sound-onward (applied text d x.0 x.1) (next x.2) (sound-applied text d s x.0 x.1 proper) (f x.2)

  pub sound-taken : (n p : ℕ) (d : Draft) → Sound d → SoundAnswer (taken_from n text p d)
  sound-taken zero p d s = s
  sound-taken (suc n) p d s = sound-goes-on d s (step_at text p d.progress.stage) (proper-step text p d.progress.stage s.stage-proper) (λ q e. taken_from n text q e) (λ q e. sound-taken n q e)

blank-each : {X : Type 0} (n i : ℕ) (x : X) → get_or (replicate n x) i x ≡ x
blank-each n i x = ⊎_elim (λ l. get_or-replicate n i x x l) (λ l. get_or_past (replicate n x) i x (simp length-replicate l)) (cases_lt i n)

-- a draft of blank records is sound
pub sound-blank : (nv ns : ℕ) → Sound (blank_draft nv ns)
sound-blank nv ns = record {
  stage-proper = tt;
  variables-fit = omega arith;
  statements-fit = omega arith;
  operands = λ i l. absurd (omega arith);
  ordered = λ j l. absurd (omega arith);
  variables_rest = λ j l. blank-each nv j no_variable;
  statements_rest = λ i l. blank-each ns i no_statement;
}
