-- The program that a text gives, or the fault for which it is refused.
use Rattle.std.specs.Prelude.{◌≡◌, ℕ, zero, suc, ◌+◌, ◌-◌, Bool, true, false, cond, ◌&&◌, List, [], ◌∷◌, ◌++◌, length, take, drop, replicate, Some, None, Ok, Err, Option, Result, nat_lt, slice_index_or}
use Rattle.syntax.specs.declared.operator.Jump.{Jump as JumpOperator}
use Rattle.syntax.specs.declared.record.Name.{Name}
use Rattle.syntax.specs.declared.record.Target.{Target}
use Rattle.syntax.specs.declared.record.Variable.{Variable}
use Rattle.syntax.specs.declared.record.Operation.{Operation}
use Rattle.syntax.specs.declared.record.Operation.TheVariants.{Return, Not, Label, Apply, Store, Jump}
use Rattle.syntax.specs.declared.record.Statement.{Statement}
use Rattle.syntax.specs.declared.grammar.Stage.TheVariants.{Blocks}
use Rattle.syntax.specs.declared.grammar.Step.{Step}
use Rattle.syntax.specs.Records.{no_variable, no_statement}
use Rattle.reading.specs.declared.fault.StatementFault.{StatementFault}
use Rattle.reading.specs.declared.fault.ProgramFault.{ProgramFault}
use Rattle.reading.specs.declared.fault.ProgramFault.TheVariants as p
use Rattle.reading.specs.declared.draft.Progress.{Progress}
use Rattle.reading.specs.declared.draft.Extent.{Extent}
use Rattle.reading.specs.Names.{label_name, found}
use Rattle.reading.specs.Drafts.{Draft, draft_of, applied}
use Rattle.reading.specs.Statements.{step_at}

-- what follows an answer; a fault goes before it
abbrev pub onward : {X Y : Type 0} → Result X ProgramFault → (X → Result Y ProgramFault) → Result Y ProgramFault
onward (Ok x) f = f x
onward (Err e) f = Err e

-- one word's effect on a draft, and then what follows from the place after it; at the end of the text the draft is as it is
abbrev pub go_on : List ℕ → Draft → Result (Option (Name × Step × ℕ)) StatementFault → (ℕ → Draft → Result Draft ProgramFault) → Result Draft ProgramFault
go_on text d (Err e) next = Err (p.Statement e)
go_on text d (Ok None) next = Ok d
go_on text d (Ok (Some x)) next = onward (applied text d x.0 x.1) (next x.2)

-- the effect of the words from the place p on, of which there are fewer than n
abbrev pub taken_from : ℕ → List ℕ → ℕ → Draft → Result Draft ProgramFault
taken_from zero text p d = Ok d
taken_from (suc n) text p d = go_on text d (step_at text p d.progress.stage) (λ q e. taken_from n text q e)

-- the effect of all words of a text; each takes a byte at least
abbrev pub taken : List ℕ → Draft → Result Draft ProgramFault
taken text d = taken_from (length text + 1) text 0 d

-- where a text begins: nothing is recorded
abbrev pub start : Progress
start = record { stage = Blocks; variables = 0; statements = 0 }

abbrev pub blank_draft : ℕ → ℕ → Draft
blank_draft nv ns = draft_of start (replicate nv no_variable) (replicate ns no_statement)

abbrev pub is_return : Operation → Bool
is_return Return = true
is_return Not = false
is_return (Label name) = false
is_return (Apply o x) = false
is_return (Store s v) = false
is_return (Jump j t) = false

-- there is a last statement among the first n, and it is RET
abbrev pub ends_with_return : ℕ → List Statement → Bool
ends_with_return n ss = nat_lt 0 n && is_return (slice_index_or ss (n - 1) no_statement).operation

-- a jump with the statement that its label is, or a fault at its operand
abbrev pub aimed_at : JumpOperator → Target → Option ℕ → Result Operation ProgramFault
aimed_at j t None = Err (p.NoLabel t.name.place)
aimed_at j t (Some i) = Ok (Jump j (record { name = t.name; statement = i }))

-- an operation once labels can be found; only jumps change
abbrev pub aimed : (Name → Option ℕ) → Operation → Result Operation ProgramFault
aimed label Return = Ok Return
aimed label Not = Ok Not
aimed label (Label name) = Ok (Label name)
aimed label (Apply o x) = Ok (Apply o x)
aimed label (Store s v) = Ok (Store s v)
aimed label (Jump j t) = aimed_at j t (label t.name)

abbrev pub aimed_statement : (Name → Option ℕ) → Statement → Result Statement ProgramFault
aimed_statement label s = onward (aimed label s.operation) (λ o. Ok (record { operation = o; place = s.place }))

-- all statements, or the fault of the first jump to no label
abbrev pub aimed_all : (Name → Option ℕ) → List Statement → Result (List Statement) ProgramFault
aimed_all label [] = Ok []
aimed_all label (s ∷ ss) = onward (aimed_statement label s) (λ t. onward (aimed_all label ss) (λ ts. Ok (t ∷ ts)))

-- which statement a label is
abbrev pub label_in : List ℕ → List Statement → Name → Option ℕ
label_in text ss name = found label_name text name 0 ss

-- the first n statements at the end of their text: the last is RET, and every jump finds its label
abbrev pub ended : List ℕ → ℕ → List Statement → Result (List Statement) ProgramFault
ended text n ss =
    cond (ends_with_return n ss) (onward (aimed_all (label_in text (take n ss)) (take n ss)) (λ ts. Ok (ts ++ drop n ss))) (Err (p.NoReturn (length text)))

abbrev pub finished : List ℕ → Draft → Result Draft ProgramFault
finished text d = onward (ended text d.progress.statements d.statements) (λ ss. Ok (draft_of d.progress d.variables ss))

-- the program that a text gives in places for nv variables and ns statements
abbrev pub program_in : List ℕ → ℕ → ℕ → Result Draft ProgramFault
program_in text nv ns = cond (nat_lt 65535 (length text)) (Err p.TooLong) (onward (taken text (blank_draft nv ns)) (finished text))

-- the answer to a text, and all of the caller's records after it
pub record Reading : Type 0 where
  pub answer : Result Extent ProgramFault
  pub variables : List Variable
  pub statements : List Statement

-- a refused text leaves every record blank
abbrev pub answered_by : ℕ → ℕ → Result Draft ProgramFault → Reading
answered_by nv ns (Ok d) = record {
  answer = Ok (record { variables = d.progress.variables; statements = d.progress.statements });
  variables = d.variables;
  statements = d.statements;
}
answered_by nv ns (Err e) = record { answer = Err e; variables = replicate nv no_variable; statements = replicate ns no_statement }

-- what reading a text does
abbrev pub reading : List ℕ → ℕ → ℕ → Reading
reading text nv ns = answered_by nv ns (program_in text nv ns)

-- the code's answer and the caller's records are those of a reading
pub record ReadAs (want : Reading) (r : Result Extent ProgramFault) (vs : List Variable) (ss : List Statement) : Type 0 where
  pub answer : r ≡ want.answer
  pub variables : vs ≡ want.variables
  pub statements : ss ≡ want.statements

-- what the code answers of jumps, beside its records
abbrev pub aimed_is : {X : Type 0} → Result X ProgramFault → List Statement → Result (List Statement) ProgramFault
aimed_is (Ok x) ss = Ok ss
aimed_is (Err e) ss = Err e

abbrev pub filled_is : Result Extent ProgramFault → List Variable → List Statement → Result (Extent × List Variable × List Statement) ProgramFault
filled_is (Ok e) vs ss = Ok (e, vs, ss)
filled_is (Err e) vs ss = Err e

abbrev pub extent_of : Result Draft ProgramFault → Result (Extent × List Variable × List Statement) ProgramFault
extent_of (Ok d) = Ok (record { variables = d.progress.variables; statements = d.progress.statements }, d.variables, d.statements)
extent_of (Err e) = Err e
