-- Which faults a text has, and which of them is the first.
use Rattle.std.specs.Prelude.{◌≡◌, ℕ, ◌<◌, ◌≤◌, true, false, ◌⊎◌, List, length, ℤ, Some, None, Ok, Err, Result, slice_index_or}
use Rattle.words.specs.declared.word.WordFault.TheVariants.{Stray, Unclosed, OutsideInt}
use Rattle.words.specs.Words.{Lexeme, next_at}
use Rattle.syntax.specs.declared.operator.Operator.{Operator}
use Rattle.syntax.specs.declared.operator.Store.{Store}
use Rattle.syntax.specs.declared.operator.Jump.{Jump as JumpOperator}
use Rattle.syntax.specs.declared.operator.Command.{Command}
use Rattle.syntax.specs.declared.record.Name.{Name}
use Rattle.syntax.specs.declared.record.Target.{Target}
use Rattle.syntax.specs.declared.record.Class.{Class}
use Rattle.syntax.specs.declared.record.Constant.TheVariants.{Int}
use Rattle.syntax.specs.declared.record.Operation.TheVariants.{Jump}
use Rattle.syntax.specs.declared.token.Token.TheVariants.{Constant}
use Rattle.syntax.specs.declared.grammar.Step.{Step}
use Rattle.syntax.specs.declared.grammar.Step.TheVariants.{Declare, Begin, Label, Use, Change}
use Rattle.syntax.specs.Records.{no_statement}
use Rattle.syntax.specs.Tokens.{token_of}
use Rattle.syntax.specs.Grammar.{followed, may_end}
use Rattle.reading.specs.declared.fault.ProgramFault.{ProgramFault}
use Rattle.reading.specs.declared.draft.Extent.{Extent}
use Rattle.reading.specs.Faults.{program_number, program_place}
use Rattle.reading.specs.Names.{variable_name, found}
use Rattle.reading.specs.Statements.{spelled}
use Rattle.reading.specs.Drafts.{Draft, declared_in, statements_in, room_for_variables, room_for_statements, is_known, applied}
use Rattle.reading.specs.Reading.{blank_draft, ends_with_return, label_in}

-- a word as a name: where it stands, and how long it is
abbrev pub as_name : ℕ → Lexeme → Name
as_name q w = record { place = q; length = spelled w }

-- the words before the place p all fit, one after the other, and together make the draft:
-- so what stands before p is the beginning of a text that the grammar and the declarations allow
pub data Begins (text : List ℕ) (nv ns : ℕ) : ℕ → Draft → Type 0 where
  nothing : Begins text nv ns 0 (blank_draft nv ns)
  word : {p : ℕ} {d : Draft} (q : ℕ) (w : Lexeme) (after : ℕ) (step : Step) (e : Draft) → Begins text nv ns p d → next_at text p ≡ Ok (Some (q, w, after)) → followed d.progress.stage (token_of w) ≡ Some step → applied text d (as_name q w) step ≡ Ok e → Begins text nv ns after e

-- the next word from p on stands at q and would do this
pub record Next (text : List ℕ) (p : ℕ) (d : Draft) (q : ℕ) (step : Step) : Type 0 where
  pub lexeme : Lexeme
  pub after : ℕ
  pub stands : next_at text p ≡ Ok (Some (q, lexeme, after))
  pub fits : followed d.progress.stage (token_of lexeme) ≡ Some step

-- whether its name is known
abbrev pub Known : {text : List ℕ} {p : ℕ} {d : Draft} {q : ℕ} {step : Step} → Next text p d q step → Type 0
Known {text} {p} {d} {q} x = is_known text d (as_name q x.lexeme) ≡ true

abbrev pub NoVariable : {text : List ℕ} {p : ℕ} {d : Draft} {q : ℕ} {step : Step} → Next text p d q step → Type 0
NoVariable {text} {p} {d} {q} x = found variable_name text (as_name q x.lexeme) 0 (declared_in d) ≡ None

-- why a text cannot go on from the place p, where it has made a draft: the fault's number n, and the place q of the word, the comment or the end
-- (several may hold of one word: a number outside INT where no number fits, a name that is known where all places are taken)
pub data Stops (text : List ℕ) (p : ℕ) (d : Draft) (n q : ℕ) : Type 0 where
  stray_byte : n ≡ 2 → next_at text p ≡ Err (Stray q) → Stops text p d n q
  open_comment : n ≡ 3 → next_at text p ≡ Err (Unclosed q) → Stops text p d n q
  outside_int : n ≡ 4 → next_at text p ≡ Err (OutsideInt q) → Stops text p d n q
  outside_misfit : n ≡ 5 → next_at text p ≡ Err (OutsideInt q) → ((k : ℤ) → followed d.progress.stage (Constant (Int k)) ≡ None) → Stops text p d n q
  misfit : n ≡ 5 → (w : Lexeme) (after : ℕ) → next_at text p ≡ Ok (Some (q, w, after)) → followed d.progress.stage (token_of w) ≡ None → Stops text p d n q
  early_end : n ≡ 5 → q ≡ length text → next_at text p ≡ Ok None → may_end d.progress.stage ≡ false → Stops text p d n q
  variable_again : n ≡ 7 → (class : Class) (x : Next text p d q (Declare class)) → Known x → Stops text p d n q
  label_again : n ≡ 7 → (x : Next text p d q Label) → Known x → Stops text p d n q
  no_value : n ≡ 8 → (o : Operator) (at : ℕ) (x : Next text p d q (Use o at)) → NoVariable x → Stops text p d n q
  no_storage : n ≡ 8 → (s : Store) (at : ℕ) (x : Next text p d q (Change s at)) → NoVariable x → Stops text p d n q
  no_place_variable : n ≡ 9 → (class : Class) → Next text p d q (Declare class) → room_for_variables d ≤ d.progress.variables → Stops text p d n q
  no_place_statement : n ≡ 10 → (c : Command) → Next text p d q (Begin c) → room_for_statements d ≤ d.progress.statements → Stops text p d n q
  no_place_label : n ≡ 10 → Next text p d q Label → room_for_statements d ≤ d.progress.statements → Stops text p d n q

-- the whole text makes a draft
pub record Makes (text : List ℕ) (nv ns : ℕ) (d : Draft) : Type 0 where
  pub last : ℕ
  pub begins : Begins text nv ns last d
  pub no_more : next_at text last ≡ Ok None
  pub ends : may_end d.progress.stage ≡ true

-- a text has a fault of number n at the place q, found in a pass and there at a point:
-- first the length of the text (pass 0), then its words by place (1), then its last statement (2), then its jumps in their order (3)
pub data HasFault (text : List ℕ) (nv ns pass point n q : ℕ) : Type 0 where
  too_long : pass ≡ 0 → point ≡ 0 → n ≡ 1 → q ≡ 65535 → 65535 < length text → HasFault text nv ns pass point n q
  at_word : pass ≡ 1 → point ≡ q → (p : ℕ) (d : Draft) → Begins text nv ns p d → Stops text p d n q → HasFault text nv ns pass point n q
  no_return : pass ≡ 2 → point ≡ 0 → n ≡ 11 → q ≡ length text → (d : Draft) → Makes text nv ns d → ends_with_return d.progress.statements d.statements ≡ false → HasFault text nv ns pass point n q
  no_label : pass ≡ 3 → n ≡ 8 → (d : Draft) → Makes text nv ns d → ends_with_return d.progress.statements d.statements ≡ true → (j : JumpOperator) (t : Target) → point < length (statements_in d) → (slice_index_or (statements_in d) point no_statement).operation ≡ Jump j t → label_in text (statements_in d) t.name ≡ None → q ≡ t.name.place → HasFault text nv ns pass point n q

-- one triple is not behind another, by its first part, then its second, then its third
abbrev pub NotBehind : ℕ → ℕ → ℕ → ℕ → ℕ → ℕ → Type 0
NotBehind a b c a' b' c' = (a < a') ⊎ ((a ≡ a') × ((b < b') ⊎ ((b ≡ b') × (c ≤ c'))))

-- a fault is one that the text has, and is not behind any other that it has, by pass, then point, then number
pub record First (text : List ℕ) (nv ns : ℕ) (f : ProgramFault) : Type 0 where
  pub pass : ℕ
  pub point : ℕ
  pub there : HasFault text nv ns pass point (program_number f) (program_place f)
  pub least : (pass' point' n q : ℕ) → HasFault text nv ns pass' point' n q → NotBehind pass point (program_number f) pass' point' n

-- a text is read exactly if it has no fault, and else the fault told is the first
abbrev pub FirstFault : List ℕ → ℕ → ℕ → Result Extent ProgramFault → Type 0
FirstFault text nv ns (Ok e) = (pass point n q : ℕ) → HasFault text nv ns pass point n q → ⊥
FirstFault text nv ns (Err f) = First text nv ns f
