-- What the words of a text come to: a whole draft, or a place where it stops, for a reason that the fault tells.
use Rattle.std.proofs.Common.{◌≡◌, ℕ, zero, suc, ◌+◌, ◌-◌, ◌<◌, ◌≤◌, Bool, true, false, cond, ltb, List, length, IfOk, Some, None, Ok, Err, Option, Result, sym, refl, ap, ◌∙◌, subst, arith, MatchResult}
use Rattle.std.proofs.lemmas.Bool.{le-ltb, lt-ltb, ltb-false, cond-true, cond-false}
use Rattle.words.specs.declared.word.WordFault.{WordFault}
use Rattle.words.specs.declared.word.WordFault.TheVariants.{Stray, Unclosed, OutsideInt}
use Rattle.words.specs.Words.{Lexeme, next_at}
use Rattle.words.proofs.Places.{in_order}
use Rattle.syntax.specs.declared.record.Name.{Name}
use Rattle.syntax.specs.declared.record.Operand.TheVariants.{Variable}
use Rattle.syntax.specs.declared.record.Operation.{Operation}
use Rattle.syntax.specs.declared.record.Operation.TheVariants.{Apply, Store}
use Rattle.syntax.specs.declared.grammar.Step.{Step}
use Rattle.syntax.specs.declared.grammar.Step.TheVariants.{Enter, Declare, Keep, Begin, Label, Complete, Use, Change, Aim}
use Rattle.syntax.specs.Tokens.{token_of}
use Rattle.syntax.specs.Grammar.{followed, may_end}
use Rattle.reading.specs.declared.fault.StatementFault.TheVariants as statement
use Rattle.reading.specs.declared.fault.ProgramFault.{ProgramFault}
use Rattle.reading.specs.declared.fault.ProgramFault.TheVariants as program
use Rattle.reading.specs.Faults.{program_number, program_place}
use Rattle.reading.specs.Names.{variable_name, found}
use Rattle.reading.specs.Statements.{fitting, step_from, step_at}
use Rattle.reading.specs.Drafts.{Draft, room_for_variables, room_for_statements, is_known, declared_in, as_variable, completed_by, applied}
use Rattle.reading.specs.Reading.{onward, go_on, taken_from, taken, blank_draft}
use Rattle.reading.specs.FirstFault.{as_name, Begins, nothing, word, Next, Stops, stray_byte, open_comment, outside_int, outside_misfit, misfit, early_end, variable_again, label_again, no_value, no_storage, no_place_variable, no_place_statement, no_place_label, Makes}
use Rattle.reading.proofs.Turns.{Left, unfit, refused, further}
use Rattle.reading.proofs.Room.{Roomy, StepRoomy, FitRoomy, StatementFits, roomy-followed, roomy-applied}

-- what a word that stands there does
module _ (text : List ℕ) (p : ℕ) (d : Draft) where
  step-at : (q : ℕ) (w : Lexeme) (after : ℕ) (o : Option Step) → next_at text p ≡ Ok (Some (q, w, after)) → followed d.progress.stage (token_of w) ≡ o → step_at text p d.progress.stage ≡ fitting q w after o
  step-at q w after o stands fits = ap (step_from d.progress.stage (length text)) stands ∙ ap (fitting q w after) fits

-- a beginning leaves to the rest of the text what the whole text gives
module _ (text : List ℕ) (nv ns : ℕ) where
  pub begins-left : (p : ℕ) (d : Draft) → Begins text nv ns p d → Left text p d (taken text (blank_draft nv ns))
  begins-left p d nothing = record { turns = length text + 1; enough = omega arith; gives = refl }
  begins-left p d (word {p = p'} {d = d'} q w after step e b stands fits a) =
      let o = in_order text p' q w after stands in
      further (begins-left p' d' b) (as_name q w) step after (step-at text p' d' q w after (Some step) stands fits) e a (omega arith) o.2

-- the answer to a text that stops, for whatever reason, is a fault at that place with a number that is no greater
pub record Answered (n q : ℕ) (w : Result Draft ProgramFault) : Type 0 where
  pub fault : ProgramFault
  pub is : w ≡ Err fault
  pub place : program_place fault ≡ q
  pub number : program_number fault ≤ n

module _ {text : List ℕ} {p : ℕ} {d : Draft} {w : Result Draft ProgramFault} (l : Left text p d w) (n q : ℕ) where
  by_word : (f : WordFault) → next_at text p ≡ Err f → program_place (program.Statement (statement.Word f)) ≡ q → program_number (program.Statement (statement.Word f)) ≤ n → Answered n q w
  by_word f e at le = record { fault = program.Statement (statement.Word f); is = sym (unfit l (statement.Word f) (ap (step_from d.progress.stage (length text)) e)); place = at; number = le }

  module _ (step : Step) (x : Next text p d q step) where
    by-step : (f : ProgramFault) → applied text d (as_name q x.lexeme) step ≡ Err f → program_place f ≡ q → program_number f ≤ n → Answered n q w
    by-step f a at le = record { fault = f; is = sym (refused l (as_name q x.lexeme) step x.after (step-at text p d q x.lexeme x.after (Some step) x.stands x.fits) f a); place = at; number = le }

  -- a name where there is no place is known, or the places are full
  full-or-known : (step : Step) (x : Next text p d q step) (known : Bool) (full : ProgramFault) → program_place full ≡ q → program_number full ≤ n → 7 ≤ n → applied text d (as_name q x.lexeme) step ≡ cond known (Err (program.Redeclared q)) (Err full) → Answered n q w
  full-or-known step x true full at le seven a = by-step step x (program.Redeclared q) a refl seven
  full-or-known step x false full at le seven a = by-step step x full a at le

  pub stops-answered : Stops text p d n q → Answered n q w
  stops-answered (stray_byte e i) = by_word (Stray q) i refl (omega arith)
  stops-answered (open_comment e i) = by_word (Unclosed q) i refl (omega arith)
  stops-answered (outside_int e i) = by_word (OutsideInt q) i refl (omega arith)
  stops-answered (outside_misfit e i none) = by_word (OutsideInt q) i refl (omega arith)
  stops-answered (misfit e x after i none) = record { fault = program.Statement (statement.Misfit q); is = sym (unfit l (statement.Misfit q) (step-at text p d q x after None i none)); place = refl; number = omega arith }
  stops-answered (early_end e at i no_end) =
      record {
        fault = program.Statement (statement.Misfit (length text));
        is = sym (unfit l (statement.Misfit (length text)) (ap (step_from d.progress.stage (length text)) i ∙ ap (λ t. cond t (Ok None) (Err (statement.Misfit (length text)))) no_end));
        place = sym at;
        number = omega arith;
      }
  stops-answered (variable_again e class x known) = by-step (Declare class) x (program.Redeclared q) (cond-true _ _ _ known) refl (omega arith)
  stops-answered (label_again e x known) = by-step Label x (program.Redeclared q) (cond-true _ _ _ known) refl (omega arith)
  stops-answered (no_value e o at x none) = by-step (Use o at) x (program.Statement (statement.NoVariable q)) (ap (λ r. completed_by d (λ i. Apply o (Variable i)) at (as_variable (as_name q x.lexeme) r)) none) refl (omega arith)
  stops-answered (no_storage e o at x none) = by-step (Change o at) x (program.Statement (statement.NoVariable q)) (ap (λ r. completed_by d (λ i. Store o i) at (as_variable (as_name q x.lexeme) r)) none) refl (omega arith)
  stops-answered (no_place_variable e class x full) =
      full-or-known (Declare class) x (is_known text d (as_name q x.lexeme)) (program.VariablesFull q) refl (omega arith) (omega arith) (ap (λ r. cond (is_known text d (as_name q x.lexeme)) (Err (program.Redeclared q)) r) (cond-false _ _ _ (le-ltb d.progress.variables (room_for_variables d) full)))
  stops-answered (no_place_statement e c x full) = by-step (Begin c) x (program.StatementsFull q) (cond-false _ _ _ (le-ltb d.progress.statements (room_for_statements d) full)) refl (omega arith)
  stops-answered (no_place_label e x full) =
      full-or-known Label x (is_known text d (as_name q x.lexeme)) (program.StatementsFull q) refl (omega arith) (omega arith) (ap (λ r. cond (is_known text d (as_name q x.lexeme)) (Err (program.Redeclared q)) r) (cond-false _ _ _ (le-ltb d.progress.statements (room_for_statements d) full)))

-- where a text stops, with the fault that tells why
pub record Stopped (text : List ℕ) (nv ns : ℕ) (f : ProgramFault) : Type 0 where
  pub last : ℕ
  pub draft : Draft
  pub begins : Begins text nv ns last draft
  pub stops : Stops text last draft (program_number f) (program_place f)

abbrev StopsBy : List ℕ → ℕ → Draft → ProgramFault → Type 0
StopsBy text p d f = Stops text p d (program_number f) (program_place f)

no_answer : {X : Type 0} (e : Draft) (f : ProgramFault) → ◌≡◌ {A = Result Draft ProgramFault} (Ok e) (Err f) → X
no_answer e f i = absurd (let z : ◌≡◌ {A = ℕ} 0 1 = cc in omega arith)

same-fault : (f g : ProgramFault) → ◌≡◌ {A = Result Draft ProgramFault} (Err f) (Err g) → f ≡ g
same-fault f g i = cc

-- where there is a place, there is no refusal
has-place : (a b : ℕ) (next : Draft) (f g : ProgramFault) {X : Type 0} → a < b → cond (ltb a b) (Ok next) (Err f) ≡ Err g → X
has-place a b next f g h i = no_answer next g (sym (cond-true (ltb a b) (Ok next) (Err f) (lt-ltb a b h)) ∙ i)

-- a word that fits and is refused is refused for a reason
module _ (text : List ℕ) (p : ℕ) (d : Draft) where
  refused-by : (f g : ProgramFault) → ◌≡◌ {A = Result Draft ProgramFault} (Err f) (Err g) → StopsBy text p d f → StopsBy text p d g
  refused-by f g i s = subst (StopsBy text p d) (same-fault f g i) s

  lacks-place : (b : Bool) (next : Draft) (f g : ProgramFault) → (b ≡ false → StopsBy text p d f) → cond b (Ok next) (Err f) ≡ Err g → StopsBy text p d g
  lacks-place true next f g s i = no_answer next g i
  lacks-place false next f g s i = refused-by f g i (s refl)

  known-or : (b : Bool) (f g : ProgramFault) (r : Result Draft ProgramFault) → (b ≡ true → StopsBy text p d f) → (r ≡ Err g → StopsBy text p d g) → cond b (Err f) r ≡ Err g → StopsBy text p d g
  known-or true f g r s more i = refused-by f g i (s refl)
  known-or false f g r s more i = more i

  unknown-variable : (make : ℕ → Operation) (at : ℕ) (name : Name) (o : Option ℕ) (g : ProgramFault) → StatementFits d → (o ≡ None → StopsBy text p d (program.Statement (statement.NoVariable name.place))) → completed_by d make at (as_variable name o) ≡ Err g → StopsBy text p d g
  unknown-variable make at name None g h s i = refused-by _ g i (s refl)
  unknown-variable make at name (Some k) g h s i = has-place d.progress.statements (room_for_statements d) _ _ g h i

  pub refused-stops : (q : ℕ) (step : Step) (x : Next text p d q step) (g : ProgramFault) → StepRoomy d step → applied text d (as_name q x.lexeme) step ≡ Err g → StopsBy text p d g
  refused-stops q (Enter stage) x g r i = no_answer _ g i
  refused-stops q (Declare class) x g r i =
      known-or (is_known text d (as_name q x.lexeme)) (program.Redeclared q) g _ (λ known. variable_again refl class x known)
      (lacks-place (ltb d.progress.variables (room_for_variables d)) _ (program.VariablesFull q) g (λ full. no_place_variable refl class x (ltb-false d.progress.variables (room_for_variables d) full))) i
  refused-stops q (Keep y) x g r i = has-place d.progress.variables (room_for_variables d) _ _ g r i
  refused-stops q (Begin c) x g r i = lacks-place (ltb d.progress.statements (room_for_statements d)) _ (program.StatementsFull q) g (λ full. no_place_statement refl c x (ltb-false d.progress.statements (room_for_statements d) full)) i
  refused-stops q Label x g r i =
      known-or (is_known text d (as_name q x.lexeme)) (program.Redeclared q) g _ (λ known. label_again refl x known)
      (lacks-place (ltb d.progress.statements (room_for_statements d)) _ (program.StatementsFull q) g (λ full. no_place_label refl x (ltb-false d.progress.statements (room_for_statements d) full))) i
  refused-stops q (Complete o k at) x g r i = has-place d.progress.statements (room_for_statements d) _ _ g r i
  refused-stops q (Use o at) x g r i = unknown-variable (λ k. Apply o (Variable k)) at (as_name q x.lexeme) (found variable_name text (as_name q x.lexeme) 0 (declared_in d)) g r (λ none. no_value refl o at x none) i
  refused-stops q (Change o at) x g r i = unknown-variable (λ k. Store o k) at (as_name q x.lexeme) (found variable_name text (as_name q x.lexeme) 0 (declared_in d)) g r (λ none. no_storage refl o at x none) i
  refused-stops q (Aim j at) x g r i = has-place d.progress.statements (room_for_statements d) _ _ g r i

-- taking the words of a text comes to a whole draft, or to a place where it stops
module _ (text : List ℕ) (nv ns : ℕ) where
  abbrev Comes : Result Draft ProgramFault → Type 0
  Comes r = MatchResult r (Makes text nv ns) (Stopped text nv ns)

  module _ (p : ℕ) (d : Draft) (b : Begins text nv ns p d) (room : Roomy d d.progress.stage) (k : ℕ) (enough : length text - p < suc k) (more : (q : ℕ) (e : Draft) → Begins text nv ns q e → Roomy e e.progress.stage → length text - q < k → Comes (taken_from k text q e)) where
    abbrev next : ℕ → Draft → Result Draft ProgramFault
    next q e = taken_from k text q e

    stops-here : (f : ProgramFault) → StopsBy text p d f → Stopped text nv ns f
    stops-here f s = record { last = p; draft = d; begins = b; stops = s }

    comes-step : (q : ℕ) (w : Lexeme) (after : ℕ) (step : Step) → next_at text p ≡ Ok (Some (q, w, after)) → followed d.progress.stage (token_of w) ≡ Some step → Comes (onward (applied text d (as_name q w) step) (next after))
    comes-step q w after step stands fits = by (applied text d (as_name q w) step) refl (roomy-applied text d (as_name q w) step fit)
      where
        fit : StepRoomy d step
        fit = subst (FitRoomy d) fits (roomy-followed d d.progress.stage room (token_of w))

        by : (r : Result Draft ProgramFault) → applied text d (as_name q w) step ≡ r → IfOk r (λ e. Roomy e e.progress.stage) → Comes (onward r (next after))
        by (Ok e) a r = let o = in_order text p q w after stands in more after e (word q w after step e b stands fits a) r (omega arith)
        by (Err f) a r = stops-here f (refused-stops text p d q step (record { lexeme = w; after = after; stands = stands; fits = fits }) f fit a)

    comes-word : (q : ℕ) (w : Lexeme) (after : ℕ) → next_at text p ≡ Ok (Some (q, w, after)) → Comes (go_on text d (fitting q w after (followed d.progress.stage (token_of w))) next)
    comes-word q w after stands = by (followed d.progress.stage (token_of w)) refl
      where
        by : (o : Option Step) → followed d.progress.stage (token_of w) ≡ o → Comes (go_on text d (fitting q w after o) next)
        by None none = stops-here (program.Statement (statement.Misfit q)) (misfit refl w after stands none)
        by (Some step) fits = comes-step q w after step stands fits

    comes-end : next_at text p ≡ Ok None → Comes (go_on text d (cond (may_end d.progress.stage) (Ok None) (Err (statement.Misfit (length text)))) next)
    comes-end none = by (may_end d.progress.stage) refl
      where
        by : (t : Bool) → may_end d.progress.stage ≡ t → Comes (go_on text d (cond t (Ok None) (Err (statement.Misfit (length text)))) next)
        by true e = record { last = p; begins = b; no_more = none; ends = e }
        by false e = stops-here (program.Statement (statement.Misfit (length text))) (early_end refl refl none e)

    comes-next : Comes (go_on text d (step_at text p d.progress.stage) next)
    comes-next = by (next_at text p) refl
      where
        by : (r : Result (Option (ℕ × Lexeme × ℕ)) WordFault) → next_at text p ≡ r → Comes (go_on text d (step_from d.progress.stage (length text) r) next)
        by (Ok None) i = comes-end i
        by (Ok (Some x)) i = comes-word x.0 x.1 x.2 i
        by (Err (Stray q)) i = stops-here (program.Statement (statement.Word (Stray q))) (stray_byte refl i)
        by (Err (Unclosed q)) i = stops-here (program.Statement (statement.Word (Unclosed q))) (open_comment refl i)
        by (Err (OutsideInt q)) i = stops-here (program.Statement (statement.Word (OutsideInt q))) (outside_int refl i)

  pub comes-from : (k p : ℕ) (d : Draft) → Begins text nv ns p d → Roomy d d.progress.stage → length text - p < k → Comes (taken_from k text p d)
  comes-from zero p d b r h = absurd (omega arith)
  comes-from (suc k) p d b r h = comes-next p d b r k h (comes-from k)

  pub words-come : Comes (taken text (blank_draft nv ns))
  words-come = comes-from (length text + 1) 0 (blank_draft nv ns) nothing tt (omega arith)
