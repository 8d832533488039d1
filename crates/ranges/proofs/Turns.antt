-- One turn of taking the words of a text of ranges.
use Rattle.std.proofs.Common.{◌≡◌, ℕ, zero, suc, ◌-◌, ◌<◌, ◌≤◌, true, false, cond, List, length, Some, None, Ok, Err, Result, sym, ap, ◌∙◌, arith}
use Rattle.words.specs.declared.word.WordFault.{WordFault}
use Rattle.words.specs.Words.{Lexeme, next_at}
use Rattle.program.specs.declared.lent.Program.{Program}
use Rattle.program.specs.Model.{Memory, memory, SetAs}
use Rattle.ranges.specs.declared.fault.RangesFault.{RangesFault}
use Rattle.ranges.specs.declared.fault.RangesFault.TheVariants.{Word}
use Rattle.ranges.specs.declared.take.Awaiting.{Awaiting}
use Rattle.ranges.specs.declared.text.Until.{Until}
use Rattle.ranges.specs.Ranges.{Outcome, outcome, word_taken, ends, ended, further, go_on, taken_from}

-- what is left of the text gives the outcome w, in enough turns
pub record Left (until : Until) (text : List ℕ) (p : ℕ) (a : Awaiting) (m : Memory) (w : Outcome (Unit {0})) : Type 0 where
  pub turns : ℕ
  pub enough : length text - p < turns
  pub gives : taken_from turns until text p a m ≡ w

module _ {until : Until} {text : List ℕ} {p : ℕ} {a : Awaiting} {m : Memory} {w : Outcome (Unit {0})} (l : Left until text p a m w) where
  -- there is a turn to take
  turn : (k : ℕ) × (go_on until text a m (next_at text p) (λ q b n. taken_from k until text q b n) ≡ w) × (length text - p < suc k)
  turn = one l.turns l.enough l.gives
    where
      one : (n : ℕ) → length text - p < n → taken_from n until text p a m ≡ w → (k : ℕ) × (go_on until text a m (next_at text p) (λ q b n. taken_from k until text q b n) ≡ w) × (length text - p < suc k)
      one zero h e = absurd (omega arith)
      one (suc k) h e = (k, e, h)

  pub text-ended : next_at text p ≡ Ok None → outcome (ended a (length text)) m ≡ w
  text-ended s = sym (ap (λ r. go_on until text a m r (λ q b n. taken_from turn.0 until text q b n)) s) ∙ turn.1

  pub unfit : (f : WordFault) → next_at text p ≡ Err f → outcome (Err (Word f)) m ≡ w
  unfit f s = sym (ap (λ r. go_on until text a m r (λ q b n. taken_from turn.0 until text q b n)) s) ∙ turn.1

  pub ended-at : (place : ℕ) (word : Lexeme) (q : ℕ) → next_at text p ≡ Ok (Some (place, word, q)) → ends until a word ≡ true → outcome (Ok tt) m ≡ w
  ended-at place word q s e =
      sym (ap (λ t. cond t (outcome (Ok tt) m) (further (word_taken m a place word).answer (word_taken m a place word).after (λ b n. taken_from turn.0 until text q b n))) e)
      ∙ sym (ap (λ r. go_on until text a m r (λ q b n. taken_from turn.0 until text q b n)) s)
      ∙ turn.1

  module _ (place : ℕ) (word : Lexeme) (q : ℕ) (s : next_at text p ≡ Ok (Some (place, word, q))) (on : ends until a word ≡ false) (r : Result Awaiting RangesFault) (after : Memory) (answer : r ≡ (word_taken m a place word).answer) (kept : after ≡ (word_taken m a place word).after) where
    stepped : further r after (λ b n. taken_from turn.0 until text q b n) ≡ w
    stepped =
        ap (λ x. further x after (λ b n. taken_from turn.0 until text q b n)) answer
        ∙ ap (λ y. further (word_taken m a place word).answer y (λ b n. taken_from turn.0 until text q b n)) kept
        ∙ sym (ap (λ t. cond t (outcome (Ok tt) m) (further (word_taken m a place word).answer (word_taken m a place word).after (λ b n. taken_from turn.0 until text q b n))) on)
        ∙ sym (ap (λ r. go_on until text a m r (λ q b n. taken_from turn.0 until text q b n)) s)
        ∙ turn.1

    pub refused : (f : RangesFault) → r ≡ Err f → outcome (Err f) after ≡ w
    refused f e = sym (ap (λ x. further x after (λ b n. taken_from turn.0 until text q b n)) e) ∙ stepped

    pub more : (b : Awaiting) → r ≡ Ok b → p < q → q ≤ length text → Left until text q b after w
    more b e later within =
        let far = turn.2 in
        record { turns = turn.0; enough = omega arith; gives = sym (ap (λ x. further x after (λ b n. taken_from turn.0 until text q b n)) e) ∙ stepped }

-- an outcome is an answer and a memory
pub set-as : {r : Result (Unit {0}) RangesFault} {w : Outcome (Unit {0})} (old new : Program) → outcome r (memory new) ≡ w → new.variables.ghost_name ≡ old.variables.ghost_name → new.statements.ghost_name ≡ old.statements.ghost_name → SetAs w r old new
set-as old new e v s = record { answer = ap (λ o. o.answer) e; memory = ap (λ o. o.after) e; variables = v; statements = s }
