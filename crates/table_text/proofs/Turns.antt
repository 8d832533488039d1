-- One turn over the words of a table's text.
use Rattle.std.proofs.Common.{◌≡◌, ℕ, zero, suc, ◌-◌, ◌<◌, ◌≤◌, cond, ltb, List, length, Ok, Err, Option, Result, sym, ap, ◌∙◌, arith, le-ltb, lt-ltb}
use Rattle.std.specs.List.{between}
use Rattle.domain.specs.Domain.{Ops}
use Rattle.cells.specs.declared.cell.Cell.{Cell as Entry}
use Rattle.table_text.specs.declared.fault.TableFault.{TableFault}
use Rattle.table_text.specs.declared.gaps.Gap.{Gap}
use Rattle.table_text.specs.declared.progress.Progress.{Progress}
use Rattle.table_text.specs.Gaps.{gap_from, word_end}
use Rattle.table_text.specs.Table.{Outcome, outcome, ended, word_taken, further, taken_behind, taken_from, TookAs, ReadAs}

-- what is left of the text gives the outcome w, in enough turns
pub record Left {S : Type 0} (o : Ops S) (reading : List ℕ → Option S) (text : List ℕ) (g : Gap) (p : Progress) (cs : List (Entry S)) (w : Outcome (Unit {0}) S) : Type 0 where
  pub turns : ℕ
  pub enough : length text - g.end < turns
  pub gives : taken_from o reading turns text g p cs ≡ w

module _ {S : Type 0} {o : Ops S} {reading : List ℕ → Option S} {text : List ℕ} {g : Gap} {p : Progress} {cs : List (Entry S)} {w : Outcome (Unit {0}) S} (l : Left o reading text g p cs w) where
  -- the word behind the gap, and what follows it in so many turns
  abbrev following : ℕ → Outcome (Unit {0}) S
  following k = further o reading (taken_behind o reading text g p cs).answer (taken_behind o reading text g p cs).after (λ q ds. taken_from o reading k text (gap_from text (word_end text g.end)) q ds)

  -- there is a turn to take
  turn : (k : ℕ) × (cond (ltb g.end (length text)) (following k) (outcome (ended p (length text)) cs) ≡ w) × (length text - g.end < suc k)
  turn = one l.turns l.enough l.gives
    where
      one : (n : ℕ) → length text - g.end < n → taken_from o reading n text g p cs ≡ w → (k : ℕ) × (cond (ltb g.end (length text)) (following k) (outcome (ended p (length text)) cs) ≡ w) × (length text - g.end < suc k)
      one zero h e = absurd (omega arith)
      one (suc k) h e = (k, e, h)

  pub text-ended : length text ≤ g.end → outcome (ended p (length text)) cs ≡ w
  text-ended h = sym (ap (λ t. cond t (following turn.0) (outcome (ended p (length text)) cs)) (le-ltb g.end (length text) h)) ∙ turn.1

  -- the word behind the gap ends where its bytes do
  pub behind : (e : ℕ) → e ≡ word_end text g.end → (r : Result Progress TableFault) (after : List (Entry S)) → TookAs (word_taken o reading p g.line g.end (between g.end e text) cs) r after → TookAs (taken_behind o reading text g p cs) r after
  behind e is r after t = record {
    answer = t.answer ∙ ap (λ n. (word_taken o reading p g.line g.end (between g.end n text) cs).answer) is;
    cells = t.cells ∙ ap (λ n. (word_taken o reading p g.line g.end (between g.end n text) cs).after) is;
  }

  module _ (h : g.end < length text) (r : Result Progress TableFault) (after : List (Entry S)) (took : TookAs (taken_behind o reading text g p cs) r after) where
    stepped : further o reading r after (λ q ds. taken_from o reading turn.0 text (gap_from text (word_end text g.end)) q ds) ≡ w
    stepped =
        ap (λ x. further o reading x after (λ q ds. taken_from o reading turn.0 text (gap_from text (word_end text g.end)) q ds)) took.answer
        ∙ ap (λ y. further o reading (taken_behind o reading text g p cs).answer y (λ q ds. taken_from o reading turn.0 text (gap_from text (word_end text g.end)) q ds)) took.cells
        ∙ sym (ap (λ t. cond t (following turn.0) (outcome (ended p (length text)) cs)) (lt-ltb g.end (length text) h))
        ∙ turn.1

    pub refused : (f : TableFault) → r ≡ Err f → outcome (Err f) after ≡ w
    refused f e = sym (ap (λ x. further o reading x after (λ q ds. taken_from o reading turn.0 text (gap_from text (word_end text g.end)) q ds)) e) ∙ stepped

    pub more : (q : Progress) → r ≡ Ok q → (next : Gap) → next ≡ gap_from text (word_end text g.end) → g.end < next.end → next.end ≤ length text → Left o reading text next q after w
    more q e next is on within =
        let far = turn.2 in
        record { turns = turn.0; enough = omega arith; gives = ap (λ n. taken_from o reading turn.0 text n q after) is ∙ sym (ap (λ x. further o reading x after (λ q ds. taken_from o reading turn.0 text (gap_from text (word_end text g.end)) q ds)) e) ∙ stepped }

-- an outcome is an answer and the cells after it
pub read_as : {S : Type 0} {r : Result (Unit {0}) TableFault} {cs : List (Entry S)} {w : Outcome (Unit {0}) S} → outcome r cs ≡ w → ReadAs w r cs
read_as e = record { answer = ap (λ o. o.answer) e; cells = ap (λ o. o.after) e }
