-- The next word keeps the laws that a user would state.
use Rattle.std.proofs.Common.{◌≡◌, ℕ, ◌+◌, ◌<◌, ◌≤◌, false, ltb, List, ◌++◌, length, get_or, drop, None, Ok, Err, Option, Result, sym, ap, ◌∙◌, subst, append-nil}
use Rattle.std.proofs.lemmas.List.Prefix.{front_rest}
use Rattle.std.proofs.lemmas.List.{drop-drop, drop_all, get_or-drop}
use Rattle.std.proofs.lemmas.Bool.{cond_both, ltb-true, ltb-false}
use Rattle.words.specs.declared.word.WordFault.{WordFault}
use Rattle.words.specs.declared.word.WordFault.TheVariants.{Stray, Unclosed, OutsideInt}
use Rattle.words.specs.Bytes.{blank, opens}
use Rattle.words.specs.Words.{Lexeme, number, blanks, outside, word_at, placed, past_blanks, next_at}
use Rattle.words.specs.Laws.{Blanks, Reached, Found, Lawful}
use Rattle.words.proofs.Blanks.{first-left}
use Rattle.words.proofs.Gaps.{Gap, Stops, Past, past}
use Rattle.words.proofs.Longest.{Stands, Here, word-here}

module _ (text : List ℕ) (p : ℕ) where
  module _ {P : List ℕ → Type 0} (q : ℕ) (g : Gap P p (drop p text) q) where
    -- what stands behind the blanks is the text from there on
    behind : g.rest ≡ drop q text
    behind = sym (front_rest (drop p text) g.gap g.rest g.is) ∙ drop-drop (length g.gap) p text ∙ ap (λ n. drop n text) (sym g.at)

    reached : Reached text p q
    reached = record { gap = g.gap; blanks = g.all; joined = g.is ∙ ap (λ l. g.gap ++ l) behind; begins = g.at }

    found : (lexeme : Lexeme) (e : ℕ) → Stands text q lexeme e → Found text p q lexeme e
    found lexeme e s = record {
      gap = g.gap;
      bytes = s.bytes;
      blanks = g.all;
      word = s.word;
      joined = g.is ∙ ap (λ l. g.gap ++ l) (behind ∙ s.is);
      begins = g.at;
      ends = s.ends;
      longest = s.longest;
    }

    only-blanks : length text ≤ q → Blanks (drop p text)
    only-blanks h = subst Blanks (sym (g.is ∙ ap (λ l. g.gap ++ l) (behind ∙ drop_all q text h) ∙ append-nil g.gap)) g.all

  -- the first two bytes of what is left
  at_front : (q : ℕ) → Stops (drop q text) → (blank (get_or text q 0) ≡ false) × (opens (get_or text q 0) (get_or text (q + 1) 0) ≡ false)
  at_front q h =
      let i = sym (first-left text q) in
      (ap blank i ∙ h.0, (λ j. opens (i j) (sym (get_or-drop q text 1 0) j)) ∙ h.1)

  at_word : (q : ℕ) → Gap Stops p (drop p text) q → q < length text → (r : Result (Lexeme × ℕ) WordFault) → Here text q r → Lawful text p (placed q r)
  unfolding Lawful
  at_word q g l (Ok x) h = (found q g x.0 x.1 h.0, h.1)
  at_word q g l (Err (Stray o)) h =
      let f = at_front q (subst Stops (behind q g) g.holds) in
      subst (λ n. Lawful text p (Err (Stray n))) (sym h.0) (reached q g, record { there = l; no_blank = f.0; no_comment = f.1; no_word = h.1 })
  at_word q g l (Err (Unclosed o)) h = absurd h
  at_word q g l (Err (OutsideInt o)) h =
      let s = h.1 in
      subst (λ n. Lawful text p (Err (OutsideInt n))) (sym h.0) (s.0, s.1, found q g (number s.0) s.1 s.2, s.3)

  after : (r : Result ℕ WordFault) → Past p (drop p text) r → Lawful text p (past_blanks text r)
  unfolding Lawful
  after (Ok q) g =
      cond_both (ltb q (length text)) (placed q (word_at text q)) (Ok None) (Lawful text p)
      (λ e. let l = ltb-true q (length text) e in at_word q g l (word_at text q) (word-here text q l))
      (λ e. only-blanks q g (ltb-false q (length text) e))
  after (Err (Stray q)) g = absurd g
  after (Err (Unclosed q)) g =
      let h = g.holds in
      (reached q g, (h.0, sym (behind q g) ∙ h.1, h.2))
  after (Err (OutsideInt q)) g = absurd g

  pub lawful : Lawful text p (next_at text p)
  lawful = after (blanks outside p (drop p text)) (past p (drop p text))

-- the same of an answer that is the next word
pub lawful-answer : (text : List ℕ) (p : ℕ) (r : Result (Option (ℕ × Lexeme × ℕ)) WordFault) → r ≡ next_at text p → Lawful text p r
lawful-answer text p r e = subst (Lawful text p) (sym e) (lawful text p)
