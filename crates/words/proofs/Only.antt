-- Only one answer keeps the laws.
use Rattle.std.proofs.Common.{◌≡◌, ℕ, ◌+◌, ◌<◌, true, false, cond, eqb, ltb, List, [], ◌∷◌, ◌++◌, length, get_or, take, drop, Some, None, Ok, Err, Option, Result, sym, refl, ap, ◌∙◌, subst, ⊎_elim, append-nil, arith}
use Rattle.std.specs.Char.{is_ascii_digit}
use Rattle.std.proofs.lemmas.List.{append_assoc, length-append, length-drop, take_at, get_or-drop}
use Rattle.std.proofs.lemmas.Bool.{both_ways, cases_Bool, cond-true, cond-false, and_right, lt-ltb, le-ltb}
use Rattle.std.proofs.lemmas.Bool.Decides.{nat_tests}
use Rattle.numbers.specs.Int.{is_int}
use Rattle.numbers.specs.Number.{written}
use Rattle.words.specs.declared.word.Class.{Class}
use Rattle.words.specs.declared.word.Class.TheVariants as k
use Rattle.words.specs.declared.word.WordFault.{WordFault}
use Rattle.words.specs.declared.word.WordFault.TheVariants.{Stray, Unclosed, OutsideInt}
use Rattle.words.specs.Bytes.{blank, begins_name, opens, closes}
use Rattle.words.specs.Words.{Lexeme, name, number, colon, semicolon, assign, outside, inside, blanks, class_of, word_at, placed, past_blanks, next_at}
use Rattle.words.specs.Laws.{NeverCloses, Blanks, nothing, byte, comment, IsDigits, IsWord, Reached, Found, Inside, Lawful, Only}
use Rattle.words.proofs.Blanks.{first-left}
use Rattle.words.proofs.Gaps.{Stops, closes-is}
use Rattle.words.proofs.Longest.{Stands, NoWord, Here, of-letter, of-digit, word-here}
use Rattle.words.proofs.Places.{at_place, order}

-- the blanks are passed over, one step at a time
past-blank : (p b : ℕ) (left : List ℕ) → blank b ≡ true → blanks outside p (b ∷ left) ≡ blanks outside (p + 1) left
past-blank p b [] e = cond-true (blank b) (Ok (p + 1)) (Ok p) e
past-blank p b (c ∷ left) e = cond-true (blank b) _ _ e

-- bytes that never close do not close at the front either
not-here : (b c : ℕ) (bytes : List ℕ) → NeverCloses (b ∷ c ∷ bytes) → closes b c ≡ false
not-here b c bytes h = ⊎_elim (λ e. let o = closes-is b c e in absurd (h [] bytes (λ i. o.0 i ∷ o.1 i ∷ bytes))) (λ e. e) (cases_Bool (closes b c))

never-tail : (b : ℕ) (bytes : List ℕ) → NeverCloses (b ∷ bytes) → NeverCloses bytes
never-tail b bytes h front back e = h (b ∷ front) back (ap (λ l. b ∷ l) e)

past-comment : (q p : ℕ) (inner left : List ℕ) → NeverCloses inner → blanks (inside q) p (inner ++ 42 ∷ 41 ∷ left) ≡ blanks outside (p + length inner + 2) left
past-comment q p [] left h = let i : p + 2 ≡ p + 0 + 2 = omega arith in ap (λ n. blanks outside n left) i
past-comment q p (b ∷ []) left h =
    let i : p + 1 + 0 + 2 ≡ p + 1 + 2 = omega arith in
    cond-false (closes b 42) _ _ (and_right (eqb b 42) false refl) ∙ past-comment q (p + 1) [] left (never-tail b [] h) ∙ ap (λ n. blanks outside n left) i
past-comment q p (b ∷ c ∷ inner) left h =
    let i : p + 1 + length (c ∷ inner) + 2 ≡ p + length (b ∷ c ∷ inner) + 2 = omega arith in
    cond-false (closes b c) _ _ (not-here b c inner h) ∙ past-comment q (p + 1) (c ∷ inner) left (never-tail b (c ∷ inner) h) ∙ ap (λ n. blanks outside n left) i

never_ends : (q p : ℕ) (inner : List ℕ) → NeverCloses inner → blanks (inside q) p inner ≡ Err (Unclosed q)
never_ends q p [] h = refl
never_ends q p (b ∷ []) h = refl
never_ends q p (b ∷ c ∷ inner) h = cond-false (closes b c) _ _ (not-here b c inner h) ∙ never_ends q (p + 1) (c ∷ inner) (never-tail b (c ∷ inner) h)

past-blanks : {gap : List ℕ} → Blanks gap → (p : ℕ) (left : List ℕ) → blanks outside p (gap ++ left) ≡ blanks outside (p + length gap) left
past-blanks nothing p left = let i : p ≡ p + 0 = omega arith in ap (λ n. blanks outside n left) i
past-blanks (byte {b} {rest} e h) p left =
    let i : p + 1 + length rest ≡ p + length (b ∷ rest) = omega arith in
    past-blank p b (rest ++ left) e ∙ past-blanks h (p + 1) left ∙ ap (λ n. blanks outside n left) i
past-blanks (comment {inner} {rest} n h) p left =
    let i : p + 2 + length inner + 2 + length rest ≡ p + length (40 ∷ 42 ∷ (inner ++ 42 ∷ 41 ∷ rest)) = omega (arith, length-append inner (42 ∷ 41 ∷ rest)) in
    ap (blanks (inside p) (p + 2)) (append_assoc inner (42 ∷ 41 ∷ rest) left) ∙ past-comment p (p + 2) inner (rest ++ left) n ∙ past-blanks h (p + 2 + length inner + 2) left ∙ ap (λ n. blanks outside n left) i

stops-here : (p : ℕ) (left : List ℕ) → Stops left → blanks outside p left ≡ Ok p
stops-here p [] h = refl
stops-here p (b ∷ []) h = cond-false (blank b) _ _ h.0
stops-here p (b ∷ c ∷ left) h = cond-false (blank b) _ _ h.0 ∙ cond-false (opens b c) _ _ h.1

-- a word is no blank and no comment
name-stops : (b c : ℕ) → begins_name b ≡ true → (blank b ≡ false) × (opens b c ≡ false)
name-stops b c e = (grind (arith, nat_tests), grind (arith, nat_tests))

digit-stops : (b c : ℕ) → is_ascii_digit b ≡ true → (blank b ≡ false) × (opens b c ≡ false)
digit-stops b c e = (grind (arith, nat_tests), grind (arith, nat_tests))

word-stops : (lexeme : Lexeme) (bytes left : List ℕ) → IsWord lexeme bytes → Stops (bytes ++ left)
word-stops (name w) [] left h = absurd h.1
word-stops (name w) (b ∷ bytes) left h = name-stops b (get_or (bytes ++ left) 0 0) h.1.0
word-stops (number w) bytes left h = ⊎_elim (plain bytes) (λ d. subst (λ l. Stops (l ++ left)) (sym d.1) (refl, refl)) h.1
  where
    plain : (bytes : List ℕ) → IsDigits bytes → Stops (bytes ++ left)
    plain [] d = absurd d
    plain (b ∷ bytes) d = digit-stops b (get_or (bytes ++ left) 0 0) d.0
word-stops colon bytes left h = subst (λ l. Stops (l ++ left)) (sym h) (refl, refl)
word-stops semicolon bytes left h = subst (λ l. Stops (l ++ left)) (sym h) (refl, refl)
word-stops assign bytes left h = subst (λ l. Stops (l ++ left)) (sym h) (refl, refl)

-- which word some bytes are
abbrev lexed : Class → List ℕ → Lexeme
lexed k.Letter bytes = name bytes
lexed k.Digit bytes = number bytes
lexed k.Minus bytes = number bytes
lexed k.Colon bytes = cond (eqb (get_or bytes 1 0) 61) assign colon
lexed k.Semicolon bytes = semicolon
lexed k.Other bytes = colon

abbrev lexed_by : List ℕ → Lexeme
lexed_by bytes = lexed (class_of (get_or bytes 0 0)) bytes

is-lexed : (lexeme : Lexeme) (bytes : List ℕ) → IsWord lexeme bytes → lexeme ≡ lexed_by bytes
is-lexed (name w) [] h = absurd h.1
is-lexed (name w) (b ∷ bytes) h = ap name h.0 ∙ ap (λ c. lexed c (b ∷ bytes)) (sym (of-letter b h.1.0))
is-lexed (number w) bytes h = ap number h.0 ∙ ⊎_elim (plain bytes) (λ d. subst (λ l. number l ≡ lexed_by l) (sym d.1) refl) h.1
  where
    plain : (bytes : List ℕ) → IsDigits bytes → number bytes ≡ lexed_by bytes
    plain [] d = absurd d
    plain (b ∷ bytes) d = ap (λ c. lexed c (b ∷ bytes)) (sym (of-digit b d.0))
is-lexed colon bytes h = subst (λ l. colon ≡ lexed_by l) (sym h) refl
is-lexed semicolon bytes h = subst (λ l. semicolon ≡ lexed_by l) (sym h) refl
is-lexed assign bytes h = subst (λ l. assign ≡ lexed_by l) (sym h) refl

module _ (text : List ℕ) (q : ℕ) where
  -- two words at one place, each as long as it can be, are one
  same_word : (a b : Lexeme) (d e : ℕ) → Stands text q a d → Stands text q b e → (a ≡ b) × (d ≡ e)
  same_word a b d e s t =
      let up = t.longest a s.bytes (drop d text) s.is s.word in
      let down = s.longest b t.bytes (drop e text) t.is t.word in
      let n : length t.bytes ≡ length s.bytes = omega arith in
      let same : s.bytes ≡ t.bytes =
      sym (take_at s.bytes (drop d text) (length s.bytes) refl) ∙ ap (take (length s.bytes)) (sym s.is ∙ t.is) ∙ take_at t.bytes (drop e text) (length s.bytes) n in
      (is-lexed a s.bytes s.word ∙ ap lexed_by same ∙ sym (is-lexed b t.bytes t.word), omega (arith, s.ends, t.ends))

  no-stands : (a : Lexeme) (d : ℕ) → NoWord (drop q text) → Stands text q a d → ⊥
  no-stands a d none s = none a s.bytes (drop d text) s.is s.word

  one_word : (a : Lexeme) (d : ℕ) → Stands text q a d → Inside a → (r : Result (Lexeme × ℕ) WordFault) → Here text q r → r ≡ Ok (a, d)
  one_word a d s i (Ok x) h = let e = same_word x.0 a x.1 d h.0 s in (λ j. Ok (e.0 j, e.1 j))
  one_word a d s i (Err (Stray o)) h = absurd (no-stands a d h.1 s)
  one_word a d s i (Err (Unclosed o)) h = absurd h
  one_word a d s i (Err (OutsideInt o)) h =
      let t = h.1 in
      absurd (both_ways (is_int (written t.0)) t.3 (subst Inside (same_word a (number t.0) d t.1 s t.2).0 i))

  one_outside : (w : List ℕ) (d : ℕ) → Stands text q (number w) d → is_int (written w) ≡ false → (r : Result (Lexeme × ℕ) WordFault) → Here text q r → r ≡ Err (OutsideInt q)
  one_outside w d s i (Ok x) h = absurd (both_ways (is_int (written w)) i (subst Inside (same_word x.0 (number w) x.1 d h.0 s).0 h.1))
  one_outside w d s i (Err (Stray o)) h = absurd (no-stands (number w) d h.1 s)
  one_outside w d s i (Err (Unclosed o)) h = absurd h
  one_outside w d s i (Err (OutsideInt o)) h = ap (λ n. Err (OutsideInt n)) h.0

  one-stray : NoWord (drop q text) → (r : Result (Lexeme × ℕ) WordFault) → Here text q r → r ≡ Err (Stray q)
  one-stray none (Ok x) h = absurd (no-stands x.0 x.1 none h.0)
  one-stray none (Err (Stray o)) h = ap (λ n. Err (Stray n)) h.0
  one-stray none (Err (Unclosed o)) h = absurd h
  one-stray none (Err (OutsideInt o)) h = absurd (no-stands (number h.1.0) h.1.1 none h.1.2)

module _ (text : List ℕ) (old : ℕ) where
  -- the blanks lead to the place
  leads : (q : ℕ) → Reached text old q → blanks outside old (drop old text) ≡ blanks outside q (drop q text)
  leads q h = ap (blanks outside old) h.joined ∙ past-blanks h.blanks old (drop q text) ∙ ap (λ n. blanks outside n (drop q text)) (sym h.begins)

  module _ (q : ℕ) (w : Lexeme) (e : ℕ) (f : Found text old q w e) where
    word-there : Stands text q w e
    word-there = record { bytes = f.bytes; word = f.word; is = at_place text old q w e f; ends = f.ends; longest = f.longest }

    reached : Reached text old q
    reached = record { gap = f.gap; blanks = f.blanks; joined = f.joined ∙ ap (λ l. f.gap ++ l) (sym (at_place text old q w e f)); begins = f.begins }

    stops : blanks outside old (drop old text) ≡ Ok q
    stops = leads q reached ∙ stops-here q (drop q text) (subst Stops (sym (at_place text old q w e f)) (word-stops w f.bytes (drop e text) f.word))

    there : q < length text
    there = let o = order text old q w e f in omega arith

  -- what comes where the blanks end inside the text
  next-is : (q : ℕ) → blanks outside old (drop old text) ≡ Ok q → q < length text → (r : Result (Lexeme × ℕ) WordFault) → word_at text q ≡ r → next_at text old ≡ placed q r
  next-is q i l r e = ap (past_blanks text) i ∙ cond-true (ltb q (length text)) _ _ (lt-ltb q (length text) l) ∙ ap (placed q) e

  pub only : (answer : Result (Option (ℕ × Lexeme × ℕ)) WordFault) → Lawful text old answer → answer ≡ next_at text old
  unfolding Lawful
  only (Ok None) h =
      let i : blanks outside old (drop old text) ≡ Ok (old + length (drop old text)) = ap (blanks outside old) (sym (append-nil (drop old text))) ∙ past-blanks h old [] in
      sym (ap (past_blanks text) i ∙ cond-false (ltb (old + length (drop old text)) (length text)) _ _ (le-ltb _ (length text) (omega (arith, length-drop old text))))
  only (Ok (Some x)) h =
      let f = h.0 in
      let l = there x.0 x.1 x.2 f in
      sym (next-is x.0 (stops x.0 x.1 x.2 f) l (Ok (x.1, x.2)) (one_word text x.0 x.1 x.2 (word-there x.0 x.1 x.2 f) h.1 (word_at text x.0) (word-here text x.0 l)))
  only (Err (Stray q)) h =
      let n = h.1 in
      let s : Stops (drop q text) = (ap blank (first-left text q) ∙ n.no_blank, (λ i. opens (first-left text q i) (get_or-drop q text 1 0 i)) ∙ n.no_comment) in
      sym (next-is q (leads q h.0 ∙ stops-here q (drop q text) s) n.there (Err (Stray q)) (one-stray text q n.no_word (word_at text q) (word-here text q n.there)))
  only (Err (Unclosed q)) h =
      let c = h.1 in
      sym (ap (past_blanks text) (leads q h.0 ∙ ap (blanks outside q) c.1 ∙ never_ends q (q + 2) c.0 c.2))
  only (Err (OutsideInt q)) h =
      let f = h.2 in
      let l = there q (number h.0) h.1 f in
      sym (next-is q (stops q (number h.0) h.1 f) l (Err (OutsideInt q)) (one_outside text q h.0 h.1 (word-there q (number h.0) h.1 f) h.3 (word_at text q) (word-here text q l)))

-- the same of an answer that is the next word
pub only-answer : (text : List ℕ) (old : ℕ) (answer : Result (Option (ℕ × Lexeme × ℕ)) WordFault) → answer ≡ next_at text old → Only text old answer
unfolding Only
only-answer text old answer e other h = only text old other h ∙ sym e
