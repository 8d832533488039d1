-- The blanks at the front of a text are blanks as a user would say it.
use Rattle.std.proofs.Common.{◌≡◌, ℕ, ◌+◌, ◌≤◌, true, false, cond, eqb, ◌⊎◌, List, [], ◌∷◌, ◌++◌, length, get_or, Ok, Err, Result, sym, refl, ap, ◌∙◌, subst, inl, inr, arith}
use Rattle.std.proofs.lemmas.List.{length-append, append_assoc}
use Rattle.std.proofs.lemmas.Bool.{eqb-true, and_parts, and_right, both_ways, cond_both}
use Rattle.words.specs.declared.word.WordFault.{WordFault}
use Rattle.words.specs.declared.word.WordFault.TheVariants.{Stray, Unclosed, OutsideInt}
use Rattle.words.specs.Bytes.{blank, opens, closes}
use Rattle.words.specs.Words.{blanks, Where, outside, inside}
use Rattle.words.specs.Laws.{NeverCloses, Blanks, nothing, byte, comment}

-- blanks, and behind them something of which P holds
pub record Gap (P : List ℕ → Type 0) (p : ℕ) (left : List ℕ) (q : ℕ) : Type 0 where
  pub gap : List ℕ
  pub rest : List ℕ
  pub is : left ≡ gap ++ rest
  pub all : Blanks gap
  pub at : q ≡ p + length gap
  pub holds : P rest

-- the rest of a comment, and blanks behind it
record Closed (P : List ℕ → Type 0) (p : ℕ) (left : List ℕ) (q : ℕ) : Type 0 where
  pub inner : List ℕ
  pub rest : List ℕ
  pub is : left ≡ inner ++ 42 ∷ 41 ∷ rest
  pub open' : NeverCloses inner
  pub on : Gap P (p + length inner + 2) rest q

-- neither a blank nor a comment begins here
abbrev pub Stops : List ℕ → Type 0
Stops left = (blank (get_or left 0 0) ≡ false) × (opens (get_or left 0 0) (get_or left 1 0) ≡ false)

abbrev pub Opened : List ℕ → Type 0
Opened left = (inner : List ℕ) × (left ≡ 40 ∷ 42 ∷ inner) × NeverCloses inner

abbrev pub Past : ℕ → List ℕ → Result ℕ WordFault → Type 0
Past p left (Ok q) = Gap Stops p left q
Past p left (Err (Stray q)) = ⊥
Past p left (Err (Unclosed q)) = Gap Opened p left q
Past p left (Err (OutsideInt q)) = ⊥

abbrev Within : ℕ → ℕ → List ℕ → Result ℕ WordFault → Type 0
Within q p left (Ok r) = Closed Stops p left r
Within q p left (Err (Stray r)) = ⊥
Within q p left (Err (Unclosed r)) = (NeverCloses left × (r ≡ q)) ⊎ Closed Opened p left r
Within q p left (Err (OutsideInt r)) = ⊥

abbrev Law : Where → ℕ → List ℕ → Result ℕ WordFault → Type 0
Law outside p left r = Past p left r
Law (inside q) p left r = Within q p left r

-- too short to close
short : (bytes : List ℕ) → length bytes ≤ 1 → NeverCloses bytes
short bytes h front back e = omega (arith, ap length e, length-append front (42 ∷ 41 ∷ back))

no_gap : (P : List ℕ → Type 0) (p : ℕ) (left : List ℕ) → P left → Gap P p left p
no_gap P p left h = record { gap = []; rest = left; is = refl; all = nothing; at = omega arith; holds = h }

gap-byte : (P : List ℕ → Type 0) (p b : ℕ) (left : List ℕ) (q : ℕ) → blank b ≡ true → Gap P (p + 1) left q → Gap P p (b ∷ left) q
gap-byte P p b left q e g = record { gap = b ∷ g.gap; rest = g.rest; is = ap (λ l. b ∷ l) g.is; all = byte e g.all; at = omega arith; holds = g.holds }

past-byte : (p b : ℕ) (left : List ℕ) (r : Result ℕ WordFault) → blank b ≡ true → Past (p + 1) left r → Past p (b ∷ left) r
past-byte p b left (Ok q) e h = gap-byte Stops p b left q e h
past-byte p b left (Err (Stray q)) e h = h
past-byte p b left (Err (Unclosed q)) e h = gap-byte Opened p b left q e h
past-byte p b left (Err (OutsideInt q)) e h = h

-- the two bytes that open and close
opens-is : (b c : ℕ) → opens b c ≡ true → (b ≡ 40) × (c ≡ 42)
opens-is b c e = let h = and_parts (eqb b 40) (eqb c 42) e in (eqb-true b 40 h.0, eqb-true c 42 h.1)

pub closes-is : (b c : ℕ) → closes b c ≡ true → (b ≡ 42) × (c ≡ 41)
closes-is b c e = let h = and_parts (eqb b 42) (eqb c 41) e in (eqb-true b 42 h.0, eqb-true c 41 h.1)

opened : (b c : ℕ) (left : List ℕ) → opens b c ≡ true → ◌≡◌ {A = List ℕ} (b ∷ c ∷ left) (40 ∷ 42 ∷ left)
opened b c left e = let o = opens-is b c e in ap (λ x. x ∷ c ∷ left) o.0 ∙ ap (λ x. 40 ∷ x ∷ left) o.1

gap-comment : (P : List ℕ → Type 0) (p b c : ℕ) (left : List ℕ) (q : ℕ) → opens b c ≡ true → Closed P (p + 2) left q → Gap P p (b ∷ c ∷ left) q
gap-comment P p b c left q e h =
    let g = h.on in
    let i = h.is ∙ ap (λ l. h.inner ++ 42 ∷ 41 ∷ l) g.is ∙ sym (append_assoc h.inner (42 ∷ 41 ∷ g.gap) g.rest) in
    record {
      gap = 40 ∷ 42 ∷ (h.inner ++ 42 ∷ 41 ∷ g.gap);
      rest = g.rest;
      is = opened b c left e ∙ ap (λ l. 40 ∷ 42 ∷ l) i;
      all = comment h.open' g.all;
      at = omega (arith, length-append h.inner (42 ∷ 41 ∷ g.gap));
      holds = g.holds;
    }

past-comment : (p b c : ℕ) (left : List ℕ) (r : Result ℕ WordFault) → opens b c ≡ true → Within p (p + 2) left r → Past p (b ∷ c ∷ left) r
past-comment p b c left (Ok q) e h = gap-comment Stops p b c left q e h
past-comment p b c left (Err (Stray q)) e h = h
past-comment p b c left (Err (Unclosed q)) e (inl h) = subst (λ n. Gap Opened p (b ∷ c ∷ left) n) (sym h.1) (no_gap Opened p (b ∷ c ∷ left) (left, opened b c left e, h.0))
past-comment p b c left (Err (Unclosed q)) e (inr h) = gap-comment Opened p b c left q e h
past-comment p b c left (Err (OutsideInt q)) e h = h

closed-here : (P : List ℕ → Type 0) (p b c : ℕ) (left : List ℕ) (q : ℕ) → closes b c ≡ true → Gap P (p + 2) left q → Closed P p (b ∷ c ∷ left) q
closed-here P p b c left q e g =
    let o = closes-is b c e in
    let k : p + 2 ≡ p + 0 + 2 = omega arith in
    record { inner = []; rest = left; is = ap (λ x. x ∷ c ∷ left) o.0 ∙ ap (λ x. 42 ∷ x ∷ left) o.1; open' = short [] (omega arith); on = subst (λ n. Gap P n left q) k g }

within-closed : (q p b c : ℕ) (left : List ℕ) (r : Result ℕ WordFault) → closes b c ≡ true → Past (p + 2) left r → Within q p (b ∷ c ∷ left) r
within-closed q p b c left (Ok r) e h = closed-here Stops p b c left r e h
within-closed q p b c left (Err (Stray r)) e h = h
within-closed q p b c left (Err (Unclosed r)) e h = inr (closed-here Opened p b c left r e h)
within-closed q p b c left (Err (OutsideInt r)) e h = h

-- one byte more does not close, where the byte behind it does not
never-more : (b c : ℕ) (bytes : List ℕ) → closes b c ≡ false → NeverCloses bytes → ((d : ℕ) (l : List ℕ) → bytes ≡ d ∷ l → d ≡ c) → NeverCloses (b ∷ bytes)
never-more b c bytes e h first [] back is =
    let f : b ≡ 42 = cc in
    let g : bytes ≡ 41 ∷ back = cc in
    both_ways (closes b c) e ((λ i. closes (f i) (sym (first 41 back g) i)))
never-more b c bytes e h first (x ∷ front) back is = let g : bytes ≡ front ++ 42 ∷ 41 ∷ back = cc in h front back g

closed-later : (P : List ℕ → Type 0) (p b c : ℕ) (left : List ℕ) (q : ℕ) → closes b c ≡ false → Closed P (p + 1) (c ∷ left) q → Closed P p (b ∷ c ∷ left) q
closed-later P p b c left q e h =
    let k : p + 1 + length h.inner + 2 ≡ p + length (b ∷ h.inner) + 2 = omega arith in
    record { inner = b ∷ h.inner; rest = h.rest; is = ap (λ l. b ∷ l) h.is; open' = never-more b c h.inner e h.open' (λ d l i. let j : ◌≡◌ {A = List ℕ} (c ∷ left) (d ∷ (l ++ 42 ∷ 41 ∷ h.rest)) = h.is ∙ ap (λ m. m ++ 42 ∷ 41 ∷ h.rest) i in cc); on = subst (λ n. Gap P n h.rest q) k h.on }

within_on : (q p b c : ℕ) (left : List ℕ) (r : Result ℕ WordFault) → closes b c ≡ false → Within q (p + 1) (c ∷ left) r → Within q p (b ∷ c ∷ left) r
within_on q p b c left (Ok r) e h = closed-later Stops p b c left r e h
within_on q p b c left (Err (Stray r)) e h = h
within_on q p b c left (Err (Unclosed r)) e (inl h) = inl (never-more b c (c ∷ left) e h.0 (λ d l i. cc), h.1)
within_on q p b c left (Err (Unclosed r)) e (inr h) = inr (closed-later Opened p b c left r e h)
within_on q p b c left (Err (OutsideInt r)) e h = h

law : (m : Where) (p : ℕ) (left : List ℕ) → Law m p left (blanks m p left)
law outside p [] = no_gap Stops p [] (refl, refl)
law outside p (b ∷ []) = cond_both (blank b) (Ok (p + 1)) (Ok p) (Past p (b ∷ [])) (λ e. past-byte p b [] (Ok (p + 1)) e (no_gap Stops (p + 1) [] (refl, refl))) (λ e. no_gap Stops p (b ∷ []) (e, and_right (eqb b 40) false refl))
law outside p (b ∷ c ∷ rest) =
    cond_both (blank b) (blanks outside (p + 1) (c ∷ rest)) (cond (opens b c) (blanks (inside p) (p + 2) rest) (Ok p)) (Past p (b ∷ c ∷ rest))
    (λ e. past-byte p b (c ∷ rest) (blanks outside (p + 1) (c ∷ rest)) e (law outside (p + 1) (c ∷ rest)))
    (λ e. cond_both (opens b c) (blanks (inside p) (p + 2) rest) (Ok p) (Past p (b ∷ c ∷ rest)) (λ o. past-comment p b c rest (blanks (inside p) (p + 2) rest) o (law (inside p) (p + 2) rest)) (λ o. no_gap Stops p (b ∷ c ∷ rest) (e, o)))
law (inside q) p [] = inl (short [] (omega arith), refl)
law (inside q) p (b ∷ []) = inl (short (b ∷ []) (omega arith), refl)
law (inside q) p (b ∷ c ∷ rest) =
    cond_both (closes b c) (blanks outside (p + 2) rest) (blanks (inside q) (p + 1) (c ∷ rest)) (Within q p (b ∷ c ∷ rest))
    (λ e. within-closed q p b c rest (blanks outside (p + 2) rest) e (law outside (p + 2) rest))
    (λ e. within_on q p b c rest (blanks (inside q) (p + 1) (c ∷ rest)) e (law (inside q) (p + 1) (c ∷ rest)))

-- what the blanks at the front of a text are, and what stands behind them
pub past : (p : ℕ) (left : List ℕ) → Past p left (blanks outside p left)
past p left = law outside p left
