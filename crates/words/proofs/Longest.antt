-- The word at a place is as long as it can be.
use Rattle.std.proofs.Common.{◌≡◌, ℕ, suc, ◌+◌, ◌-◌, ◌<◌, ◌≤◌, Bool, true, false, eqb, ◌⊎◌, List, [], ◌∷◌, ◌++◌, length, get_or, take, drop, Ok, Err, Result, sym, refl, ap, ◌∙◌, subst, inl, inr, ⊎_elim, one-add, arith}
use Rattle.std.specs.List.{between, prefix_len, AllByRecursion}
use Rattle.std.specs.Char.{is_ascii_digit}
use Rattle.std.proofs.lemmas.List.{drop_more, drop-drop, take-append-drop, length-take-le}
use Rattle.std.proofs.lemmas.List.Sums.{prefix_len-le-length}
use Rattle.std.proofs.lemmas.Bool.{both_ways, cond-true, cond_both, eqb-true, eqb-false}
use Rattle.std.proofs.lemmas.Bool.Decides.{nat_tests}
use Rattle.numbers.specs.Int.{is_int}
use Rattle.numbers.specs.Number.{written}
use Rattle.words.specs.declared.word.Class.{Class}
use Rattle.words.specs.declared.word.Class.TheVariants as k
use Rattle.words.specs.declared.word.Run.{Run}
use Rattle.words.specs.declared.word.Run.TheVariants as r
use Rattle.words.specs.declared.word.WordFault.{WordFault}
use Rattle.words.specs.declared.word.WordFault.TheVariants.{Stray, Unclosed, OutsideInt}
use Rattle.words.specs.Bytes.{begins_name, in_name, goes_on}
use Rattle.words.specs.Words.{Lexeme, name, number, colon, semicolon, assign, class_of, end_at, number_at, word_as, word_at}
use Rattle.words.specs.Laws.{IsDigits, IsNumber, IsWord, NoneLonger, Inside}
use Rattle.words.proofs.Blanks.{first-left, two, stands}

module _ (p : ℕ → Bool) where
  all-leading : (xs : List ℕ) → AllByRecursion (λ c. p c ≡ true) (take (prefix_len p xs) xs)
  all-leading [] = tt
  all-leading (x ∷ xs) = cond_both (p x) (1 + prefix_len p xs) 0 (λ n. AllByRecursion (λ c. p c ≡ true) (take n (x ∷ xs))) (λ e. rw one-add (e, all-leading xs)) (λ e. tt)

  leading-most : (front back : List ℕ) → AllByRecursion (λ c. p c ≡ true) front → length front ≤ prefix_len p (front ++ back)
  leading-most [] back h = omega arith
  leading-most (x ∷ front) back h = cond_both (p x) (1 + prefix_len p (front ++ back)) 0 (λ n. length (x ∷ front) ≤ n) (λ e. omega (arith, leading-most front back h.1)) (λ e. absurd (both_ways (p x) e h.0))

-- how long a word can be whose first byte is of a class, with the bytes behind that
abbrev Most : Class → List ℕ → ℕ → Type 0
Most k.Letter rest n = n ≤ 1 + prefix_len in_name rest
Most k.Digit rest n = n ≤ 1 + prefix_len is_ascii_digit rest
Most k.Minus rest n = (is_ascii_digit (get_or rest 0 0) ≡ true) × (n ≤ 1 + prefix_len is_ascii_digit rest)
Most k.Colon rest n = (n ≤ 1) ⊎ ((get_or rest 0 0 ≡ 61) × (n ≤ 2))
Most k.Semicolon rest n = n ≤ 1
Most k.Other rest n = ⊥

-- the classes of the first bytes
pub of-letter : (b : ℕ) → begins_name b ≡ true → class_of b ≡ k.Letter
of-letter b e = cond-true (begins_name b) _ _ e

pub of-digit : (b : ℕ) → is_ascii_digit b ≡ true → class_of b ≡ k.Digit
of-digit b e = grind (arith, nat_tests)

is-letter : (b : ℕ) → class_of b ≡ k.Letter → begins_name b ≡ true
is-letter b e = grind (arith, nat_tests)

is_digit : (b : ℕ) → class_of b ≡ k.Digit → is_ascii_digit b ≡ true
is_digit b e = grind (arith, nat_tests)

is-minus : (b : ℕ) → class_of b ≡ k.Minus → b ≡ 45
is-minus b e = grind (arith, nat_tests)

is-colon : (b : ℕ) → class_of b ≡ k.Colon → b ≡ 58
is-colon b e = grind (arith, nat_tests)

is-semicolon : (b : ℕ) → class_of b ≡ k.Semicolon → b ≡ 59
is-semicolon b e = grind (arith, nat_tests)

-- the first byte of a front, and what is behind it
parts : (b : ℕ) (rest : List ℕ) (c : ℕ) (front back : List ℕ) → b ∷ rest ≡ c ∷ front ++ back → (c ≡ b) × (rest ≡ front ++ back)
parts b rest c front back e = let f : ◌≡◌ {A = List ℕ} (b ∷ rest) (c ∷ (front ++ back)) = e in (cc, cc)

module _ (b : ℕ) (rest : List ℕ) where
  -- the run of bytes behind the first byte of a front
  run-most : (p : ℕ → Bool) (c : ℕ) (front back : List ℕ) → b ∷ rest ≡ c ∷ front ++ back → AllByRecursion (λ d. p d ≡ true) front → length (c ∷ front) ≤ 1 + prefix_len p rest
  run-most p c front back e h = omega (arith, leading-most p front back h, ap (prefix_len p) (parts b rest c front back e).1)

  digits-first : (digits back : List ℕ) → rest ≡ digits ++ back → IsDigits digits → is_ascii_digit (get_or rest 0 0) ≡ true
  digits-first [] back e h = absurd h
  digits-first (d ∷ digits) back e h = ap (λ l. is_ascii_digit (get_or l 0 0)) e ∙ h.0

  digits-all : (digits : List ℕ) → IsDigits digits → AllByRecursion (λ d. is_ascii_digit d ≡ true) digits
  digits-all [] h = absurd h
  digits-all (d ∷ digits) h = h

  -- a word at the front of these bytes, by its first byte
  fronts : (lexeme : Lexeme) (front back : List ℕ) → b ∷ rest ≡ front ++ back → IsWord lexeme front → Most (class_of b) rest (length front)
  fronts (name w) [] back e h = absurd h.1
  fronts (name w) (c ∷ front) back e h =
      let first : begins_name b ≡ true = ap begins_name (sym (parts b rest c front back e).0) ∙ h.1.0 in
      subst (λ k. Most k rest (length (c ∷ front))) (sym (of-letter b first)) (run-most in_name c front back e h.1.1)
  fronts (number w) front back e h = ⊎_elim (plain front e) negative h.1
    where
      plain : (front : List ℕ) → b ∷ rest ≡ front ++ back → IsDigits front → Most (class_of b) rest (length front)
      plain [] e d = absurd d
      plain (c ∷ front) e d =
          let first : is_ascii_digit b ≡ true = ap is_ascii_digit (sym (parts b rest c front back e).0) ∙ d.0 in
          subst (λ k. Most k rest (length (c ∷ front))) (sym (of-digit b first)) (run-most is_ascii_digit c front back e d.1)

      negative : (digits : List ℕ) × (front ≡ 45 ∷ digits) × IsDigits digits → Most (class_of b) rest (length front)
      negative d =
          let e' : b ∷ rest ≡ 45 ∷ d.0 ++ back = e ∙ ap (λ l. l ++ back) d.1 in
          let i = parts b rest 45 d.0 back e' in
          let m : Most k.Minus rest (length (45 ∷ d.0)) = (digits-first d.0 back i.1 d.2, run-most is_ascii_digit 45 d.0 back e' (digits-all d.0 d.2)) in
          subst (λ c. Most (class_of c) rest (length front)) i.0 (subst (λ l. Most k.Minus rest (length l)) (sym d.1) m)
  fronts colon front back e h =
      let i = parts b rest 58 [] back (e ∙ ap (λ l. l ++ back) h) in
      let m : Most k.Colon rest (length front) = inl (omega (arith, ap length h)) in
      subst (λ c. Most (class_of c) rest (length front)) i.0 m
  fronts semicolon front back e h =
      let i = parts b rest 59 [] back (e ∙ ap (λ l. l ++ back) h) in
      let m : Most k.Semicolon rest (length front) = omega (arith, ap length h) in
      subst (λ c. Most (class_of c) rest (length front)) i.0 m
  fronts assign front back e h =
      let i = parts b rest 58 (61 ∷ []) back (e ∙ ap (λ l. l ++ back) h) in
      let m : Most k.Colon rest (length front) = inr (ap (λ l. get_or l 0 0) i.1, omega (arith, ap length h)) in
      subst (λ c. Most (class_of c) rest (length front)) i.0 m

-- a word has a byte
pub some_byte : (lexeme : Lexeme) (bytes : List ℕ) → IsWord lexeme bytes → 0 < length bytes
some_byte (name w) [] h = absurd h.1
some_byte (name w) (b ∷ bytes) h = omega arith
some_byte (number w) bytes h = ⊎_elim (digits bytes) (λ d. omega (arith, ap length d.1)) h.1
  where
    digits : (bytes : List ℕ) → IsDigits bytes → 0 < length bytes
    digits [] d = absurd d
    digits (b ∷ bytes) d = omega arith
some_byte colon bytes h = omega (arith, ap length h)
some_byte semicolon bytes h = omega (arith, ap length h)
some_byte assign bytes h = omega (arith, ap length h)

-- a word that stands at a place, as long as it can be
pub record Stands (text : List ℕ) (q : ℕ) (lexeme : Lexeme) (e : ℕ) : Type 0 where
  pub bytes : List ℕ
  pub word : IsWord lexeme bytes
  pub is : drop q text ≡ bytes ++ drop e text
  pub ends : e ≡ q + length bytes
  pub longest : NoneLonger (length bytes) (drop q text)

-- no word stands here
abbrev pub NoWord : List ℕ → Type 0
NoWord left = (lexeme : Lexeme) (front back : List ℕ) → left ≡ front ++ back → IsWord lexeme front → ⊥

abbrev pub Here : List ℕ → ℕ → Result (Lexeme × ℕ) WordFault → Type 0
Here text q (Ok x) = Stands text q x.0 x.1 × Inside x.0
Here text q (Err (Stray p)) = (p ≡ q) × NoWord (drop q text)
Here text q (Err (Unclosed p)) = ⊥
Here text q (Err (OutsideInt p)) = (p ≡ q) × ((w : List ℕ) × (e : ℕ) × Stands text q (number w) e × (is_int (written w) ≡ false))

digits_from : (xs : List ℕ) → 0 < length xs → AllByRecursion (λ c. is_ascii_digit c ≡ true) xs → IsDigits xs
digits_from [] l h = absurd (omega arith)
digits_from (x ∷ xs) l h = h

some-digit : (xs : List ℕ) → is_ascii_digit (get_or xs 0 0) ≡ true → 0 < prefix_len is_ascii_digit xs
some-digit [] h = absurd (both_ways false refl h)
some-digit (x ∷ xs) h = cond_both (is_ascii_digit x) (1 + prefix_len is_ascii_digit xs) 0 (λ n. 0 < n) (λ e. omega arith) (λ e. absurd (both_ways (is_ascii_digit x) e h))

module _ (text : List ℕ) (q : ℕ) (h : q < length text) where
  abbrev b : ℕ
  b = get_or text q 0

  abbrev rest : List ℕ
  rest = drop (q + 1) text

  split : drop q text ≡ b ∷ rest
  split = drop_more text q 0 h

  next : get_or rest 0 0 ≡ get_or text (q + 1) 0
  next = first-left text (q + 1)

  most : (c : Class) → class_of b ≡ c → (lexeme : Lexeme) (front back : List ℕ) → drop q text ≡ front ++ back → IsWord lexeme front → Most c rest (length front)
  most c e lexeme front back i w = subst (λ k. Most k rest (length front)) e (fronts b rest lexeme front back (sym split ∙ i) w)

  module _ (run : Run) where
    abbrev n : ℕ
    n = prefix_len (goes_on run) rest

    abbrev word : List ℕ
    word = b ∷ take n rest

    bytes-are : between q (end_at run text q) text ≡ word
    bytes-are = let i : end_at run text q - q ≡ suc n = omega arith in (λ j. take (i j) (split j))

    behind : length (take n rest) ≡ n
    behind = length-take-le n rest (prefix_len-le-length (goes_on run) rest)

    runs : (lexeme : Lexeme) → IsWord lexeme word → NoneLonger (1 + n) (drop q text) → Stands text q lexeme (end_at run text q)
    runs lexeme w m = record {
      bytes = word;
      word = w;
      is = split ∙ ap (λ l. b ∷ l) (sym (take-append-drop n rest) ∙ ap (λ l. take n rest ++ l) (drop-drop n (q + 1) text));
      ends = omega (arith, behind);
      longest = λ x front back i v. omega (arith, behind, m x front back i v);
    }

  number-here : IsNumber (word r.Digits) → NoneLonger (1 + n r.Digits) (drop q text) → Here text q (number_at text q)
  number-here w m =
      let bytes = between q (end_at r.Digits text q) text in
      let s = runs r.Digits (number bytes) (bytes-are r.Digits, w) m in
      cond_both (is_int (written bytes)) (Ok (number bytes, end_at r.Digits text q)) (Err (OutsideInt q)) (Here text q)
      (λ i. (s, i))
      (λ i. (refl, (bytes, end_at r.Digits text q, s, i)))

  here : (c : Class) → class_of b ≡ c → Here text q (word_as c text q)
  here k.Letter c = (runs r.Name (name (between q (end_at r.Name text q) text)) (bytes-are r.Name, (is-letter b c, all-leading in_name rest)) (most k.Letter c), tt)
  here k.Digit c = number-here (inl (is_digit b c, all-leading is_ascii_digit rest)) (most k.Digit c)
  here k.Minus c =
      cond_both (is_ascii_digit (get_or text (q + 1) 0)) (number_at text q) (Err (Stray q)) (Here text q)
      (λ d.
      let some = some-digit rest (ap is_ascii_digit next ∙ d) in
      let digits = digits_from (take (n r.Digits) rest) (omega (arith, behind r.Digits)) (all-leading is_ascii_digit rest) in
      number-here (inr (take (n r.Digits) rest, ap (λ x. x ∷ take (n r.Digits) rest) (is-minus b c), digits)) (λ x front back i v. (most k.Minus c x front back i v).1))
      (λ d. (refl, λ x front back i v. both_ways (is_ascii_digit (get_or text (q + 1) 0)) d (ap is_ascii_digit (sym next) ∙ (most k.Minus c x front back i v).0)))
  here k.Colon c =
      cond_both (eqb (get_or text (q + 1) 0) 61) (Ok (assign, q + 2)) (Ok (colon, q + 1)) (Here text q)
      (λ d.
      let i = eqb-true (get_or text (q + 1) 0) 61 d in
      let l = stands text (q + 1) (omega arith) in (
        record {
          bytes = 58 ∷ 61 ∷ [];
          word = refl;
          is = two text q l ∙ (λ j. is-colon b c j ∷ i j ∷ drop (q + 2) text);
          ends = omega arith;
          longest = λ x front back e v. ⊎_elim (λ m. omega (arith, m)) (λ m. m.1) (most k.Colon c x front back e v);
        },
        tt,
      ))
      (λ d. (
        record {
          bytes = 58 ∷ [];
          word = refl;
          is = split ∙ ap (λ x. x ∷ rest) (is-colon b c);
          ends = omega arith;
          longest = λ x front back e v. ⊎_elim (λ m. m) (λ m. absurd (eqb-false (get_or text (q + 1) 0) 61 d (sym next ∙ m.0))) (most k.Colon c x front back e v);
        },
        tt,
      ))
  here k.Semicolon c = (
    record {
      bytes = 59 ∷ [];
      word = refl;
      is = split ∙ ap (λ x. x ∷ rest) (is-semicolon b c);
      ends = omega arith;
      longest = most k.Semicolon c;
    },
    tt,
  )
  here k.Other c = (refl, most k.Other c)

  -- what stands at the place, and that it is as long as it can be
  pub word-here : Here text q (word_at text q)
  word-here = here (class_of b) refl
