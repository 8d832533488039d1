-- The blanks at the front of what is left of a text, one step at a time.
use Rattle.std.proofs.Common.{◌≡◌, ℕ, suc, ◌+◌, ◌-◌, ◌<◌, ◌≤◌, true, false, cond, List, [], ◌∷◌, length, get_or, take, drop, Some, None, Ok, Err, Option, Result, sym, refl, ap, ◌∙◌, ⊎_elim, add-zero, arith}
use Rattle.std.proofs.str.Laws.{order}
use Rattle.std.proofs.lemmas.List.{drop_more, drop-drop, length-drop, get_or_past, get_or-drop, take_all}
use Rattle.std.specs.Option.{option_map}
use Rattle.std.proofs.lemmas.List.Quantifiers.{position-Some}
use Rattle.std.proofs.lemmas.Slice.Zip.{length-zip}
use Rattle.std.specs.List.{zip}
use Rattle.std.proofs.lemmas.Bool.{cond_both}
use Rattle.std.proofs.lemmas.Grind.{common_steps}
use Rattle.words.specs.declared.word.WordFault.{WordFault}
use Rattle.words.specs.declared.word.WordFault.TheVariants.{Unclosed}
use Rattle.words.specs.Bytes.{blank, opens, closes}
use Rattle.words.specs.Words.{blanks, outside, inside, closing}

-- the byte at a place is the first of what is left there
pub first-left : (xs : List ℕ) (i : ℕ) → get_or (drop i xs) 0 0 ≡ get_or xs i 0
first-left xs i = get_or-drop i xs 0 0 ∙ ap (λ n. get_or xs n 0) (add-zero i)

pub two : (xs : List ℕ) (i : ℕ) → i + 1 < length xs → drop i xs ≡ get_or xs i 0 ∷ get_or xs (i + 1) 0 ∷ drop (i + 2) xs
two xs i h =
    let e : i + 1 + 1 ≡ i + 2 = omega arith in
    drop_more xs i 0 (omega arith) ∙ ap (λ l. get_or xs i 0 ∷ l) (drop_more xs (i + 1) 0 h ∙ ap (λ k. get_or xs (i + 1) 0 ∷ drop k xs) e)

-- a byte that is not 0 stands inside the text
pub stands : (xs : List ℕ) (i : ℕ) → 0 < get_or xs i 0 → i < length xs
stands xs i h = ⊎_elim (λ l. l) (λ l. absurd (omega (arith, get_or_past xs i 0 l))) (order i (length xs))

-- how the blanks go on after the bytes of a comment, which ends behind so many bytes and the two that close it, or never
abbrev after_comment : ℕ → ℕ → Option ℕ → List ℕ → Result ℕ WordFault
after_comment q p None left = Err (Unclosed q)
after_comment q p (Some n) left = blanks outside (p + n + 2) (drop (n + 2) left)

closing-first : (b c : ℕ) (rest : List ℕ) → closes b c ≡ true → closing (b ∷ c ∷ rest) ≡ Some 0
closing-first b c rest e = grind (arith, common_steps)

closing-next : (b c : ℕ) (rest : List ℕ) → closes b c ≡ false → closing (b ∷ c ∷ rest) ≡ option_map (λ n. n + 1) (closing (c ∷ rest))
closing-next b c rest e = grind (arith, common_steps)

-- one turn of the search for them, k bytes on
moved : (k : ℕ) (o : Option ℕ) → option_map (λ n. n + k) (option_map (λ n. n + 1) o) ≡ option_map (λ n. n + (k + 1)) o
moved k None = refl
moved k (Some n) = ap (λ m. Some m) (omega arith)

pub closing-further : (xs : List ℕ) (k : ℕ) → k + 1 < length xs → closes (get_or xs k 0) (get_or xs (k + 1) 0) ≡ false → option_map (λ n. n + k) (closing (drop k xs)) ≡ option_map (λ n. n + (k + 1)) (closing (drop (k + 1) xs))
closing-further xs k h e =
    let rest : drop (k + 1) xs ≡ get_or xs (k + 1) 0 ∷ drop (k + 2) xs = drop_more xs (k + 1) 0 h ∙ ap (λ j. get_or xs (k + 1) 0 ∷ drop j xs) (omega arith) in
    ap (λ l. option_map (λ n. n + k) (closing l)) (two xs k h)
    ∙ ap (option_map (λ n. n + k)) (closing-next (get_or xs k 0) (get_or xs (k + 1) 0) (drop (k + 2) xs) e)
    ∙ moved k _
    ∙ ap (λ l. option_map (λ n. n + (k + 1)) (closing l)) (sym rest)

pub closing-nowhere : (xs : List ℕ) (k : ℕ) → length xs ≤ k + 1 → closing (drop k xs) ≡ None
closing-nowhere xs k h = short (drop k xs) (omega (arith, length-drop k xs))
  where
    short : (left : List ℕ) → length left ≤ 1 → closing left ≡ None
    short [] l = refl
    short (b ∷ []) l = refl
    short (b ∷ c ∷ rest) l = absurd (omega arith)

after-next : (q p b c : ℕ) (rest : List ℕ) (o : Option ℕ) → after_comment q (p + 1) o (c ∷ rest) ≡ after_comment q p (option_map (λ n. n + 1) o) (b ∷ c ∷ rest)
after-next q p b c rest None = refl
after-next q p b c rest (Some n) =
    let at : p + 1 + n + 2 ≡ p + (n + 1) + 2 = omega arith in
    let over : n + 1 + 2 ≡ suc (n + 2) = omega arith in
    ap (λ k. blanks outside k (drop (n + 2) (c ∷ rest))) at ∙ ap (λ k. blanks outside (p + (n + 1) + 2) (drop k (b ∷ c ∷ rest))) (sym over)

-- how the blanks go on behind the opening bytes of a comment
comment-passed : (q p : ℕ) (left : List ℕ) → blanks (inside q) p left ≡ after_comment q p (closing left) left
comment-passed q p [] = refl
comment-passed q p (b ∷ []) = refl
comment-passed q p (b ∷ c ∷ rest) =
    cond_both (closes b c) (blanks outside (p + 2) rest) (blanks (inside q) (p + 1) (c ∷ rest)) (λ r. r ≡ after_comment q p (closing (b ∷ c ∷ rest)) (b ∷ c ∷ rest))
    (λ e. let at : p + 2 ≡ p + 0 + 2 = omega arith in ap (λ k. blanks outside k rest) at ∙ ap (λ o. after_comment q p o (b ∷ c ∷ rest)) (sym (closing-first b c rest e)))
    (λ e. comment-passed q (p + 1) (c ∷ rest) ∙ after-next q p b c rest (closing (c ∷ rest)) ∙ ap (λ o. after_comment q p o (b ∷ c ∷ rest)) (sym (closing-next b c rest e)))

-- the two bytes that close a comment stand inside it
closing-within : (left : List ℕ) (n : ℕ) → closing left ≡ Some n → n + 2 ≤ length left
closing-within [] n e = let z : ◌≡◌ {A = Option ℕ} None (Some n) = e in cc
closing-within (b ∷ []) n e = let z : ◌≡◌ {A = Option ℕ} None (Some n) = e in cc
closing-within (b ∷ c ∷ rest) n e =
    let i = position-Some (λ p. closes p.0 p.1) (zip (b ∷ c ∷ rest) (c ∷ rest)) n (0, 0) e in
    omega (arith, length-zip (b ∷ c ∷ rest) (c ∷ rest))

-- a blank first, or the two bytes that open a comment
blank-first : (p : ℕ) (left : List ℕ) → 1 ≤ length left → blank (get_or left 0 0) ≡ true → blanks outside p left ≡ blanks outside (p + 1) (drop 1 left)
blank-first p [] h e = absurd (omega arith)
blank-first p (b ∷ []) h e = ap (λ t. cond t (Ok (p + 1)) (Ok p)) e
blank-first p (b ∷ c ∷ rest) h e = ap (λ t. cond t (blanks outside (p + 1) (c ∷ rest)) (cond (opens b c) (blanks (inside p) (p + 2) rest) (Ok p))) e

comment-first : (p : ℕ) (left : List ℕ) → 2 ≤ length left → get_or left 0 0 ≡ 40 → get_or left 1 0 ≡ 42 → blanks outside p left ≡ blanks (inside p) (p + 2) (drop 2 left)
comment-first p [] h e f = absurd (omega arith)
comment-first p (b ∷ []) h e f = absurd (omega arith)
comment-first p (b ∷ c ∷ rest) h e f = ap (λ x. blanks outside p (x ∷ c ∷ rest)) e ∙ ap (λ y. blanks outside p (40 ∷ y ∷ rest)) f

-- the rest of a text from a place on, as the code takes it
abbrev from_on : List ℕ → ℕ → List ℕ
from_on xs i = take (length xs - i) (drop i xs)

rest-is : (xs : List ℕ) (i : ℕ) → from_on xs i ≡ drop i xs
rest-is xs i = take_all (length xs - i) (drop i xs) (omega (arith, length-drop i xs))

module _ (xs : List ℕ) (i : ℕ) where
  pub blank-passed : 1 ≤ length (from_on xs i) → blank (get_or (from_on xs i) 0 0) ≡ true → (i + 1 ≤ length xs) × (blanks outside i (drop i xs) ≡ blanks outside (i + 1) (drop (i + 1) xs))
  blank-passed h e =
      let r = rest-is xs i in (
        omega (arith, ap length r, length-drop i xs),
        ap (blanks outside i) (sym r) ∙ blank-first i (from_on xs i) h e ∙ ap (λ l. blanks outside (i + 1) (drop 1 l)) r ∙ ap (blanks outside (i + 1)) (drop-drop 1 i xs),
      )

  module _ (h : 2 ≤ length (from_on xs i)) (e : get_or (from_on xs i) 0 0 ≡ 40) (f : get_or (from_on xs i) 1 0 ≡ 42) where
    inner : from_on (from_on xs i) 2 ≡ drop (i + 2) xs
    inner = rest-is (from_on xs i) 2 ∙ ap (drop 2) (rest-is xs i) ∙ drop-drop 2 i xs

    opened : blanks outside i (drop i xs) ≡ after_comment i (i + 2) (closing (from_on (from_on xs i) 2)) (drop (i + 2) xs)
    opened =
        let r = rest-is xs i in
        ap (blanks outside i) (sym r) ∙ comment-first i (from_on xs i) h e f ∙ ap (λ l. blanks (inside i) (i + 2) (drop 2 l)) r ∙ ap (blanks (inside i) (i + 2)) (drop-drop 2 i xs)
        ∙ comment-passed i (i + 2) (drop (i + 2) xs) ∙ ap (λ l. after_comment i (i + 2) (closing l) (drop (i + 2) xs)) (sym inner)

    pub never-closed : closing (from_on (from_on xs i) 2) ≡ None → blanks outside i (drop i xs) ≡ Err (Unclosed i)
    never-closed o = opened ∙ ap (λ o. after_comment i (i + 2) o (drop (i + 2) xs)) o

    pub comment-closed : (n : ℕ) → closing (from_on (from_on xs i) 2) ≡ Some n → (i + (n + 4) ≤ length xs) × (blanks outside i (drop i xs) ≡ blanks outside (i + (n + 4)) (drop (i + (n + 4)) xs))
    comment-closed n o =
        let within = closing-within (from_on (from_on xs i) 2) n o in
        let k : i + 2 + n + 2 ≡ i + (n + 4) = omega arith in
        let m : i + 2 + (n + 2) ≡ i + (n + 4) = omega arith in (
          omega (arith, ap length inner, length-drop (i + 2) xs),
          opened ∙ ap (λ o. after_comment i (i + 2) o (drop (i + 2) xs)) o ∙ ap (λ q. blanks outside q (drop (n + 2) (drop (i + 2) xs))) k
              ∙ ap (blanks outside (i + (n + 4))) (drop-drop (n + 2) (i + 2) xs ∙ ap (λ q. drop q xs) m),
        )
