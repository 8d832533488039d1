-- Steps and ends of the loops over a slice: what is left of it gives the answer.
use Rattle.std.specs.Prelude.{◌≡◌, ℕ, zero, suc, ◌+◌, ◌-◌, ◌<◌, ◌≤◌, Bool, true, false, not, ◌&&◌, ◌||◌, List, [], ◌∷◌, ◌++◌, length, drop, ℤ, pos, ◌+ℤ◌, fold, FitsSigned, ◌≢◌, int_le, int_lt, slice_index_or, refl}
use Rattle.std.proofs.Common.{sym, ap, subst, ◌∙◌, ⊎_elim, arith, to_z, of_z}
use Rattle.std.specs.Int.{w16}
use Rattle.std.specs.List.{AllAdjacentBelow, IsAllAdjacentAnswer, IsAnyAnswer, list_any}
use Rattle.std.proofs.lemmas.List.{at_drop_more, drop_more, length-drop}
use Rattle.std.proofs.lemmas.List.Folds.{list_any_at, list_any_none}
use Rattle.std.proofs.lemmas.List.Sums.{fold-append}
use Rattle.std.proofs.lemmas.Int.{ints, to_z-of_z}
use Rattle.std.proofs.lemmas.Bool.{cond-true, cond-false, and_parts, and_from, false≢true, cases_Bool}
use Rattle.std.proofs.lemmas.Bool.Decides.{nat_tests}
use Rattle.list.specs.Numbers.{rising, ascending, counted}

-- a number as the code passes it on
abbrev pub passed : ℤ → ℤ
passed n = to_z w16 (of_z w16 n)

-- numbers with the same bits, or with others
pub same_bits : (x n : ℤ) → FitsSigned w16 x → of_z w16 x ≡ of_z w16 n → x ≡ passed n
same_bits x n f e = sym (to_z-of_z w16 x f) ∙ ap (to_z w16) e

pub other-bits : (x n : ℤ) → FitsSigned w16 n → (of_z w16 x ≢ of_z w16 n) → x ≢ passed n
other-bits x n f ne e = ne (ap (of_z w16) (e ∙ to_z-of_z w16 n f))

-- a test `y <= x` of the code, turned round
pub turned : (x y : ℤ) (b : Bool) → FitsSigned w16 x → FitsSigned w16 y → int_le (passed y) (passed x) ≡ b → int_lt x y ≡ not b
turned x y b f g e = flip x y b (ap (λ z. int_le z x) (sym (to_z-of_z w16 y g)) ∙ ap (int_le (passed y)) (sym (to_z-of_z w16 x f)) ∙ e)
  where
    flip : (x y : ℤ) (b : Bool) → int_le y x ≡ b → int_lt x y ≡ not b
    flip x y true e = grind (arith, ints, nat_tests)
    flip x y false e = grind (arith, ints, nat_tests)

-- a test of a list that is the test of its first number, or that of the rest
pub or_step : (F : List ℤ → Bool) (t : ℤ → Bool) → ((x : ℤ) (xs : List ℤ) → F (x ∷ xs) ≡ (t x || F xs)) → (ns : List ℤ) (i : ℕ) (b : Bool) → i < length ns → t (slice_index_or ns i (pos 0)) ≡ b → F (drop i ns) ≡ F ns → (b || F (drop (i + 1) ns)) ≡ F ns
or_step F t cons ns i b l e inv =
    ap (λ a. a || F (drop (i + 1) ns)) (sym e) ∙ sym (at_drop_more F ns i (pos 0) l ∙ cons _ _) ∙ inv

-- the same with `and`
pub and_step : (F : List ℤ → Bool) (t : ℤ → Bool) → ((x : ℤ) (xs : List ℤ) → F (x ∷ xs) ≡ (t x && F xs)) → (ns : List ℤ) (i : ℕ) (b : Bool) → i < length ns → t (slice_index_or ns i (pos 0)) ≡ b → F (drop i ns) ≡ F ns → (b && F (drop (i + 1) ns)) ≡ F ns
and_step F t cons ns i b l e inv =
    ap (λ a. a && F (drop (i + 1) ns)) (sym e) ∙ sym (at_drop_more F ns i (pos 0) l ∙ cons _ _) ∙ inv

-- what `any` answers is whether the test holds somewhere
pub any_is : (p : ℤ → Bool) (ns : List ℤ) (r : Bool) → IsAnyAnswer (λ x b. p x ≡ b) ns r → r ≡ list_any p ns
any_is p ns true h = sym (list_any_at p ns h.0 (pos 0) h.1 (h.2 (pos 0)))
any_is p ns false h = sym (list_any_none p ns (λ k d l. h k d (omega arith) l))

pub folded-append : {S : Type 0} (f : S → ℤ → S) (s : S) (xs ys : List ℤ) → fold f s (xs ++ ys) ≡ fold f (fold f s xs) ys
folded-append f s [] ys = refl
folded-append f s (x ∷ xs) ys = folded-append f (f s x) xs ys

-- a fold over what each number of the list gives
pub fold_step : {S : Type 0} (f : S → ℤ → S) (F : List ℤ → List ℤ) (part : ℤ → List ℤ) → ((x : ℤ) (xs : List ℤ) → F (x ∷ xs) ≡ part x ++ F xs) → (ns : List ℤ) (i : ℕ) (s t r : S) → i < length ns → t ≡ fold f s (part (slice_index_or ns i (pos 0))) → fold f s (F (drop i ns)) ≡ r → fold f t (F (drop (i + 1) ns)) ≡ r
fold_step f F part cons ns i s t r l e inv =
    ap (λ a. fold f a (F (drop (i + 1) ns))) e ∙ sym (fold-append f s (part _) _) ∙ ap (fold f s) (sym (at_drop_more F ns i (pos 0) l ∙ cons _ _)) ∙ inv

-- in numbers that ascend strictly each is below the next, and only in those
ascending-each : (xs : List ℤ) (k : ℕ) (d : ℤ) → k + 1 < length xs → ascending xs ≡ true → int_lt (slice_index_or xs k d) (slice_index_or xs (k + 1) d) ≡ true
ascending-each [] k d l a = absurd (omega arith)
ascending-each (x ∷ []) k d l a = absurd (omega arith)
ascending-each (x ∷ (y ∷ ys)) zero d l a = (and_parts _ _ a).0
ascending-each (x ∷ (y ∷ ys)) (suc k) d l a =
    let next : suc (k + 1) ≡ suc k + 1 = omega arith in
    subst (λ j. int_lt (slice_index_or (y ∷ ys) k d) (slice_index_or (x ∷ (y ∷ ys)) j d) ≡ true) next (ascending-each (y ∷ ys) k d (omega arith) (and_parts (int_lt x y) _ a).1)

ascending-from : (xs : List ℤ) → AllAdjacentBelow (λ x y. true ≡ int_lt x y) xs (length xs) → ascending xs ≡ true
ascending-from [] h = refl
ascending-from (x ∷ []) h = refl
ascending-from (x ∷ (y ∷ ys)) h = and_from _ _ (sym (h 0 (pos 0) (omega arith))) (ascending-from (y ∷ ys) later)
  where
    later : AllAdjacentBelow (λ x y. true ≡ int_lt x y) (y ∷ ys) (length (y ∷ ys))
    later k d l =
        let next : suc k + 1 ≡ suc (k + 1) = omega arith in
        subst (λ j. true ≡ int_lt (slice_index_or (y ∷ ys) k d) (slice_index_or (x ∷ (y ∷ ys)) j d)) next (h (suc k) d (omega arith))

pub ascending-answer : (xs : List ℤ) (r : Bool) → IsAllAdjacentAnswer (λ x y b. b ≡ int_lt x y) xs r → r ≡ ascending xs
ascending-answer xs true h = sym (ascending-from xs h)
ascending-answer xs false h = ⊎_elim (λ a. absurd (false≢true (h.2 (pos 0) ∙ ascending-each xs h.0 (pos 0) h.1 a))) (λ a. sym a) (cases_Bool (ascending xs))

pub ascending-step : (ns : List ℤ) (i : ℕ) (b : Bool) → 1 ≤ i → i < length ns → int_lt (slice_index_or ns (i - 1) (pos 0)) (slice_index_or ns i (pos 0)) ≡ b → ascending (drop (i - 1) ns) ≡ ascending ns → (b && ascending (drop i ns)) ≡ ascending ns
ascending-step ns i b g l t inv =
    let one : drop (i - 1) ns ≡ slice_index_or ns (i - 1) (pos 0) ∷ drop (i - 1 + 1) ns = drop_more ns (i - 1) (pos 0) (omega arith) in
    let back : i - 1 + 1 ≡ i = omega arith in
    let two : drop i ns ≡ slice_index_or ns i (pos 0) ∷ drop (i + 1) ns = drop_more ns i (pos 0) l in
    let both : drop (i - 1) ns ≡ slice_index_or ns (i - 1) (pos 0) ∷ (slice_index_or ns i (pos 0) ∷ drop (i + 1) ns) = one ∙ ap (λ k. slice_index_or ns (i - 1) (pos 0) ∷ drop k ns) back ∙ ap (λ xs. slice_index_or ns (i - 1) (pos 0) ∷ xs) two in
    let left : ascending (drop (i - 1) ns) ≡ (int_lt (slice_index_or ns (i - 1) (pos 0)) (slice_index_or ns i (pos 0)) && rising (slice_index_or ns i (pos 0)) (drop (i + 1) ns)) = ap ascending both in
    let right : ascending (drop i ns) ≡ rising (slice_index_or ns i (pos 0)) (drop (i + 1) ns) = ap ascending two in
    ap (λ a. b && a) right ∙ ap (λ a. a && rising (slice_index_or ns i (pos 0)) (drop (i + 1) ns)) (sym t) ∙ sym left ∙ inv

-- one number is left, or none
pub ascending-end : (ns : List ℤ) (i : ℕ) → 1 ≤ i → length ns ≤ i → ascending (drop (i - 1) ns) ≡ true
ascending-end ns i g l = short (drop (i - 1) ns) (omega (arith, length-drop (i - 1) ns))
  where
    short : (xs : List ℤ) → length xs ≤ 1 → ascending xs ≡ true
    short [] h = refl
    short (x ∷ []) h = refl
    short (x ∷ (y ∷ xs)) h = absurd (omega arith)

-- no number counts up from above b
pub counted_none : (k : ℕ) (a b : ℤ) → int_lt b a ≡ true → counted k a b ≡ []
counted_none zero a b h = refl
counted_none (suc k) a b h = cond-false _ _ _ (above a b h)
  where
    above : (a b : ℤ) → int_lt b a ≡ true → int_le a b ≡ false
    above a b h = grind (arith, ints, nat_tests)

-- else a does, and what follows it
pub counted-more : (k : ℕ) (a b : ℤ) → (k ≢ 0) → int_lt b a ≡ false → counted k a b ≡ a ∷ counted (k - 1) (a +ℤ pos 1) b
counted-more zero a b nz h = absurd (nz refl)
counted-more (suc k) a b nz h = cond-true _ _ _ (below a b h) ∙ ap (λ m. a ∷ counted m (a +ℤ pos 1) b) (omega arith)
  where
    below : (a b : ℤ) → int_lt b a ≡ false → int_le a b ≡ true
    below a b h = grind (arith, ints, nat_tests)

-- a alone where it is b
pub counted-last : (k : ℕ) (a b : ℤ) → (k ≢ 0) → a ≡ b → counted k a b ≡ a ∷ []
counted-last k a b nz e = counted-more k a b nz (level a b e) ∙ ap (λ xs. a ∷ xs) (counted_none (k - 1) (a +ℤ pos 1) b (next a b e))
  where
    level : (a b : ℤ) → a ≡ b → int_lt b a ≡ false
    level a b e = grind (arith, ints, nat_tests)

    next : (a b : ℤ) → a ≡ b → int_lt b (a +ℤ pos 1) ≡ true
    next a b e = grind (arith, ints, nat_tests)
