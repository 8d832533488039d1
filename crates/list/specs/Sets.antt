-- Records of the list domain as sets: which numbers they contain, and when one is within another.
use Rattle.std.specs.Prelude.{◌≡◌, ◌≤◌, Bool, true, false, cond, ◌||◌, ◌⊎◌, List, [], ◌∷◌, length, take, ℤ, nat_eq, nat_le, refl}
use Rattle.std.proofs.Common.{sym, ap, subst, ◌∙◌, inl, inr, ⊎_elim, arith}
use Rattle.std.proofs.lemmas.List.{length-take, nil_from_length}
use Rattle.std.proofs.lemmas.Bool.{and_parts, and_from, or_cases, or_left, or_right, false≢true, cond-true, cond-false, cond_both, leb-true, le-leb, eqb-true, not-true, not_from_false, cases_Bool, cases_lt}
use Rattle.list.specs.NumberList.{is_everything, listed, packed, smallest, is_empty, is_within, by_sides}
use Rattle.list.specs.Numbers.{member, all_in, ascending, sorted}
use Rattle.list.specs.declared.NumberList.{NumberList}
use Rattle.list.specs.declared.NumberList.TheVariants.{Everything, Numbers}
use Rattle.list.specs.InsertionLemmas.{packed-short, packed-long, front}
use Rattle.list.specs.Members.{all-in-member, all-in-from, sorted-has, sorted-only, sorted-ascending, no_longer}

-- the numbers that a set contains
abbrev pub has : NumberList → ℤ → Bool
has x n = is_everything x || member n (listed x)

-- what a record lists is short, ascends, and is nothing where the record is everything
pub listed-short : (x : NumberList) → length (listed x) ≤ 8
listed-short Everything = omega arith
listed-short (Numbers count numbers) = cond_both _ (take count numbers) [] (λ xs. length xs ≤ 8) (λ e. omega (arith, length-take count numbers, leb-true count 8 (and_parts _ _ e).0)) (λ _. omega arith)

pub listed-ascending : (x : NumberList) → ascending (listed x) ≡ true
listed-ascending Everything = refl
listed-ascending (Numbers count numbers) = cond_both _ (take count numbers) [] (λ xs. ascending xs ≡ true) (λ e. (and_parts (nat_le count 8) _ e).1) (λ _. refl)

-- a list that is short enough and ascends is what its record lists
pub listed-packed : (xs : List ℤ) → ascending xs ≡ true → length xs ≤ 8 → listed (packed xs) ≡ xs
listed-packed xs a h =
    ap listed (packed-short xs h)
    ∙ cond-true _ _ _ (and_from _ _ (le-leb _ _ h) (ap ascending (front xs) ∙ a))
    ∙ front xs

pub not-everything : (xs : List ℤ) → length xs ≤ 8 → is_everything (packed xs) ≡ false
not-everything xs h = ap is_everything (packed-short xs h)

-- a set within another, in two ways
within-cases : (x y : NumberList) → is_within x y ≡ true → (is_everything y ≡ true) ⊎ ((is_everything x ≡ false) × (all_in (listed x) (listed y) ≡ true))
within-cases x y h = ⊎_elim inl (λ k. inr (not-true _ (and_parts _ _ k).0, (and_parts _ _ k).1)) (or_cases _ _ h)

pub within_has : (x y : NumberList) (n : ℤ) → is_within x y ≡ true → has x n ≡ true → has y n ≡ true
within_has x y n h k = ⊎_elim (λ e. or_left _ _ e) (λ w. or_right _ _ (all-in-member (listed x) (listed y) n w.1 (listed-only w.0))) (within-cases x y h)
  where
    listed-only : is_everything x ≡ false → member n (listed x) ≡ true
    listed-only e = ⊎_elim (λ t. absurd (false≢true (sym e ∙ t))) (λ m. m) (or_cases _ _ k)

-- a list is within each set that contains its numbers
pub within-from : (x y : NumberList) → is_everything x ≡ false → ((n : ℤ) → member n (listed x) ≡ true → has y n ≡ true) → is_within x y ≡ true
within-from x y e f = ⊎_elim (λ t. or_left _ _ t) (λ g. or_right _ _ (and_from _ _ (not_from_false _ e) (all-in-from (listed x) (listed y) (λ n m. member-only n g (f n m))))) (cases_Bool (is_everything y))
  where
    member-only : (n : ℤ) → is_everything y ≡ false → has y n ≡ true → member n (listed y) ≡ true
    member-only n g h = ⊎_elim (λ t. absurd (false≢true (sym g ∙ t))) (λ m. m) (or_cases _ _ h)

pub within_refl : (x : NumberList) → is_within x x ≡ true
within_refl x = ⊎_elim (λ t. or_left _ _ t) (λ e. within-from x x e (λ n m. or_right _ _ m)) (cases_Bool (is_everything x))

pub within-everything : (x y : NumberList) → is_everything y ≡ true → is_within x y ≡ true
within-everything x y e = or_left _ _ e

pub within_trans : (x y z : NumberList) → is_within x y ≡ true → is_within y z ≡ true → is_within x z ≡ true
within_trans x y z h k =
    ⊎_elim (λ t. within-everything x z t)
    (λ w. ⊎_elim (λ t. absurd (false≢true (sym w.0 ∙ t))) (λ v. within-from x z v.0 (λ n m. within_has y z n k (or_right _ _ (all-in-member (listed x) (listed y) n v.1 m)))) (within-cases x y h))
    (within-cases y z k)

-- a set that lists no number
pub empty-parts : (x : NumberList) → is_empty x ≡ true → (is_everything x ≡ false) × (listed x ≡ [])
empty-parts x h = (not-true _ (and_parts _ _ h).0, nil_from_length (listed x) (eqb-true _ _ (and_parts _ _ h).1))

pub empty-has : (x : NumberList) (n : ℤ) → is_empty x ≡ true → has x n ≡ false
empty-has x n h = let p = empty-parts x h in ap (λ b. b || member n (listed x)) p.0 ∙ ap (member n) p.1

pub empty-within : (x y : NumberList) → is_within x y ≡ true → is_empty y ≡ true → is_empty x ≡ true
empty-within x y h e =
    let p = empty-parts y e in
    ⊎_elim (λ t. absurd (false≢true (sym p.0 ∙ t)))
    (λ w. and_from _ _ (not_from_false _ w.0) (ap (λ xs. nat_eq (length xs) 0) (nothing-in (listed x) (subst (λ ys. all_in (listed x) ys ≡ true) p.1 w.1))))
    (within-cases x y h)
  where
    nothing-in : (xs : List ℤ) → all_in xs [] ≡ true → xs ≡ []
    nothing-in [] h = refl
    nothing-in (x ∷ xs) h = absurd (false≢true h)

-- the smallest set over some numbers contains them, and is within each set that does
pub smallest-has : (ns : List ℤ) (n : ℤ) → member n ns ≡ true → has (smallest ns) n ≡ true
smallest-has ns n h =
    ⊎_elim (λ long. or_left _ _ (ap is_everything (packed-long (sorted ns) long)))
    (λ short. or_right _ _ (ap (member n) (listed-packed (sorted ns) (sorted-ascending ns) short) ∙ sorted-has ns n h))
    (cases_lt 8 (length (sorted ns)))

pub smallest-least : (ns : List ℤ) (z : NumberList) → ((n : ℤ) → member n ns ≡ true → has z n ≡ true) → is_within (smallest ns) z ≡ true
smallest-least ns z f = ⊎_elim (within-everything (smallest ns) z) listing (cases_Bool (is_everything z))
  where
    member-only : is_everything z ≡ false → (n : ℤ) → member n (sorted ns) ≡ true → member n (listed z) ≡ true
    member-only e n m = ⊎_elim (λ t. absurd (false≢true (sym e ∙ t))) (λ i. i) (or_cases _ _ (f n (sorted-only ns n m)))

    listing : is_everything z ≡ false → is_within (smallest ns) z ≡ true
    listing e =
        let inside = all-in-from (sorted ns) (listed z) (member-only e) in
        let short : length (sorted ns) ≤ 8 = omega (arith, no_longer (sorted ns) (listed z) (sorted-ascending ns) (listed-ascending z) inside, listed-short z) in
        within-from (smallest ns) z (not-everything (sorted ns) short) (λ n m. or_right _ _ (member-only e n (sym (ap (member n) (listed-packed (sorted ns) (sorted-ascending ns) short)) ∙ m)))

-- where each side contains a number, neither is an empty list
pub sides : {A : Type 0} (x y : NumberList) (a b : ℤ) (none all lists : A) → has x a ≡ true → has y b ≡ true → by_sides x y none all lists ≡ cond (is_everything x || is_everything y) all lists
sides x y a b none all lists h k = cond-false _ _ _ (or-none (is_empty x) (is_empty y) (full x a h) (full y b k))
  where
    full : (x : NumberList) (a : ℤ) → has x a ≡ true → is_empty x ≡ false
    full x a h = ⊎_elim (λ e. absurd (false≢true (sym (empty-has x a e) ∙ h))) (λ e. e) (cases_Bool (is_empty x))

    or-none : (p q : Bool) → p ≡ false → q ≡ false → (p || q) ≡ false
    or-none p q e f = ap (λ r. r || q) e ∙ f
