-- A record that takes in a number is the record of the list with that number at its place.
use Rattle.std.specs.Prelude.{◌≡◌, ℕ, suc, ◌+◌, ◌-◌, ◌<◌, ◌≤◌, Bool, true, false, cond, ◌&&◌, List, [], ◌∷◌, ◌++◌, length, take, drop, replicate, ℤ, pos, fold, ◌==◌, int_lt, nat_lt, slice_index_or, refl}
use Rattle.std.proofs.Common.{sym, ap, ◌∙◌, subst, ⊎_elim, one-add, arith}
use Rattle.std.proofs.lemmas.List.{length-append, length-replicate, take_at, length-drop, take-append-le, drop-append-le, append_assoc, replicate_more}
use Rattle.std.proofs.lemmas.List.Edits.{length-insert}
use Rattle.std.proofs.lemmas.List.Sums.{prefix_len-le-length}
use Rattle.std.proofs.lemmas.Int.{ints}
use Rattle.std.proofs.lemmas.Bool.{cond-true, cond-false, and_parts, false≢true, le-leb, lt-leb, le-ltb, eq-eqb, ne_eqb, cases_lt, cases_eq}
use Rattle.std.proofs.lemmas.Bool.Decides.{nat_tests}
use Rattle.numbers.specs.Arithmetic.{eq_z}
use Rattle.list.specs.Insertion.{place, stands_at, shifted_in, put_in}
use Rattle.list.specs.NumberList.{packed}
use Rattle.list.specs.Numbers.{placed}
use Rattle.list.specs.declared.NumberList.{NumberList}
use Rattle.list.specs.declared.NumberList.TheVariants.{Everything, Numbers}

-- one place further on in a longer list
further : (x : ℤ) (xs : List ℤ) (p : ℕ) (n : ℤ) → stands_at (x ∷ xs) (1 + p) n ≡ stands_at xs p n
further x xs p n = ap (λ k. stands_at (x ∷ xs) k n) (one-add p) ∙ ap (λ b. b && eq_z (slice_index_or xs p (pos 0)) n) (below p (length xs))
  where
    below : (p m : ℕ) → nat_lt (suc p) (suc m) ≡ nat_lt p m
    below p m = grind (arith, nat_tests)

-- a number that stands at its place stays there alone
pub placed-standing : (xs : List ℤ) (n : ℤ) → stands_at xs (place xs n) n ≡ true → placed xs n ≡ xs
placed-standing [] n h = absurd (false≢true h)
placed-standing (x ∷ xs) n h = by (placed-standing xs n) (int_lt x n) refl h
  where
    not-below : (x n : ℤ) → eq_z x n ≡ true → int_lt n x ≡ false
    not-below x n h = grind (arith, ints, nat_tests)

    by : (stands_at xs (place xs n) n ≡ true → placed xs n ≡ xs) → (b : Bool) → int_lt x n ≡ b → stands_at (x ∷ xs) (cond b (1 + place xs n) 0) n ≡ true → cond b (x ∷ placed xs n) (cond (int_lt n x) (n ∷ (x ∷ xs)) (x ∷ xs)) ≡ x ∷ xs
    by rest true e h = ap (λ ys. x ∷ ys) (rest (sym (further x xs (place xs n) n) ∙ h))
    by rest false e h = cond-false _ _ _ (not-below x n (and_parts _ _ h).1)

-- any other is put in at its place
pub placed-new : (xs : List ℤ) (n : ℤ) → stands_at xs (place xs n) n ≡ false → placed xs n ≡ take (place xs n) xs ++ (n ∷ drop (place xs n) xs)
placed-new [] n h = refl
placed-new (x ∷ xs) n h = by (placed-new xs n) (int_lt x n) refl h
  where
    first : (m : ℕ) (b : Bool) → (nat_lt 0 (suc m) && b) ≡ false → b ≡ false
    first m b h = grind (arith, nat_tests)

    is_below : (x n : ℤ) → int_lt x n ≡ false → eq_z x n ≡ false → int_lt n x ≡ true
    is_below x n h k = grind (arith, ints, nat_tests)

    by : (stands_at xs (place xs n) n ≡ false → placed xs n ≡ take (place xs n) xs ++ (n ∷ drop (place xs n) xs)) → (b : Bool) → int_lt x n ≡ b → stands_at (x ∷ xs) (cond b (1 + place xs n) 0) n ≡ false → cond b (x ∷ placed xs n) (cond (int_lt n x) (n ∷ (x ∷ xs)) (x ∷ xs)) ≡ take (cond b (1 + place xs n) 0) (x ∷ xs) ++ (n ∷ drop (cond b (1 + place xs n) 0) (x ∷ xs))
    by rest true e h = subst (λ k. x ∷ placed xs n ≡ take k (x ∷ xs) ++ (n ∷ drop k (x ∷ xs))) (sym (one-add (place xs n))) (ap (λ ys. x ∷ ys) (rest (sym (further x xs (place xs n) n) ∙ h)))
    by rest false e h = cond-true _ _ _ (is_below x n e (first (length xs) (eq_z x n) h))

place-le : (xs : List ℤ) (n : ℤ) → place xs n ≤ length xs
place-le xs n = prefix_len-le-length (λ x. int_lt x n) xs

length-new : (xs : List ℤ) (n : ℤ) → stands_at xs (place xs n) n ≡ false → length (placed xs n) ≡ length xs + 1
length-new xs n h = ap length (placed-new xs n h) ∙ length-insert xs (place xs n) n (place-le xs n)

-- no number is lost
pub length-placed : (xs : List ℤ) (n : ℤ) → length xs ≤ length (placed xs n)
length-placed xs n = by (stands_at xs (place xs n) n) refl
  where
    by : (b : Bool) → stands_at xs (place xs n) n ≡ b → length xs ≤ length (placed xs n)
    by true e = omega (arith, ap length (placed-standing xs n e))
    by false e = omega (arith, length-new xs n e)

-- a list that ends in spare zeros takes in a number for one of them
shifted-packed : (xs : List ℤ) (p m : ℕ) (n : ℤ) → p ≤ length xs → shifted_in (xs ++ replicate (m + 1) (pos 0)) p n ≡ (take p xs ++ (n ∷ drop p xs)) ++ replicate m (pos 0)
shifted-packed xs p m n h =
    let spare : List ℤ = replicate (m + 1) (pos 0) in
    let left : length (xs ++ spare) - 1 - p ≡ length (drop p xs ++ replicate m (pos 0)) = omega (arith, length-append xs spare, length-replicate (m + 1) (pos 0), length-append (drop p xs) (replicate m (pos 0)), length-replicate m (pos 0), length-drop p xs) in
    let back : drop p (xs ++ spare) ≡ (drop p xs ++ replicate m (pos 0)) ++ (pos 0 ∷ []) = drop-append-le p xs spare h ∙ ap (λ ys. drop p xs ++ ys) (sym (replicate_more m (pos 0))) ∙ sym (append_assoc (drop p xs) (replicate m (pos 0)) (pos 0 ∷ [])) in
    let kept : take (length (xs ++ spare) - 1 - p) (drop p (xs ++ spare)) ≡ drop p xs ++ replicate m (pos 0) = ap (take (length (xs ++ spare) - 1 - p)) back ∙ take_at (drop p xs ++ replicate m (pos 0)) (pos 0 ∷ []) _ (sym left) in
    ap (λ ys. ys ++ (n ∷ take (length (xs ++ spare) - 1 - p) (drop p (xs ++ spare)))) (take-append-le p xs spare h) ∙ ap (λ ys. take p xs ++ (n ∷ ys)) kept ∙ sym (append_assoc (take p xs) (n ∷ drop p xs) (replicate m (pos 0)))

-- the record of a list that is short enough, and of a longer one
abbrev record_of : List ℤ → NumberList
record_of xs = Numbers (length xs) (xs ++ replicate (8 - length xs) (pos 0))

pub packed-short : (xs : List ℤ) → length xs ≤ 8 → packed xs ≡ record_of xs
packed-short xs h = cond-true _ _ _ (le-leb _ _ h)

pub packed-long : (xs : List ℤ) → 8 < length xs → packed xs ≡ Everything
packed-long xs h = cond-false _ _ _ (lt-leb _ _ h)

-- the numbers of a record that is short enough are those of the list
pub front : (xs : List ℤ) → take (length xs) (xs ++ replicate (8 - length xs) (pos 0)) ≡ xs
front xs = take_at xs _ (length xs) refl

put-short : (xs : List ℤ) (n : ℤ) → length xs ≤ 8 → put_in (record_of xs) n ≡ cond (stands_at xs (place xs n) n) (record_of xs) (cond (length xs == 8) Everything (Numbers (length xs + 1) (shifted_in (xs ++ replicate (8 - length xs) (pos 0)) (place xs n) n)))
put-short xs n h =
    cond-false _ _ _ (le-ltb 8 (length xs) h)
    ∙ ap (λ (ys : List ℤ). cond (stands_at ys (place ys n) n) (record_of xs) (cond (length xs == 8) Everything (Numbers (length xs + 1) (shifted_in (xs ++ replicate (8 - length xs) (pos 0)) (place ys n) n)))) (front xs)

put-standing : (xs : List ℤ) (n : ℤ) → length xs ≤ 8 → stands_at xs (place xs n) n ≡ true → put_in (record_of xs) n ≡ packed (placed xs n)
put-standing xs n h e = put-short xs n h ∙ cond-true _ _ _ e ∙ sym (packed-short xs h) ∙ ap packed (sym (placed-standing xs n e))

put-ninth : (xs : List ℤ) (n : ℤ) → length xs ≡ 8 → stands_at xs (place xs n) n ≡ false → put_in (record_of xs) n ≡ packed (placed xs n)
put-ninth xs n h e = put-short xs n (omega arith) ∙ cond-false _ _ _ e ∙ cond-true _ _ _ (eq-eqb _ _ h) ∙ sym (packed-long (placed xs n) (omega (arith, length-new xs n e)))

put-new : (xs : List ℤ) (n : ℤ) → length xs < 8 → stands_at xs (place xs n) n ≡ false → put_in (record_of xs) n ≡ packed (placed xs n)
put-new xs n h e =
    let ys : List ℤ = take (place xs n) xs ++ (n ∷ drop (place xs n) xs) in
    let long : length (placed xs n) ≡ length xs + 1 = length-new xs n e in
    let room : 8 - length xs ≡ 8 - length (placed xs n) + 1 = omega arith in
    let numbers : shifted_in (xs ++ replicate (8 - length xs) (pos 0)) (place xs n) n ≡ placed xs n ++ replicate (8 - length (placed xs n)) (pos 0) =
    ap (λ (k : ℕ). shifted_in (xs ++ replicate k (pos 0)) (place xs n) n) room ∙ shifted-packed xs (place xs n) (8 - length (placed xs n)) n (place-le xs n) ∙ ap (λ (zs : List ℤ). zs ++ replicate (8 - length (placed xs n)) (pos 0)) (sym (placed-new xs n e)) in
    let same : Numbers (length xs + 1) (shifted_in (xs ++ replicate (8 - length xs) (pos 0)) (place xs n) n) ≡ record_of (placed xs n) = ap (λ (k : ℕ). Numbers k (shifted_in (xs ++ replicate (8 - length xs) (pos 0)) (place xs n) n)) (sym long) ∙ ap (Numbers (length (placed xs n))) numbers in
    put-short xs n (omega arith) ∙ cond-false _ _ _ e ∙ cond-false _ _ _ (ne_eqb (length xs) 8 (omega arith)) ∙ same ∙ sym (packed-short (placed xs n) (omega arith))

-- a record that takes in a number is the record of the list that does
pub put-packed : (xs : List ℤ) (n : ℤ) → put_in (packed xs) n ≡ packed (placed xs n)
put-packed xs n = ⊎_elim short long (cases_lt 8 (length xs))
  where
    by : (b : Bool) → stands_at xs (place xs n) n ≡ b → length xs ≤ 8 → put_in (record_of xs) n ≡ packed (placed xs n)
    by true e h = put-standing xs n h e
    by false e h = ⊎_elim (λ eight. put-ninth xs n eight e) (λ other. put-new xs n (omega arith) e) (cases_eq (length xs) 8)

    long : length xs ≤ 8 → put_in (packed xs) n ≡ packed (placed xs n)
    long h = ap (λ x. put_in x n) (packed-short xs h) ∙ by (stands_at xs (place xs n) n) refl h

    short : 8 < length xs → put_in (packed xs) n ≡ packed (placed xs n)
    short h = ap (λ x. put_in x n) (packed-long xs h) ∙ sym (packed-long (placed xs n) (omega (arith, length-placed xs n)))

-- so are records that take in many
pub put-many : (xs ns : List ℤ) → fold put_in (packed xs) ns ≡ packed (fold placed xs ns)
put-many xs [] = refl
put-many xs (n ∷ ns) = ap (λ x. fold put_in x ns) (put-packed xs n) ∙ put-many (placed xs n) ns
