-- Membership and order in lists of any length.
use Rattle.std.specs.Prelude.{◌≡◌, ℕ, zero, suc, ◌≤◌, Bool, true, false, cond, ◌⊎◌, List, [], ◌∷◌, ◌++◌, length, ℤ, pos, ◌+ℤ◌, ◌≤ℤ◌, ◌<ℤ◌, Some, fold, Option, ◌≢◌, int_lt, refl}
use Rattle.std.proofs.Common.{sym, ap, subst, ◌∙◌, inl, inr, ⊎_elim, arith}
use Rattle.std.proofs.lemmas.Int.{ints}
use Rattle.std.proofs.lemmas.Bool.{and_parts, and_from, or_cases, or_left, or_right, false≢true, cond-true}
use Rattle.std.proofs.lemmas.Bool.Decides.{nat_tests}
use Rattle.numbers.specs.Arithmetic.{eq_z}
use Rattle.list.specs.Numbers.{member, all_in, rising, ascending, placed, sorted, counted, if_any, row, pairs, some_with, some_pair}
use Rattle.numbers.proofs.Comparisons.{eq_z-same, eq_z-true, le_test}

-- the two ways to stand in a list
here : (x n : ℤ) (xs : List ℤ) → x ≡ n → member n (x ∷ xs) ≡ true
here x n xs e = or_left _ _ (eq_z-same x n e)

there : (x n : ℤ) (xs : List ℤ) → member n xs ≡ true → member n (x ∷ xs) ≡ true
there x n xs h = or_right _ _ h

where-is : (x n : ℤ) (xs : List ℤ) → member n (x ∷ xs) ≡ true → (x ≡ n) ⊎ (member n xs ≡ true)
where-is x n xs h = ⊎_elim (λ e. inl (eq_z-true x n e)) inr (or_cases _ _ h)

pub member-left : (xs ys : List ℤ) (n : ℤ) → member n xs ≡ true → member n (xs ++ ys) ≡ true
member-left [] ys n h = absurd (false≢true h)
member-left (x ∷ xs) ys n h = ⊎_elim (here x n (xs ++ ys)) (λ k. there x n (xs ++ ys) (member-left xs ys n k)) (where-is x n xs h)

pub member_right : (xs ys : List ℤ) (n : ℤ) → member n ys ≡ true → member n (xs ++ ys) ≡ true
member_right [] ys n h = h
member_right (x ∷ xs) ys n h = there x n (xs ++ ys) (member_right xs ys n h)

pub member-append : (xs ys : List ℤ) (n : ℤ) → member n (xs ++ ys) ≡ true → (member n xs ≡ true) ⊎ (member n ys ≡ true)
member-append [] ys n h = inr h
member-append (x ∷ xs) ys n h = ⊎_elim (λ e. inl (here x n xs e)) (λ k. ⊎_elim (λ j. inl (there x n xs j)) inr (member-append xs ys n k)) (where-is x n (xs ++ ys) h)

pub all-in-member : (xs ys : List ℤ) (n : ℤ) → all_in xs ys ≡ true → member n xs ≡ true → member n ys ≡ true
all-in-member [] ys n h k = absurd (false≢true k)
all-in-member (x ∷ xs) ys n h k = ⊎_elim (λ e. subst (λ z. member z ys ≡ true) e (and_parts _ _ h).0) (all-in-member xs ys n (and_parts _ _ h).1) (where-is x n xs k)

pub all-in-from : (xs ys : List ℤ) → ((n : ℤ) → member n xs ≡ true → member n ys ≡ true) → all_in xs ys ≡ true
all-in-from [] ys f = refl
all-in-from (x ∷ xs) ys f = and_from _ _ (f x (here x x xs refl)) (all-in-from xs ys (λ n h. f n (there x n xs h)))

-- a number put in at its place stands there beside the others, and no other does
abbrev put_by : Bool → Bool → ℤ → ℤ → List ℤ → List ℤ
put_by b d x n xs = cond b (x ∷ placed xs n) (cond d (n ∷ (x ∷ xs)) (x ∷ xs))

pub placed-has : (xs : List ℤ) (n : ℤ) → member n (placed xs n) ≡ true
placed-has [] n = here n n [] refl
placed-has (x ∷ xs) n = by (placed-has xs n) (int_lt x n) (int_lt n x) refl refl
  where
    level : (x n : ℤ) → int_lt x n ≡ false → int_lt n x ≡ false → x ≡ n
    level x n h k = grind (arith, ints, nat_tests)

    by : member n (placed xs n) ≡ true → (b d : Bool) → int_lt x n ≡ b → int_lt n x ≡ d → member n (put_by b d x n xs) ≡ true
    by rest true d e f = there x n (placed xs n) rest
    by rest false true e f = here n n (x ∷ xs) refl
    by rest false false e f = here x n xs (level x n e f)

pub placed-keeps : (xs : List ℤ) (n m : ℤ) → member m xs ≡ true → member m (placed xs n) ≡ true
placed-keeps [] n m h = absurd (false≢true h)
placed-keeps (x ∷ xs) n m h = by (placed-keeps xs n m) (int_lt x n) (int_lt n x)
  where
    by : (member m xs ≡ true → member m (placed xs n) ≡ true) → (b d : Bool) → member m (put_by b d x n xs) ≡ true
    by rest true d = ⊎_elim (here x m (placed xs n)) (λ k. there x m (placed xs n) (rest k)) (where-is x m xs h)
    by rest false true = there n m (x ∷ xs) h
    by rest false false = h

pub placed-only : (xs : List ℤ) (n m : ℤ) → member m (placed xs n) ≡ true → (n ≡ m) ⊎ (member m xs ≡ true)
placed-only [] n m h = where-is n m [] h
placed-only (x ∷ xs) n m h = by (placed-only xs n m) (int_lt x n) (int_lt n x) h
  where
    by : (member m (placed xs n) ≡ true → (n ≡ m) ⊎ (member m xs ≡ true)) → (b d : Bool) → member m (put_by b d x n xs) ≡ true → (n ≡ m) ⊎ (member m (x ∷ xs) ≡ true)
    by rest true d h = ⊎_elim (λ e. inr (here x m xs e)) (λ k. ⊎_elim inl (λ j. inr (there x m xs j)) (rest k)) (where-is x m (placed xs n) h)
    by rest false true h = where-is n m (x ∷ xs) h
    by rest false false h = inr h

-- it leaves the numbers ascending
rising-placed : (xs : List ℤ) (p n : ℤ) → rising p xs ≡ true → int_lt p n ≡ true → rising p (placed xs n) ≡ true
rising-placed [] p n h k = and_from _ _ k refl
rising-placed (x ∷ xs) p n h k = by (rising-placed xs x n (and_parts _ _ h).1) (int_lt x n) (int_lt n x) refl refl
  where
    by : (int_lt x n ≡ true → rising x (placed xs n) ≡ true) → (b d : Bool) → int_lt x n ≡ b → int_lt n x ≡ d → rising p (put_by b d x n xs) ≡ true
    by rest true d e f = and_from _ _ (and_parts _ _ h).0 (rest e)
    by rest false true e f = and_from _ _ k (and_from _ _ f (and_parts _ _ h).1)
    by rest false false e f = h

pub ascending-placed : (xs : List ℤ) (n : ℤ) → ascending xs ≡ true → ascending (placed xs n) ≡ true
ascending-placed [] n h = refl
ascending-placed (x ∷ xs) n h = by (int_lt x n) (int_lt n x) refl refl
  where
    by : (b d : Bool) → int_lt x n ≡ b → int_lt n x ≡ d → ascending (put_by b d x n xs) ≡ true
    by true d e f = rising-placed xs x n h e
    by false true e f = and_from _ _ f h
    by false false e f = h

-- the same of many numbers put in
keeps-many : (xs ns : List ℤ) (m : ℤ) → member m xs ≡ true → member m (fold placed xs ns) ≡ true
keeps-many xs [] m h = h
keeps-many xs (n ∷ ns) m h = keeps-many (placed xs n) ns m (placed-keeps xs n m h)

has-many : (xs ns : List ℤ) (m : ℤ) → member m ns ≡ true → member m (fold placed xs ns) ≡ true
has-many xs [] m h = absurd (false≢true h)
has-many xs (n ∷ ns) m h = ⊎_elim (λ e. keeps-many (placed xs n) ns m (subst (λ z. member z (placed xs n) ≡ true) e (placed-has xs n))) (has-many (placed xs n) ns m) (where-is n m ns h)

only-many : (xs ns : List ℤ) (m : ℤ) → member m (fold placed xs ns) ≡ true → (member m xs ≡ true) ⊎ (member m ns ≡ true)
only-many xs [] m h = inl h
only-many xs (n ∷ ns) m h = ⊎_elim (λ k. ⊎_elim (λ e. inr (here n m ns e)) inl (placed-only xs n m k)) (λ k. inr (there n m ns k)) (only-many (placed xs n) ns m h)

ascending-many : (xs ns : List ℤ) → ascending xs ≡ true → ascending (fold placed xs ns) ≡ true
ascending-many xs [] h = h
ascending-many xs (n ∷ ns) h = ascending-many (placed xs n) ns (ascending-placed xs n h)

pub sorted-has : (ns : List ℤ) (m : ℤ) → member m ns ≡ true → member m (sorted ns) ≡ true
sorted-has ns m h = has-many [] ns m h

pub sorted-only : (ns : List ℤ) (m : ℤ) → member m (sorted ns) ≡ true → member m ns ≡ true
sorted-only ns m h = ⊎_elim (λ k. absurd (false≢true k)) (λ k. k) (only-many [] ns m h)

pub sorted-ascending : (ns : List ℤ) → ascending (sorted ns) ≡ true
sorted-ascending ns = ascending-many [] ns refl

-- numbers that ascend from above p on are above p
rising-above : (xs : List ℤ) (p m : ℤ) → rising p xs ≡ true → member m xs ≡ true → p <ℤ m
rising-above [] p m h k = absurd (false≢true k)
rising-above (x ∷ xs) p m h k = ⊎_elim (λ e. first p x m (and_parts _ _ h).0 e) (λ j. later p x m (and_parts _ _ h).0 (rising-above xs x m (and_parts _ _ h).1 j)) (where-is x m xs k)
  where
    first : (p x m : ℤ) → int_lt p x ≡ true → x ≡ m → p <ℤ m
    first p x m h e = grind (arith, ints, nat_tests)

    later : (p x m : ℤ) → int_lt p x ≡ true → x <ℤ m → p <ℤ m
    later p x m h k = grind (arith, ints, nat_tests)

rising-ascends : (xs : List ℤ) (p : ℤ) → rising p xs ≡ true → ascending xs ≡ true
rising-ascends [] p h = refl
rising-ascends (x ∷ xs) p h = (and_parts _ _ h).1

-- a list that ascends has no more numbers than one that ascends and holds them all
pub no_longer : (xs ys : List ℤ) → ascending xs ≡ true → ascending ys ≡ true → all_in xs ys ≡ true → length xs ≤ length ys
no_longer [] ys h k a = omega arith
no_longer (x ∷ xs) [] h k a = absurd (false≢true a)
no_longer (x ∷ xs) (y ∷ ys) h k a =
    let least : y ≤ℤ x = ⊎_elim (λ e. same y x e) (λ j. under y x (rising-above ys y x k j)) (where-is y x ys (and_parts _ _ a).0) in
    let rest : all_in xs ys ≡ true = all-in-from xs ys (λ m j. ⊎_elim (λ e. absurd (clash x y m least (rising-above xs x m h j) e)) (λ i. i) (where-is y m ys (all-in-member xs (y ∷ ys) m (and_parts _ _ a).1 j))) in
    let shorter = no_longer xs ys (rising-ascends xs x h) (rising-ascends ys y k) rest in
    omega arith
  where
    same : (y x : ℤ) → y ≡ x → y ≤ℤ x
    same y x e = omega (arith, ints)

    under : (y x : ℤ) → y <ℤ x → y ≤ℤ x
    under y x h = omega (arith, ints)

    clash : (x y m : ℤ) → y ≤ℤ x → x <ℤ m → y ≢ m
    clash x y m h k e = omega (arith, ints)

-- what counts up from a holds each number from a to b that is near enough
pub counted_has : (k : ℕ) (a b n : ℤ) → a ≤ℤ n → n ≤ℤ b → n <ℤ (a +ℤ pos k) → member n (counted k a b) ≡ true
counted_has zero a b n h i l = absurd (omega (arith, ints))
counted_has (suc k) a b n h i l =
    subst (λ xs. member n xs ≡ true) (sym (cond-true _ _ _ (le_test a b (omega (arith, ints)))))
    (⊎_elim (λ e. here a n (counted k (a +ℤ pos 1) b) e) (λ g. there a n (counted k (a +ℤ pos 1) b) (counted_has k (a +ℤ pos 1) b n (omega (arith, ints)) i (omega (arith, ints)))) (level a n h))
  where
    level : (a n : ℤ) → a ≤ℤ n → (a ≡ n) ⊎ (a <ℤ n)
    level a n h = by (eq_z a n) refl
      where
        above : (a n : ℤ) → a ≤ℤ n → eq_z a n ≡ false → a <ℤ n
        above a n h e = grind (arith, ints, nat_tests)

        by : (b : Bool) → eq_z a n ≡ b → (a ≡ n) ⊎ (a <ℤ n)
        by true e = inl (eq_z-true a n e)
        by false e = inr (above a n h e)

-- each pair has its result among those of all pairs
row_has : (op : ℤ → ℤ → Option ℤ) (a : ℤ) (ys : List ℤ) (b c : ℤ) → member b ys ≡ true → op a b ≡ Some c → member c (row op a ys) ≡ true
row_has op a [] b c h e = absurd (false≢true h)
row_has op a (y ∷ ys) b c h e =
    ⊎_elim
    (λ s. member-left (if_any (op a y)) (row op a ys) c (subst (λ o. member c (if_any o) ≡ true) (sym (ap (op a) s ∙ e)) (here c c [] refl)))
    (λ k. member_right (if_any (op a y)) (row op a ys) c (row_has op a ys b c k e))
    (where-is y b ys h)

pub pairs-has : (op : ℤ → ℤ → Option ℤ) (xs ys : List ℤ) (a b c : ℤ) → member a xs ≡ true → member b ys ≡ true → op a b ≡ Some c → member c (pairs op xs ys) ≡ true
pairs-has op [] ys a b c h k e = absurd (false≢true h)
pairs-has op (x ∷ xs) ys a b c h k e =
    ⊎_elim
    (λ s. member-left (row op x ys) (pairs op xs ys) c (row_has op x ys b c k (ap (λ z. op z b) s ∙ e)))
    (λ j. member_right (row op x ys) (pairs op xs ys) c (pairs-has op xs ys a b c j k e))
    (where-is x a xs h)

-- each pair that passes a test is found
with-has : (test : ℤ → ℤ → Bool) (a : ℤ) (ys : List ℤ) (b : ℤ) → member b ys ≡ true → test a b ≡ true → some_with test a ys ≡ true
with-has test a [] b h e = absurd (false≢true h)
with-has test a (y ∷ ys) b h e = ⊎_elim (λ s. or_left _ _ (ap (test a) s ∙ e)) (λ k. or_right _ _ (with-has test a ys b k e)) (where-is y b ys h)

pub some-has : (test : ℤ → ℤ → Bool) (xs ys : List ℤ) (a b : ℤ) → member a xs ≡ true → member b ys ≡ true → test a b ≡ true → some_pair test xs ys ≡ true
some-has test [] ys a b h k e = absurd (false≢true h)
some-has test (x ∷ xs) ys a b h k e = ⊎_elim (λ s. or_left _ _ (with-has test x ys b k (ap (λ z. test z b) s ∙ e))) (λ j. or_right _ _ (some-has test xs ys a b j k e)) (where-is x a xs h)
