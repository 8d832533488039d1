-- The interval domain's answers are exact, by the numbers at the ends.
use Rattle.std.proofs.Common.{◌≡◌, Bool, true, false, cond, ◌&&◌, ℤ, ◌+ℤ◌, ◌-ℤ◌, ◌*ℤ◌, ◌≤ℤ◌, ◌<ℤ◌, sym, refl, ap, ◌∙◌, subst, ⊎_elim, arith}
use lib.Signed.{lt_z, le_z, ≤ℤ_refl}
use Rattle.std.specs.Int.{int_min, int_max}
use Rattle.std.proofs.lemmas.Int.{ints, clamps}
use Rattle.std.proofs.lemmas.Bool.{and_parts, and_from, or_cases, false≢true, cases_Bool}
use Rattle.std.proofs.lemmas.Bool.Decides.{nat_tests}
use Rattle.numbers.specs.Arithmetic.{eq_z}
use Rattle.numbers.specs.Int.{is_int, lowest, highest}
use Rattle.numbers.proofs.Comparisons.{eq_z-same}
use Rattle.domain.specs.Domain.{holds}
use Rattle.interval.specs.Ends.{ordered, among, inside, leaves, least_to_greatest, results, none}
use Rattle.interval.specs.Exact.{ends_int, Found, Exact, ExactOverflow, ExactFlags}
use Rattle.interval.specs.Interval.{ends, interval_ops}
use Rattle.interval.specs.declared.ends.Ends.{Ends}
use Rattle.interval.specs.declared.Interval.{Interval}
use Rattle.interval.specs.Corners.{results-ordered}
use Rattle.interval.specs.Order.{span-among}

le_of : (a b : ℤ) → le_z a b ≡ true → a ≤ℤ b
le_of a b h = grind (arith, ints, nat_tests)

-- both ends of an interval in order are held
low_held : (x : Interval) → ends_int x ≡ true → ordered (ends x) ≡ true → holds interval_ops x x.low ≡ true
low_held x i o = and_from _ _ (and_parts _ _ i).0 (span-among x.low x.high x.low (≤ℤ_refl _) (le_of _ _ o))

high_held : (x : Interval) → ends_int x ≡ true → ordered (ends x) ≡ true → holds interval_ops x x.high ≡ true
high_held x i o = and_from _ _ (and_parts (is_int x.low) _ i).1 (span-among x.low x.high x.high (le_of _ _ o) (≤ℤ_refl _))

above : (x : Ends) → ordered x ≡ false → lt_z x.high x.low ≡ true
above x h = grind (arith, ints, nat_tests)

within-exact : (x y : Interval) → ends_int x ≡ true → ((n : ℤ) → holds interval_ops x n ≡ true → holds interval_ops y n ≡ true) → interval_ops.within x y ≡ true
within-exact x y i f = ⊎_elim (λ o. both (ends x) (ends y) (and_parts (is_int x.low) _ (f x.low (low_held x i o))).1 (and_parts (is_int x.high) _ (f x.high (high_held x i o))).1) (λ o. neither (ends x) (ends y) (above (ends x) o)) (cases_Bool (ordered (ends x)))
  where
    both : (x y : Ends) → among y x.low ≡ true → among y x.high ≡ true → inside x y ≡ true
    both x y h k = grind (arith, ints, nat_tests)

    neither : (x y : Ends) → lt_z x.high x.low ≡ true → inside x y ≡ true
    neither x y h = grind (arith, ints, nat_tests)

empty-exact : (x : Interval) → ends_int x ≡ true → ((n : ℤ) → holds interval_ops x n ≡ false) → interval_ops.is_empty x ≡ true
empty-exact x i f = ⊎_elim (λ o. absurd (false≢true (sym (f x.low) ∙ low_held x i o))) (above (ends x)) (cases_Bool (ordered (ends x)))

-- of four numbers whose spread leaves INT one does
out : (p q r s : ℤ) → leaves lowest highest (least_to_greatest p q r s) ≡ true → is_int p ≡ true → is_int q ≡ true → is_int r ≡ true → is_int s ≡ false
out p q r s h i j k = ⊎_elim (λ l. absurd (clash (inside-int p i) (inside-int q j) (inside-int r k) (inside-int s l))) (λ l. l) (cases_Bool (is_int s))
  where
    inside-int : (z : ℤ) → is_int z ≡ true → (lowest ≤ℤ z) × (z ≤ℤ highest)
    inside-int z i = (le_of _ _ (and_parts _ _ i).0, le_of _ _ (and_parts (le_z lowest z) _ i).1)

    under : (a b : ℤ) → lt_z a b ≡ true → a <ℤ b
    under a b h = grind (arith, ints, nat_tests)

    clash : (lowest ≤ℤ p) × (p ≤ℤ highest) → (lowest ≤ℤ q) × (q ≤ℤ highest) → (lowest ≤ℤ r) × (r ≤ℤ highest) → (lowest ≤ℤ s) × (s ≤ℤ highest) → ⊥
    clash a b c d =
        ⊎_elim
        (λ e. let low : int_min (int_min p q) (int_min r s) <ℤ lowest = under _ _ e in omega (arith, ints, clamps))
        (λ e. let high : highest <ℤ int_max (int_max p q) (int_max r s) = under _ _ e in omega (arith, ints, clamps))
        (or_cases (lt_z (int_min (int_min p q) (int_min r s)) lowest) _ (and_parts (ordered (least_to_greatest p q r s)) _ h).1)

corner : (x y : Interval) (op : ℤ → ℤ → ℤ) → ends_int x ≡ true → ends_int y ≡ true → ordered (ends x) ≡ true → ordered (ends y) ≡ true → leaves lowest highest (results op (ends x) (ends y)) ≡ true → Found x y (λ a b. is_int (op a b) ≡ false)
corner x y op i j o q h =
    let four = subst (λ e. leaves lowest highest e ≡ true) (results-ordered op (ends x) (ends y) (le_of _ _ o) (le_of _ _ q)) h in
    ⊎_elim (λ p. ⊎_elim (λ r. ⊎_elim (λ s. at x.high y.high (high_held x i o) (high_held y j q) (out (op x.low y.low) (op x.low y.high) (op x.high y.low) (op x.high y.high) four p r s))
    (at x.high y.low (high_held x i o) (low_held y j q)) (cases_Bool (is_int (op x.high y.low))))
    (at x.low y.high (low_held x i o) (high_held y j q)) (cases_Bool (is_int (op x.low y.high))))
    (at x.low y.low (low_held x i o) (low_held y j q)) (cases_Bool (is_int (op x.low y.low)))
  where
    at : (a b : ℤ) → holds interval_ops x a ≡ true → holds interval_ops y b ≡ true → is_int (op a b) ≡ false → Found x y (λ a b. is_int (op a b) ≡ false)
    at a b h k e = record { left = a; right = b; left_held = h; right_held = k; is = e }

overflow-exact : (op : ℤ → ℤ → ℤ) → ExactOverflow (λ x y. leaves lowest highest (results op (ends x) (ends y))) op
overflow-exact op x y i j h = ⊎_elim (λ b. corner x y op i j (and_parts _ _ b).0 (and_parts (ordered (ends x)) _ b).1 h) (λ b. absurd (false≢true (sym (nothing b) ∙ h))) (cases_Bool (ordered (ends x) && ordered (ends y)))
  where
    nothing : (ordered (ends x) && ordered (ends y)) ≡ false → leaves lowest highest (results op (ends x) (ends y)) ≡ false
    nothing b = ap (λ c. leaves lowest highest (cond c (least_to_greatest (op x.low y.low) (op x.low y.high) (op x.high y.low) (op x.high y.high)) none)) b

-- a flag that is on is so of two ordered intervals
both_ordered : (x y : Interval) (b : Bool) → ((ordered (ends x) && ordered (ends y)) && b) ≡ true → (ordered (ends x) ≡ true) × ((ordered (ends y) ≡ true) × (b ≡ true))
both_ordered x y b h =
    let o = and_parts (ordered (ends x) && ordered (ends y)) b h in
    ((and_parts (ordered (ends x)) _ o.0).0, ((and_parts (ordered (ends x)) _ o.0).1, o.1))

pair : (x y : Interval) (fact : ℤ → ℤ → Type 0) (a b : ℤ) → holds interval_ops x a ≡ true → holds interval_ops y b ≡ true → fact a b → Found x y fact
pair x y fact a b h k e = record { left = a; right = b; left_held = h; right_held = k; is = e }

less-exact : ExactFlags interval_ops.less lt_z
less-exact x y i j true h =
    let p = both_ordered x y _ h in
    pair x y (λ a b. lt_z a b ≡ true) x.low y.high (low_held x i p.0) (high_held y j p.1.0) p.1.1
less-exact x y i j false h =
    let p = both_ordered x y _ h in
    pair x y (λ a b. lt_z a b ≡ false) x.high y.low (high_held x i p.0) (low_held y j p.1.0) (turned x.high y.low p.1.1)
  where
    turned : (a b : ℤ) → le_z b a ≡ true → lt_z a b ≡ false
    turned a b h = grind (arith, ints, nat_tests)

-- the greater of two low ends
greater : (x y : Interval) → ends_int x ≡ true → ends_int y ≡ true → ordered (ends x) ≡ true → ordered (ends y) ≡ true → le_z x.low y.high ≡ true → le_z y.low x.high ≡ true → Found x y (λ a b. eq_z a b ≡ true)
greater x y i j o q h k =
    ⊎_elim
    (λ e. pair x y (λ a b. eq_z a b ≡ true) y.low y.low (and_from _ _ (and_parts _ _ j).0 (span-among x.low x.high y.low (le_of _ _ e) (le_of _ _ k))) (low_held y j q) (eq_z-same y.low y.low refl))
    (λ e. pair x y (λ a b. eq_z a b ≡ true) x.low x.low (low_held x i o) (and_from _ _ (and_parts _ _ i).0 (span-among y.low y.high x.low (under x.low y.low e) (le_of _ _ h))) (eq_z-same x.low x.low refl))
    (cases_Bool (le_z x.low y.low))
  where
    under : (a b : ℤ) → le_z a b ≡ false → b ≤ℤ a
    under a b h = grind (arith, ints, nat_tests)

equal-exact : ExactFlags interval_ops.equal eq_z
equal-exact x y i j true h =
    let p = both_ordered x y _ h in
    greater x y i j p.0 p.1.0 (and_parts _ _ p.1.1).0 (and_parts (le_z x.low y.high) _ p.1.1).1
equal-exact x y i j false h =
    let p = both_ordered x y _ h in
    ⊎_elim
    (λ e. pair x y (λ a b. eq_z a b ≡ false) x.low y.high (low_held x i p.0) (high_held y j p.1.0) (apart x.low y.high e))
    (λ e. pair x y (λ a b. eq_z a b ≡ false) x.high y.low (high_held x i p.0) (low_held y j p.1.0) (apart-back x.high y.low e))
    (or_cases (lt_z x.low y.high) (lt_z y.low x.high) p.1.1)
  where
    apart : (a b : ℤ) → lt_z a b ≡ true → eq_z a b ≡ false
    apart a b h = grind (arith, ints, nat_tests)

    apart-back : (a b : ℤ) → lt_z b a ≡ true → eq_z a b ≡ false
    apart-back a b h = grind (arith, ints, nat_tests)

pub exact : Exact
exact = record {
  within = within-exact;
  is_empty = empty-exact;
  add_overflows = overflow-exact ◌+ℤ◌;
  sub_overflows = overflow-exact ◌-ℤ◌;
  mul_overflows = overflow-exact ◌*ℤ◌;
  less = less-exact;
  equal = equal-exact;
}
