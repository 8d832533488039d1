-- Results of two numbers lie between the results of the ends, over any ends: one fact for sums, differences, products and quotients.
use Rattle.std.specs.Prelude.{◌≡◌, ℕ, zero, suc, ◌*◌, ◌/◌, ◌<◌, ◌≤◌, true, ℤ, pos, negsuc, ◌+ℤ◌, ◌-ℤ◌, ◌*ℤ◌, neg_ℤ, ◌≤ℤ◌, ◌<ℤ◌, ◌≢◌, int_div, refl}
use Rattle.std.proofs.Common.{sym, subst, mul-le-mul_right, mul-le-mul_left, le-div_iff_mul-le, div-mul-le_self, arith}
use Rattle.std.proofs.Math.Nat.{div-zero}
use Rattle.std.proofs.Math.IntN.{neg_ℤ-neg_ℤ, *ℤ_comm, *ℤ-negsuc}
use Rattle.std.specs.Int.Signed.{≤ℤ_refl}
use Rattle.std.specs.Int.{int_min, int_max}
use Rattle.std.proofs.lemmas.Int.{ints, clamps, by_lt_z}
use Rattle.std.proofs.lemmas.Bool.Decides.{nat_tests}
use Rattle.interval.specs.Ends.{among, least_to_greatest, results, negative, positive, quotients, hull}
use Rattle.interval.specs.declared.ends.Ends.{Ends}
use Rattle.interval.specs.Corners.{results-ordered}
use Rattle.interval.specs.Order.{among-ordered, span-among, inside-among, hull-left, hull-right}

-- z lies between p and q, whichever is the smaller
pub record Between (p q z : ℤ) : Type 0 where
  pub least : int_min p q ≤ℤ z
  pub most : z ≤ℤ int_max p q

rising : (p q z : ℤ) → p ≤ℤ z → z ≤ℤ q → Between p q z
rising p q z h k = record { least = omega (arith, ints, clamps); most = omega (arith, ints, clamps) }

falling : (p q z : ℤ) → q ≤ℤ z → z ≤ℤ p → Between p q z
falling p q z h k = record { least = omega (arith, ints, clamps); most = omega (arith, ints, clamps) }

-- between the ends of one side, and those between the ends of the other
four : (p q r s u v z : ℤ) → Between p q u → Between r s v → Between u v z → among (least_to_greatest p q r s) z ≡ true
four p q r s u v z f g h =
    let low : int_min (int_min p q) (int_min r s) ≤ℤ z = omega (arith, ints, clamps) in
    let high : z ≤ℤ int_max (int_max p q) (int_max r s) = omega (arith, ints, clamps) in
    span-among _ _ z low high

-- an operation whose results lie between those at the ends, on either side
pub record Edged (op : ℤ → ℤ → ℤ) (x y : Ends) : Type 0 where
  pub left : (a b : ℤ) → among x a ≡ true → among y b ≡ true → Between (op x.low b) (op x.high b) (op a b)
  pub right : (a b : ℤ) → among x a ≡ true → among y b ≡ true → Between (op a y.low) (op a y.high) (op a b)

pub results-among : (op : ℤ → ℤ → ℤ) (x y : Ends) → Edged op x y → (a b : ℤ) → among x a ≡ true → among y b ≡ true → among (results op x y) (op a b) ≡ true
results-among op x y e a b h k =
    let o = among-ordered x a h in
    let q = among-ordered y b k in
    let low : among x x.low ≡ true = span-among _ _ _ (≤ℤ_refl _) o in
    let high : among x x.high ≡ true = span-among _ _ _ o (≤ℤ_refl _) in
    subst (λ f. among f (op a b) ≡ true) (sym (results-ordered op x y o q))
    (four _ _ _ _ _ _ _ (e.right _ b low k) (e.right _ b high k) (e.left a b h k))

among-low : (x : Ends) (a : ℤ) → among x a ≡ true → x.low ≤ℤ a
among-low x a h = grind (arith, ints, nat_tests)

among-high : (x : Ends) (a : ℤ) → among x a ≡ true → a ≤ℤ x.high
among-high x a h = grind (arith, ints, nat_tests)

pub sums-edged : (x y : Ends) → Edged ◌+ℤ◌ x y
sums-edged x y = record {
  left = λ a b h k. let l = among-low x a h in let u = among-high x a h in rising (x.low +ℤ b) (x.high +ℤ b) (a +ℤ b) (omega (arith, ints)) (omega (arith, ints));
  right = λ a b h k. let l = among-low y b k in let u = among-high y b k in rising (a +ℤ y.low) (a +ℤ y.high) (a +ℤ b) (omega (arith, ints)) (omega (arith, ints));
}

pub differences-edged : (x y : Ends) → Edged ◌-ℤ◌ x y
differences-edged x y = record {
  left = λ a b h k. let l = among-low x a h in let u = among-high x a h in rising (x.low -ℤ b) (x.high -ℤ b) (a -ℤ b) (omega (arith, ints)) (omega (arith, ints));
  right = λ a b h k. let l = among-low y b k in let u = among-high y b k in falling (a -ℤ y.low) (a -ℤ y.high) (a -ℤ b) (omega (arith, ints)) (omega (arith, ints));
}

neg-down : (a b : ℤ) → a ≤ℤ b → neg_ℤ b ≤ℤ neg_ℤ a
neg-down a b h = omega (arith, ints)

between-neg : (p q z : ℤ) → Between p q z → Between (neg_ℤ p) (neg_ℤ q) (neg_ℤ z)
between-neg p q z h = record { least = omega (arith, ints, clamps); most = omega (arith, ints, clamps) }

between-swap : (p q z : ℤ) → Between p q z → Between q p z
between-swap p q z h = record { least = omega (arith, ints, clamps); most = omega (arith, ints, clamps) }

-- products with a factor that is not negative rise
times-up : (a c : ℤ) (n : ℕ) → a ≤ℤ c → (a *ℤ pos n) ≤ℤ (c *ℤ pos n)
times-up (pos a) (pos c) n h = let m : a * n ≤ c * n = mul-le-mul_right n (omega (arith, ints)) in omega (arith, ints)
times-up (negsuc a) (pos c) n h = omega (arith, ints)
times-up (negsuc a) (negsuc c) n h = let m : suc c * n ≤ suc a * n = mul-le-mul_right n (omega (arith, ints)) in omega (arith, ints)
times-up (pos a) (negsuc c) n h = absurd (omega (arith, ints))

times_down : (a c : ℤ) (n : ℕ) → a ≤ℤ c → (c *ℤ negsuc n) ≤ℤ (a *ℤ negsuc n)
times_down a c n h = subst (λ z. z ≤ℤ (a *ℤ negsuc n)) (sym (*ℤ-negsuc c n)) (subst (λ z. neg_ℤ (c *ℤ pos (suc n)) ≤ℤ z) (sym (*ℤ-negsuc a n)) (neg-down _ _ (times-up a c (suc n) h)))

times-between : (l u a b : ℤ) → l ≤ℤ a → a ≤ℤ u → Between (l *ℤ b) (u *ℤ b) (a *ℤ b)
times-between l u a (pos n) h k = rising _ _ _ (times-up l a n h) (times-up a u n k)
times-between l u a (negsuc n) h k = falling _ _ _ (times_down a u n k) (times_down l a n h)

pub products-edged : (x y : Ends) → Edged ◌*ℤ◌ x y
products-edged x y = record {
  left = λ a b h k. times-between x.low x.high a b (among-low x a h) (among-high x a h);
  right = λ a b h k. simp (*ℤ_comm a) (times-between y.low y.high b a (among-low y b k) (among-high y b k));
}

-- a larger dividend has no smaller quotient, a larger divisor no larger one
dividend-up : (m n k : ℕ) → m ≤ n → m / k ≤ n / k
dividend-up m n zero h = omega (arith, div-zero m, div-zero n)
dividend-up m n (suc k) h = (le-div_iff_mul-le {k = suc k} (omega arith)).1 (omega (arith, div-mul-le_self m (suc k)))

divisor-up : (m j k : ℕ) → 0 < j → j ≤ k → m / k ≤ m / j
divisor-up m j k p h = (le-div_iff_mul-le p).1 (omega (arith, mul-le-mul_left (m / k) h, div-mul-le_self m k))

quot-neg : (a : ℤ) (n : ℕ) → int_div a (negsuc n) ≡ neg_ℤ (int_div a (pos (suc n)))
quot-neg (pos a) n = refl
quot-neg (negsuc a) n = sym (neg_ℤ-neg_ℤ (pos (suc a / suc n)))

quot-up : (a c : ℤ) (n : ℕ) → a ≤ℤ c → int_div a (pos n) ≤ℤ int_div c (pos n)
quot-up (pos a) (pos c) n h = let m = dividend-up a c n (omega (arith, ints)) in omega (arith, ints)
quot-up (negsuc a) (pos c) n h = omega (arith, ints)
quot-up (negsuc a) (negsuc c) n h = let m = dividend-up (suc c) (suc a) n (omega (arith, ints)) in omega (arith, ints)
quot-up (pos a) (negsuc c) n h = absurd (omega (arith, ints))

quot-left : (l u a b : ℤ) → l ≤ℤ a → a ≤ℤ u → Between (int_div l b) (int_div u b) (int_div a b)
quot-left l u a (pos n) h k = rising _ _ _ (quot-up l a n h) (quot-up a u n k)
quot-left l u a (negsuc n) h k = simp quot-neg (between-neg _ _ _ (rising _ _ _ (quot-up l a (suc n) h) (quot-up a u (suc n) k)))

-- divisors above 0, from j to k
quot-right : (a : ℤ) (j k n : ℕ) → 0 < j → j ≤ n → n ≤ k → Between (int_div a (pos j)) (int_div a (pos k)) (int_div a (pos n))
quot-right (pos a) j k n p h i =
    let f = divisor-up a j n p h in
    let g = divisor-up a n k (omega arith) i in
    falling (pos (a / j)) (pos (a / k)) (pos (a / n)) (omega (arith, ints)) (omega (arith, ints))
quot-right (negsuc a) j k n p h i =
    let f = divisor-up (suc a) j n p h in
    let g = divisor-up (suc a) n k (omega arith) i in
    rising (neg_ℤ (pos (suc a / j))) (neg_ℤ (pos (suc a / k))) (neg_ℤ (pos (suc a / n))) (omega (arith, ints)) (omega (arith, ints))

right-above : (a l u b : ℤ) → pos 0 <ℤ l → l ≤ℤ b → b ≤ℤ u → Between (int_div a l) (int_div a u) (int_div a b)
right-above a (pos j) (pos k) (pos n) p h i = quot-right a j k n (omega (arith, ints)) (omega (arith, ints)) (omega (arith, ints))
right-above a (negsuc j) u b p h i = absurd (omega (arith, ints))
right-above a (pos j) (negsuc k) b p h i = absurd (omega (arith, ints))
right-above a (pos j) (pos k) (negsuc n) p h i = absurd (omega (arith, ints))

right-below : (a l u b : ℤ) → u <ℤ pos 0 → l ≤ℤ b → b ≤ℤ u → Between (int_div a l) (int_div a u) (int_div a b)
right-below a (negsuc j) (negsuc k) (negsuc n) p h i = simp quot-neg (between-neg _ _ _ (between-swap _ _ _ (quot-right a (suc k) (suc j) (suc n) (omega arith) (omega (arith, ints)) (omega (arith, ints)))))
right-below a l (pos k) b p h i = absurd (omega (arith, ints))
right-below a (pos j) (negsuc k) b p h i = absurd (omega (arith, ints))
right-below a (negsuc j) (negsuc k) (pos n) p h i = absurd (omega (arith, ints))

quotients-above : (x y : Ends) → pos 0 <ℤ y.low → Edged int_div x y
quotients-above x y p = record {
  left = λ a b h k. quot-left x.low x.high a b (among-low x a h) (among-high x a h);
  right = λ a b h k. right-above a y.low y.high b p (among-low y b k) (among-high y b k);
}

quotients-below : (x y : Ends) → y.high <ℤ pos 0 → Edged int_div x y
quotients-below x y p = record {
  left = λ a b h k. quot-left x.low x.high a b (among-low x a h) (among-high x a h);
  right = λ a b h k. right-below a y.low y.high b p (among-low y b k) (among-high y b k);
}

-- a quotient by any divisor but 0 is among the quotients
pub quotients-among : (x y : Ends) (a b : ℤ) → among x a ≡ true → among y b ≡ true → (b ≢ pos 0) → among (quotients x y) (int_div a b) ≡ true
quotients-among x y a b h k nz =
    let below = results int_div x (negative y) in
    let over = results int_div x (positive y) in
    by_lt_z b (pos 0)
    (λ u. inside-among below (hull below over) (int_div a b) (hull-left below over) (results-among int_div x (negative y) (quotients-below x (negative y) (top y.high)) a b h (in-negative y b k u)))
    (λ u. inside-among over (hull below over) (int_div a b) (hull-right below over) (results-among int_div x (positive y) (quotients-above x (positive y) (bottom y.low)) a b h (in-positive y b k (strictly b u nz))))
  where
    top : (h : ℤ) → int_min h (negsuc 0) <ℤ pos 0
    top h = omega (arith, ints, clamps)

    bottom : (l : ℤ) → pos 0 <ℤ int_max l (pos 1)
    bottom l = omega (arith, ints, clamps)

    in-negative : (y : Ends) (b : ℤ) → among y b ≡ true → b <ℤ pos 0 → among (negative y) b ≡ true
    in-negative y b k u = grind (arith, ints, nat_tests)

    in-positive : (y : Ends) (b : ℤ) → among y b ≡ true → pos 0 <ℤ b → among (positive y) b ≡ true
    in-positive y b k u = grind (arith, ints, nat_tests)

    strictly : (b : ℤ) → pos 0 ≤ℤ b → (b ≢ pos 0) → pos 0 <ℤ b
    strictly b u nz = grind (arith, ints, nat_tests)
