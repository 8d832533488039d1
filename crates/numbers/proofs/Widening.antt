-- Results of two INTs in a wider type, as the code reads and passes them.
use Rattle.std.proofs.Common.{◌≡◌, ℕ, zero, suc, ◌/◌, ◌^◌, ◌<◌, ◌≤◌, ℤ, pos, negsuc, ◌+ℤ◌, ◌-ℤ◌, ◌*ℤ◌, neg_ℤ, nat_abs, sym, refl, ap, ◌∙◌, subst, div-le_self, arith, w16, w32, SFits, to_z, of_z, rules}
use borrow.Author.Numbers.{signed_product}
use lib.Signed.{quot_z}
use Rattle.std.proofs.lemmas.Int.{ints, to_z-of_z}

-- an INT as the code reads it for a wider sum, and a wider number as the code passes it
abbrev pub wide : ℤ → ℤ
wide x = to_z w32 (of_z w32 (to_z w16 (of_z w16 x)))

abbrev pub passed : ℤ → ℤ
passed z = to_z w32 (of_z w32 z)

wide_is : (x : ℤ) → SFits w16 x → wide x ≡ x
wide_is x f = omega (arith, ints)

-- two INTs have a result that the wider type holds
abbrev pub Fit : (ℤ → ℤ → ℤ) → Type 0
Fit op = (x y : ℤ) → SFits w16 x → SFits w16 y → SFits w32 (op (wide x) (wide y))

pub sums-fit : Fit ◌+ℤ◌
sums-fit x y f g = search rules

pub differences-fit : Fit ◌-ℤ◌
differences-fit x y f g = search rules

pub products-fit : Fit ◌*ℤ◌
products-fit x y f g = signed_product w32 w16 w16 x y f g tt

fits-abs : (z : ℤ) → nat_abs z ≤ 2 ^ 15 → SFits w32 z
fits-abs (pos n) h = record { sfits = omega arith }
fits-abs (negsuc n) h = record { sfits = omega arith }

abs_neg : (n : ℕ) → nat_abs (neg_ℤ (pos n)) ≡ n
abs_neg zero = refl
abs_neg (suc n) = refl

-- a quotient is no larger than the dividend
abs-quot : (x y : ℤ) → nat_abs (quot_z x y) ≤ nat_abs x
abs-quot (pos a) (pos b) = div-le_self a b
abs-quot (pos a) (negsuc b) = omega (arith, abs_neg (a / suc b), div-le_self a (suc b))
abs-quot (negsuc a) (pos b) = omega (arith, abs_neg (suc a / b), div-le_self (suc a) b)
abs-quot (negsuc a) (negsuc b) = div-le_self (suc a) (suc b)

abs-int : (x : ℤ) → SFits w16 x → nat_abs x ≤ 2 ^ 15
abs-int (pos n) f = omega (arith, f.sfits)
abs-int (negsuc n) f = omega (arith, f.sfits)

pub quotients-fit : Fit quot_z
quotients-fit x y f g =
    let small : nat_abs (quot_z x y) ≤ 2 ^ 15 = omega (arith, abs-quot x y, abs-int x f) in
    subst (λ z. SFits w32 (quot_z z (wide y))) (sym (wide_is x f)) (subst (λ z. SFits w32 (quot_z x z)) (sym (wide_is y g)) (fits-abs _ small))

-- a divisor is not 0, as the code asks it
pub nonzero : (x : ℤ) → SFits w16 x → (x ≡ pos 0 → ⊥) → 0 < of_z w32 (to_z w16 (of_z w16 x))
nonzero x f h = subst (λ z. 0 < of_z w32 z) (sym (to_z-of_z w16 x f)) (bits x f h)
  where
    bits : (x : ℤ) → SFits w16 x → (x ≡ pos 0 → ⊥) → 0 < of_z w32 x
    bits (pos zero) f h = absurd (h refl)
    bits (pos (suc n)) f h = omega arith
    bits (negsuc n) f h = omega (arith, f.sfits)

-- the result, as the code passes it on
pub passed_is : (op : ℤ → ℤ → ℤ) → Fit op → (x y : ℤ) → SFits w16 x → SFits w16 y → passed (op (wide x) (wide y)) ≡ op x y
passed_is op fit x y f g = to_z-of_z w32 _ (fit x y f g) ∙ ap (λ z. op z (wide y)) (wide_is x f) ∙ ap (op x) (wide_is y g)
