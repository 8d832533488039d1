-- Facts of ends in general, over any ends: order, join and widening.
use Rattle.std.specs.Prelude.{◌≡◌, true, false, cond, ◌&&◌, ℤ, ◌≤ℤ◌, int_lt}
use Rattle.std.proofs.Common.{arith}
use Rattle.std.specs.Int.{int_min, int_max}
use Rattle.std.proofs.lemmas.Int.{ints, clamps}
use Rattle.std.proofs.lemmas.Bool.{cond_both}
use Rattle.std.proofs.lemmas.Bool.Decides.{nat_tests}
use Rattle.interval.specs.Ends.{from_to, ordered, among, inside, hull, cut, leaves, widened}
use Rattle.interval.specs.declared.ends.Ends.{Ends}

pub span-among : (a b n : ℤ) → a ≤ℤ n → n ≤ℤ b → among (from_to a b) n ≡ true
span-among a b n h k = grind (arith, ints, nat_tests)

pub among_none : (x : Ends) (n : ℤ) → int_lt x.high x.low ≡ true → among x n ≡ false
among_none x n h = grind (arith, ints, nat_tests)

pub among-ordered : (x : Ends) (n : ℤ) → among x n ≡ true → x.low ≤ℤ x.high
among-ordered x n h = grind (arith, ints, nat_tests)

pub inside-among : (x y : Ends) (n : ℤ) → inside x y ≡ true → among x n ≡ true → among y n ≡ true
inside-among x y n h k = grind (arith, ints, nat_tests)

pub inside-none : (x y : Ends) → int_lt x.high x.low ≡ true → inside x y ≡ true
inside-none x y h = grind (arith, ints, nat_tests)

pub inside-refl : (x : Ends) → inside x x ≡ true
inside-refl x = grind (arith, ints, nat_tests)

pub inside-trans : (x y z : Ends) → inside x y ≡ true → inside y z ≡ true → inside x z ≡ true
inside-trans x y z h k = grind (arith, ints, nat_tests)

pub none_inside : (x y : Ends) → inside x y ≡ true → int_lt y.high y.low ≡ true → int_lt x.high x.low ≡ true
none_inside x y h k = grind (arith, ints, nat_tests)

pub hull-left : (x y : Ends) → inside x (hull x y) ≡ true
hull-left x y = grind (arith, ints, nat_tests)

pub hull-right : (x y : Ends) → inside y (hull x y) ≡ true
hull-right x y = grind (arith, ints, nat_tests)

pub hull-least : (x y z : Ends) → inside x z ≡ true → inside y z ≡ true → inside (hull x y) z ≡ true
hull-least x y z h k = grind (arith, ints, nat_tests)

pub inside-widened : (lo hi : ℤ) (old new : Ends) → inside new (widened lo hi old new) ≡ true
inside-widened lo hi old new =
    cond_both (ordered old && ordered new) _ new (λ e. inside new e ≡ true)
    (λ _. inside-wider new _ (moved_down lo old.low new.low) (moved_up hi old.high new.high))
    (λ _. inside-refl new)
  where
    moved_down : (lo o n : ℤ) → cond (int_lt n o) (int_min lo n) n ≤ℤ n
    moved_down lo o n = cond_both (int_lt n o) _ _ (λ z. z ≤ℤ n) (λ _. omega (arith, ints, clamps)) (λ _. omega (arith, ints))

    moved_up : (hi o n : ℤ) → n ≤ℤ cond (int_lt o n) (int_max hi n) n
    moved_up hi o n = cond_both (int_lt o n) _ _ (λ z. n ≤ℤ z) (λ _. omega (arith, ints, clamps)) (λ _. omega (arith, ints))

    inside-wider : (x y : Ends) → y.low ≤ℤ x.low → x.high ≤ℤ y.high → inside x y ≡ true
    inside-wider x y h k = grind (arith, ints, nat_tests)

pub cut-among : (lo hi : ℤ) (e : Ends) (z : ℤ) → among (from_to lo hi) z ≡ true → among e z ≡ true → among (cut lo hi e) z ≡ true
cut-among lo hi e z h k = grind (arith, ints, nat_tests)

pub leaves-says : (lo hi : ℤ) (e : Ends) (z : ℤ) → among (from_to lo hi) z ≡ false → among e z ≡ true → leaves lo hi e ≡ true
leaves-says lo hi e z h k = grind (arith, ints, nat_tests)
