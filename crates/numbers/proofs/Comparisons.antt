-- What tests of whole numbers tell.
use Rattle.std.proofs.Common.{◌≡◌, true, false, ℤ, ◌≤ℤ◌, ◌<ℤ◌, arith}
use lib.Signed.{lt_z, le_z}
use Rattle.std.proofs.lemmas.Int.{ints}
use Rattle.std.proofs.lemmas.Bool.Decides.{nat_tests}
use Rattle.numbers.specs.Arithmetic.{eq_z}
use Rattle.numbers.specs.Int.{is_int}

pub below-test : (a b : ℤ) → a <ℤ b → lt_z a b ≡ true
below-test a b h = grind (arith, ints, nat_tests)

pub le_test : (a b : ℤ) → a ≤ℤ b → le_z a b ≡ true
le_test a b h = grind (arith, ints, nat_tests)

pub eq_z-same : (x y : ℤ) → x ≡ y → eq_z x y ≡ true
eq_z-same x y e = grind (arith, ints, nat_tests)

pub eq_z-other : (x y : ℤ) → (x ≡ y → ⊥) → eq_z x y ≡ false
eq_z-other x y ne = grind (arith, ints, nat_tests)

pub eq_z-true : (x y : ℤ) → eq_z x y ≡ true → x ≡ y
eq_z-true x y h = grind (arith, ints, nat_tests)

-- a number between two INTs is one
pub int-between : (a b n : ℤ) → is_int a ≡ true → is_int b ≡ true → a ≤ℤ n → n ≤ℤ b → is_int n ≡ true
int-between a b n i j h k = grind (arith, ints, nat_tests)
