-- The interval domain's answers are exact: what it says of two intervals is so for some numbers in them.
use Rattle.std.specs.Prelude.{◌≡◌, Bool, true, false, ◌&&◌, ℤ, ◌+ℤ◌, ◌-ℤ◌, ◌*ℤ◌, int_lt}
use Rattle.numbers.specs.Arithmetic.{eq_z}
use Rattle.numbers.specs.Int.{is_int}
use Rattle.domain.specs.Domain.{holds, allows}
use Rattle.domain.specs.declared.Truth.{Truth}
use Rattle.interval.specs.Interval.{interval_ops}
use Rattle.interval.specs.declared.Interval.{Interval}

-- the ends are INTs, as those of every interval that code can make
abbrev pub ends_int : Interval → Bool
ends_int x = is_int x.low && is_int x.high

-- one number held by each side, of which the fact holds
pub record Found (x y : Interval) (fact : ℤ → ℤ → Type 0) : Type 0 where
  pub left : ℤ
  pub right : ℤ
  pub left_held : holds interval_ops x left ≡ true
  pub right_held : holds interval_ops y right ≡ true
  pub is : fact left right

-- an overflow question that says yes has a pair that leaves INT
abbrev pub ExactOverflow : (Interval → Interval → Bool) → (ℤ → ℤ → ℤ) → Type 0
ExactOverflow asks op = (x y : Interval) → ends_int x ≡ true → ends_int y ≡ true → asks x y ≡ true → Found x y (λ a b. is_int (op a b) ≡ false)

-- a flag that is on has a pair that gives that truth
abbrev pub ExactFlags : (Interval → Interval → Truth) → (ℤ → ℤ → Bool) → Type 0
ExactFlags flags test = (x y : Interval) → ends_int x ≡ true → ends_int y ≡ true → (t : Bool) → allows (flags x y) t ≡ true → Found x y (λ a b. test a b ≡ t)

pub record Exact : Type 0 where
  -- `within` says yes wherever the second holds all that the first holds
  pub within : (x y : Interval) → ends_int x ≡ true → ((n : ℤ) → holds interval_ops x n ≡ true → holds interval_ops y n ≡ true) → interval_ops.within x y ≡ true
  -- `is_empty` says yes wherever nothing is held
  pub is_empty : (x : Interval) → ends_int x ≡ true → ((n : ℤ) → holds interval_ops x n ≡ false) → interval_ops.is_empty x ≡ true
  pub add_overflows : ExactOverflow interval_ops.add_overflows ◌+ℤ◌
  pub sub_overflows : ExactOverflow interval_ops.sub_overflows ◌-ℤ◌
  pub mul_overflows : ExactOverflow interval_ops.mul_overflows ◌*ℤ◌
  pub less : ExactFlags interval_ops.less int_lt
  pub equal : ExactFlags interval_ops.equal eq_z
