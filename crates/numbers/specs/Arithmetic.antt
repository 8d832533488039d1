-- Tests on whole numbers.
use Rattle.std.specs.Prelude.{Bool, ◌&&◌, ℤ, int_le}

-- two whole numbers are equal
abbrev pub eq_z : ℤ → ℤ → Bool
eq_z a b = int_le a b && int_le b a
