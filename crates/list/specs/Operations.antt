-- What operations on two numbers give.
use Rattle.std.specs.Prelude.{Bool, cond, not, ℤ, pos, ◌+ℤ◌, ◌-ℤ◌, ◌*ℤ◌, None, Option, int_div}
use Rattle.numbers.specs.Arithmetic.{eq_z}
use Rattle.numbers.specs.Int.{is_int, in_int}

-- the result inside INT, if there is one
abbrev pub sum : ℤ → ℤ → Option ℤ
sum a b = in_int (a +ℤ b)

abbrev pub difference : ℤ → ℤ → Option ℤ
difference a b = in_int (a -ℤ b)

abbrev pub product : ℤ → ℤ → Option ℤ
product a b = in_int (a *ℤ b)

-- a quotient drops its fraction, a divisor 0 gives none
abbrev pub quotient : ℤ → ℤ → Option ℤ
quotient a b = cond (eq_z b (pos 0)) None (in_int (int_div a b))

-- the result lies outside INT
abbrev pub leaves : (ℤ → ℤ → ℤ) → ℤ → ℤ → Bool
leaves op a b = not (is_int (op a b))
