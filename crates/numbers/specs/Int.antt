-- INT, the whole numbers that a variable of that kind can hold.
use Rattle.std.specs.Prelude.{Bool, cond, ◌&&◌, ℤ, pos, negsuc, Some, None, Option, int_le}

-- the ends of INT: −32768 and 32767
abbrev pub lowest : ℤ
lowest = negsuc 32767

abbrev pub highest : ℤ
highest = pos 32767

-- a whole number lies inside INT
abbrev pub is_int : ℤ → Bool
is_int z = int_le lowest z && int_le z highest

-- the number itself where it lies inside INT
abbrev pub in_int : ℤ → Option ℤ
in_int z = cond (is_int z) (Some z) None
