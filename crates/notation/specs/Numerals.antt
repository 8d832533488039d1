-- Numbers as they are written in sets: digits, or a minus and digits.
use Rattle.std.specs.Prelude.{ℕ, Bool, false, cond, ◌&&◌, List, [], ◌∷◌, length, ℤ, None, Option, ◌==◌, nat_lt}
use Rattle.numbers.specs.Number.{digits_only, int_of}

-- digits, at least one, behind a minus (45) if there is one
abbrev pub is_numeral : List ℕ → Bool
is_numeral [] = false
is_numeral (b ∷ rest) = cond (b == 45) (nat_lt 0 (length rest) && digits_only rest) (digits_only (b ∷ rest))

-- the INT that a numeral writes; none for other bytes, or where the value lies outside INT
abbrev pub numeral : List ℕ → Option ℤ
numeral bytes = cond (is_numeral bytes) (int_of bytes) None
