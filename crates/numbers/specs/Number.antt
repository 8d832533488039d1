-- The value of a number word: digits, or a minus and digits, as many as there are.
use Rattle.std.specs.Prelude.{Bool, ℕ, ◌+◌, ◌-◌, ◌*◌, cond, List, [], ◌∷◌, ℤ, pos, neg_ℤ, fold, Option, ◌==◌}
use Rattle.std.specs.Char.{is_ascii_digit}
use Rattle.std.specs.List.{list_all}
use Rattle.numbers.specs.Int.{in_int}

-- the number that decimal digits write; 48 is the byte of the digit 0
abbrev pub decimal : List ℕ → ℕ
decimal digits = fold (λ n b. n * 10 + (b - 48)) 0 digits

-- every byte is a digit
abbrev pub digits_only : List ℕ → Bool
digits_only bytes = list_all is_ascii_digit bytes

-- the number that a word's bytes write: a first byte, minus (45) or digit, and the rest
abbrev pub written : List ℕ → ℤ
written [] = pos 0
written (b ∷ rest) = cond (b == 45) (neg_ℤ (pos (decimal rest))) (pos (decimal (b ∷ rest)))

-- the INT that a number word stands for, or none where its value lies outside INT
abbrev pub int_of : List ℕ → Option ℤ
int_of word = in_int (written word)
