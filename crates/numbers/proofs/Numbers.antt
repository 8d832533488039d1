-- The value of a number word below zero.
use Rattle.std.proofs.Common.{◌≡◌, ℕ, ◌-◌, min, List, [], ◌∷◌, length, get_or, take, drop, pos, neg_ℤ, arith}
use Rattle.std.proofs.lemmas.Int.{ints}
use Rattle.std.proofs.lemmas.List.{take_all}
use Rattle.numbers.specs.Int.{in_int}
use Rattle.numbers.specs.Number.{decimal, written}

pub capped-under : (d : ℕ) → in_int (neg_ℤ (pos (min d 32769))) ≡ in_int (neg_ℤ (pos d))
capped-under d = grind (arith, ints)

pub written-minus : (w : List ℕ) → get_or w 0 0 ≡ 45 → written w ≡ neg_ℤ (pos (decimal (take (length w - 1) (drop 1 w))))
written-minus [] e = absurd (omega arith)
written-minus (b ∷ rest) e = grind (arith, take_all)
