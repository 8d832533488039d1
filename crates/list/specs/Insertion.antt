-- How a record takes in one number more.
use Rattle.std.specs.Prelude.{ℕ, ◌+◌, ◌-◌, Bool, cond, ◌&&◌, List, ◌∷◌, ◌++◌, length, take, drop, ℤ, pos, ◌==◌, int_lt, nat_lt, slice_index_or}
use Rattle.std.specs.List.{prefix_len}
use Rattle.numbers.specs.Arithmetic.{eq_z}
use Rattle.list.specs.declared.NumberList.{NumberList}
use Rattle.list.specs.declared.NumberList.TheVariants.{Everything, Numbers}

-- how many numbers stand at the front that are below n
abbrev pub place : List ℤ → ℤ → ℕ
place xs n = prefix_len (λ x. int_lt x n) xs

-- n stands at the place p
abbrev pub stands_at : List ℤ → ℕ → ℤ → Bool
stands_at xs p n = nat_lt p (length xs) && eq_z (slice_index_or xs p (pos 0)) n

-- n at the place p of a list of fixed length, which loses its last number
abbrev pub shifted_in : List ℤ → ℕ → ℤ → List ℤ
shifted_in xs p n = take p xs ++ (n ∷ take (length xs - 1 - p) (drop p xs))

-- the record with n at its place; everything where n is a ninth number
abbrev pub put_in : NumberList → ℤ → NumberList
put_in Everything n = Everything
put_in (Numbers count numbers) n =
    cond (nat_lt 8 count) Everything
    (cond (stands_at (take count numbers) (place (take count numbers) n) n) (Numbers count numbers)
    (cond (count == 8) Everything
    (Numbers (count + 1) (shifted_in numbers (place (take count numbers) n) n))))
