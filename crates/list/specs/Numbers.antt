-- Lists of whole numbers, of any length: membership, order, results of pairs.
use Rattle.std.specs.Prelude.{ℕ, zero, suc, Bool, true, cond, ◌&&◌, List, [], ◌∷◌, ◌++◌, ℤ, pos, ◌+ℤ◌, Some, None, fold, Option, int_le, int_lt}
use Rattle.std.specs.List.{list_any, list_all}
use Rattle.numbers.specs.Arithmetic.{eq_z}

-- n stands in the list
abbrev pub member : ℤ → List ℤ → Bool
member n xs = list_any (λ x. eq_z x n) xs

-- every number of the first list stands in the second
abbrev pub all_in : List ℤ → List ℤ → Bool
all_in xs ys = list_all (λ x. member x ys) xs

-- the numbers ascend strictly, from above p on
abbrev pub rising : ℤ → List ℤ → Bool
rising p [] = true
rising p (x ∷ xs) = int_lt p x && rising x xs

-- the numbers ascend strictly
abbrev pub ascending : List ℤ → Bool
ascending [] = true
ascending (x ∷ xs) = rising x xs

-- n at its place in a list that ascends, once
abbrev pub placed : List ℤ → ℤ → List ℤ
placed [] n = n ∷ []
placed (x ∷ xs) n = cond (int_lt x n) (x ∷ placed xs n) (cond (int_lt n x) (n ∷ x ∷ xs) (x ∷ xs))

-- the numbers in ascending order, each once
abbrev pub sorted : List ℤ → List ℤ
sorted ns = fold placed [] ns

-- the first k numbers from a on that are not above b
abbrev pub counted : ℕ → ℤ → ℤ → List ℤ
counted zero a b = []
counted (suc k) a b = cond (int_le a b) (a ∷ counted k (a +ℤ pos 1) b) []

-- the number, if there is one
abbrev pub if_any : Option ℤ → List ℤ
if_any (Some n) = n ∷ []
if_any None = []

-- the results of a with each number of the list
abbrev pub row : (ℤ → ℤ → Option ℤ) → ℤ → List ℤ → List ℤ
row op a [] = []
row op a (b ∷ ys) = if_any (op a b) ++ row op a ys

-- the results of all pairs, one number from each list
abbrev pub pairs : (ℤ → ℤ → Option ℤ) → List ℤ → List ℤ → List ℤ
pairs op [] ys = []
pairs op (a ∷ xs) ys = row op a ys ++ pairs op xs ys

-- a passes the test with some number of the list
abbrev pub some_with : (ℤ → ℤ → Bool) → ℤ → List ℤ → Bool
some_with test a ys = list_any (test a) ys

-- some pair passes the test, one number from each list
abbrev pub some_pair : (ℤ → ℤ → Bool) → List ℤ → List ℤ → Bool
some_pair test xs ys = list_any (λ a. some_with test a ys) xs
