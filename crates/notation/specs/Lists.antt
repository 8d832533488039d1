-- Lists as text: numbers with commas between them, or a star for everything.
use Rattle.std.specs.Prelude.{ℕ, ◌+◌, cond, List, [], ◌∷◌, ◌++◌, length, ℤ, Some, None, fold, Option, ◌==◌, nat_lt, slice_set}
use Rattle.std.specs.Fmt.{signed_decimal}
use Rattle.std.specs.List.{slice_split}
use Rattle.std.specs.Str.{bytes_eq}
use Rattle.list.specs.declared.NumberList.{NumberList}
use Rattle.list.specs.declared.NumberList.TheVariants.{Everything, Numbers}
use Rattle.list.specs.NumberList.{listed, packed}
use Rattle.notation.specs.Numerals.{numeral}

-- a list with a number behind its last; there is no place for a ninth
abbrev pub appended : NumberList → ℤ → Option NumberList
appended Everything n = None
appended (Numbers count numbers) n = cond (nat_lt count 8) (Some (Numbers (count + 1) (slice_set numbers count n))) None

abbrev pub appended_if : NumberList → Option ℤ → Option NumberList
appended_if x None = None
appended_if x (Some n) = appended x n

-- a list, if there is one, with the number that bytes write behind its last
abbrev pub with_numeral : Option NumberList → List ℕ → Option NumberList
with_numeral None bytes = None
with_numeral (Some x) bytes = appended_if x (numeral bytes)

-- numbers with commas (44) between them, at most eight, in any order
abbrev pub read_numbers : List ℕ → Option NumberList
read_numbers bytes = fold with_numeral (Some (packed [])) (slice_split (λ b. b == 44) bytes)

-- a star (42) alone is everything
abbrev pub read_list : List ℕ → Option NumberList
read_list bytes = cond (bytes_eq bytes (42 ∷ [])) (Some Everything) (read_numbers bytes)

-- a text with a number behind it, and a comma between them unless it is the first
abbrev pub with_number : List ℕ → ℤ → List ℕ
with_number text n = cond (nat_lt 0 (length text)) ((text ++ 44 ∷ []) ++ signed_decimal n) (text ++ signed_decimal n)

-- numbers with commas between them
abbrev pub numbers_text : List ℤ → List ℕ
numbers_text ns = fold with_number [] ns

-- the text of a list; nothing for an empty one or a record out of form
abbrev pub list_text : NumberList → List ℕ
list_text Everything = 42 ∷ []
list_text (Numbers count numbers) = numbers_text (listed (Numbers count numbers))
