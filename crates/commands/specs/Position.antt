-- Lines and columns, each counted from 1 over the bytes that stand before a place.
use Rattle.std.specs.Prelude.{ℕ, ◌+◌, min, cond, List, take, fold, count_by, ◌==◌}

-- what stands before a place; a place beyond 65,535 counts as that
abbrev pub before : List ℕ → ℕ → List ℕ
before text place = take (min place 65535) text

-- one line more for each line feed (10)
abbrev pub line_after : List ℕ → ℕ
line_after bytes = count_by (λ b. b == 10) bytes + 1

-- one column more after each byte, and the first after a line feed
abbrev pub column_after : List ℕ → ℕ
column_after bytes = fold (λ n b. cond (b == 10) 1 (n + 1)) 1 bytes
