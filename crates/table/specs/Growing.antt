-- How cells of a table take in others: by the join, or by its widening.
use Rattle.std.specs.Prelude.{ℕ, ◌+◌, ◌*◌, Bool as Truth, false, cond, not, ◌||◌, List, [], ◌∷◌, take, replicate, nat_lt, slice_index_or, slice_set}
use Rattle.domain.specs.Domain.{Ops}
use Rattle.cells.specs.declared.cell.Cell.{Cell}
use Rattle.cells.specs.Cells.{nothing, within, joined, widened}

-- the cells after something was brought to them, and whether one did not take it in as it was
pub record Grown (S : Type 0) : Type 0 where
  pub cells : List (Cell S)
  pub changed : Truth

-- nothing was brought
abbrev pub unchanged : {S : Type 0} → List (Cell S) → Grown S
unchanged cells = record { cells = cells; changed = false }

-- a cell put at a column of a row; nothing is put where the row or the table does not reach
abbrev pub with_cell : {S : Type 0} → ℕ → List (Cell S) → ℕ → ℕ → Cell S → List (Cell S)
with_cell w cells row column c = cond (nat_lt column w) (slice_set cells (row * w + column) c) cells

module _ {S : Type 0} (o : Ops S) where
  -- cells of which none allows anything
  abbrev pub cleared : ℕ → List (Cell S)
  cleared n = replicate n (nothing o)

  -- the join of two cells, or its widening
  abbrev pub larger : Truth → Cell S → Cell S → Cell S
  larger widening t c = cond widening (widened o t c) (joined o t c)

  -- a target cell that does not take in the given one becomes their join, or its widening
  abbrev pub taken_in : Truth → Cell S → Cell S → Cell S
  taken_in widening t c = cond (within o c t) t (larger widening t c)

  -- the row's cells are brought to the places from `start` on
  abbrev pub grown : Truth → List (Cell S) → Truth → ℕ → List (Cell S) → Grown S
  grown widening cells changed start [] = record { cells = cells; changed = changed }
  grown widening cells changed start (c ∷ row) =
      grown widening (slice_set cells start (taken_in widening (slice_index_or cells start (nothing o)) c)) (changed || not (within o c (slice_index_or cells start (nothing o)))) (start + 1) row

  -- a row, as far as the width allows, is brought to row k
  abbrev pub with_row : Truth → ℕ → List (Cell S) → ℕ → List (Cell S) → Grown S
  with_row widening w cells k row = grown widening cells false (k * w) (take w row)
