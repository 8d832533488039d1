-- Cells, and the lines of a sheet, as text.
use Rattle.std.specs.Prelude.{ℕ, Bool, cond, ◌&&◌, ◌||◌, List, [], ◌++◌, length, drop, pos, Some, None, codes, decimal, fold, Option, ◌==◌, nat_lt, slice_index}
use Rattle.std.specs.Str.{bytes_eq}
use Rattle.domain.specs.Domain.{Ops}
use Rattle.cells.specs.declared.cell.Cell.{Cell}
use Rattle.cells.specs.Cells.{nothing, is_vacant}
use Rattle.transfer.specs.declared.marks.Marks.{Marks}

-- a text where a flag is on, else another
abbrev pub shown_if : Bool → List ℕ → List ℕ → List ℕ
shown_if on text other = cond on text other

-- the bytes begin with a letter
abbrev pub begins_with : List ℕ → ℕ → Bool
begins_with bytes letter = nat_lt 0 (length bytes) && slice_index bytes 0 == letter

-- what follows a letter, if the bytes begin with it
abbrev pub past : List ℕ → ℕ → List ℕ
past bytes letter = cond (begins_with bytes letter) (drop 1 bytes) bytes

-- a mark's letter, or a hyphen
abbrev pub mark_text : Bool → List ℕ → List ℕ
mark_text on letter = shown_if on letter (codes "-")

-- the number of a statement and the marks of its row, in the order O Z K N
abbrev pub line_head : ℕ → Marks → List ℕ
line_head n m =
    ((((decimal n ++ codes " ") ++ mark_text m.overflow (codes "O")) ++ mark_text m.zero_divisor (codes "Z")) ++ mark_text m.kind (codes "K")) ++ mark_text m.unreachable (codes "N")

-- the flags with a set, if there is one
abbrev pub cell_of : {S : Type 0} → Bool → Bool → Bool → Option S → Option (Cell S)
cell_of u f t None = None
cell_of u f t (Some s) = Some (record { unset = u; can_be_false = f; can_be_true = t; numbers = s })

-- u, f and t as they are allowed, and the set
abbrev pub parts_text : {S : Type 0} → (S → List ℕ) → Cell S → List ℕ
parts_text written c = ((shown_if c.unset (codes "u") [] ++ shown_if c.can_be_false (codes "f") []) ++ shown_if c.can_be_true (codes "t") []) ++ written c.numbers

module _ {S : Type 0} (o : Ops S) where
  -- a full stop for a vacant cell, else its parts
  abbrev pub cell_text : (S → List ℕ) → Cell S → List ℕ
  cell_text written c = cond (is_vacant o c) (codes ".") (parts_text written c)

  -- a text with a cell behind it, after a blank
  abbrev pub with_cell : (S → List ℕ) → List ℕ → Cell S → List ℕ
  with_cell written text c = (text ++ codes " ") ++ cell_text written c

  -- a line of a sheet: the number, the marks, the cells
  abbrev pub sheet_line : (S → List ℕ) → ℕ → Marks → List (Cell S) → List ℕ
  sheet_line written n m row = fold (with_cell written) (line_head n m) row ++ codes "\n"

  -- no set behind a letter is the span from 1 to 0; there is no cell without a letter and a set
  abbrev pub read_set : (List ℕ → Option S) → Bool → List ℕ → Option S
  read_set reading lettered bytes = cond (nat_lt 0 (length bytes)) (reading bytes) (cond lettered (Some (o.span (pos 1) (pos 0))) None)

  -- u (117), f (102) and t (116), once each and in this order, and the set
  abbrev pub read_parts : (List ℕ → Option S) → List ℕ → Option (Cell S)
  read_parts reading bytes =
      cell_of (begins_with bytes 117) (begins_with (past bytes 117) 102) (begins_with (past (past bytes 117) 102) 116)
      (read_set reading (begins_with bytes 117 || (begins_with (past bytes 117) 102 || begins_with (past (past bytes 117) 102) 116)) (past (past (past bytes 117) 102) 116))

  -- a full stop alone is the cell that allows nothing
  abbrev pub read_cell : (List ℕ → Option S) → List ℕ → Option (Cell S)
  read_cell reading bytes = cond (bytes_eq bytes (codes ".")) (Some (nothing o)) (read_parts reading bytes)
