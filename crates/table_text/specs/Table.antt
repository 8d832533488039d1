-- What the text of a table reads as: a line for each statement, with its number, a mark word and its cells.
use Rattle.std.specs.Prelude.{◌≡◌, ℕ, zero, suc, ◌+◌, ◌-◌, Bool, true, false, cond, ◌&&◌, List, length, ℤ, pos, negsuc, Some, None, Ok, Err, codes, Option, Result, ◌==◌, nat_lt, slice_set}
use Rattle.std.specs.List.{between}
use Rattle.std.specs.Str.{bytes_eq}
use Rattle.domain.specs.Domain.{Ops}
use Rattle.cells.specs.declared.cell.Cell.{Cell as Entry}
use Rattle.notation.specs.Numerals.{numeral}
use Rattle.notation.specs.Cells.{read_cell}
use Rattle.table_text.specs.declared.fault.TableFault.{TableFault}
use Rattle.table_text.specs.declared.fault.TableFault.TheVariants.{TooLong, Misfit}
use Rattle.table_text.specs.declared.gaps.Gap.{Gap}
use Rattle.table_text.specs.declared.progress.Stage.{Stage}
use Rattle.table_text.specs.declared.progress.Stage.TheVariants.{Begin, Heading, Number, Mark, Cell}
use Rattle.table_text.specs.declared.progress.Progress.{Progress}
use Rattle.table_text.specs.declared.progress.Size.{Size}
use Rattle.table_text.specs.Gaps.{gap_from, word_end}

-- an answer, and the cells after it
pub record Outcome (X S : Type 0) : Type 0 where
  pub answer : Result X TableFault
  pub after : List (Entry S)

abbrev pub outcome : {X S : Type 0} → Result X TableFault → List (Entry S) → Outcome X S
outcome r cs = record { answer = r; after = cs }

-- a word writes the number of a line
abbrev pub is_row : ℕ → Option ℤ → Bool
is_row row None = false
is_row row (Some (pos n)) = n == row
is_row row (Some (negsuc n)) = false

-- a line begins with its number, and there is none after the last
abbrev pub row_taken : Progress → ℕ → List ℕ → Result Progress TableFault
row_taken p place word = cond (nat_lt p.row p.size.rows && is_row p.row (numeral word)) (Ok (record { size = p.size; stage = Mark; row = p.row + 1; index = p.index })) (Err (Misfit place))

-- where a line stands that still wants so many cells
abbrev pub with_left : ℕ → Stage
with_left left = cond (nat_lt 0 left) (Cell left) Number

-- any word may be the mark word; the line's cells follow
abbrev pub mark_taken : Progress → Progress
mark_taken p = record { size = p.size; stage = with_left p.size.width; row = p.row; index = p.index }

-- the next place behind an index, where the caller has so many cells; a cell beyond them is dropped
abbrev pub next_index : ℕ → ℕ → ℕ
next_index index most = cond (nat_lt index most) (index + 1) index

-- one cell less is to come in the line
abbrev pub after_cell : Progress → ℕ → ℕ → Progress
after_cell p left index = record { size = p.size; stage = with_left (left - 1); row = p.row; index = index }

-- `settled` behind the beginning
abbrev pub begun : Progress → Progress
begun p = record { size = p.size; stage = Heading; row = p.row; index = p.index }

-- where the text has to come to an end: behind the last line
abbrev pub ended_at : Stage → Progress → ℕ → Result (Unit {0}) TableFault
ended_at Begin p place = cond (p.row == p.size.rows) (Ok tt) (Err (Misfit place))
ended_at Heading p place = cond (p.row == p.size.rows) (Ok tt) (Err (Misfit place))
ended_at Number p place = cond (p.row == p.size.rows) (Ok tt) (Err (Misfit place))
ended_at Mark p place = Err (Misfit place)
ended_at (Cell left) p place = Err (Misfit place)

abbrev pub ended : Progress → ℕ → Result (Unit {0}) TableFault
ended p place = ended_at p.stage p place

-- before the first word
abbrev pub start : Size → Progress
start s = record { size = s; stage = Begin; row = 0; index = 0 }

module _ {S : Type 0} (o : Ops S) (reading : List ℕ → Option S) where
  abbrev pub entry_taken : Progress → ℕ → ℕ → Option (Entry S) → List (Entry S) → Outcome Progress S
  entry_taken p left place None cs = outcome (Err (Misfit place)) cs
  entry_taken p left place (Some c) cs = outcome (Ok (after_cell p left (next_index p.index (length cs)))) (slice_set cs p.index c)

  -- a cell goes to the next place of the caller's cells
  abbrev pub cell_taken : Progress → ℕ → ℕ → List ℕ → List (Entry S) → Outcome Progress S
  cell_taken p left place word cs = entry_taken p left place (read_cell o reading word) cs

  -- what one word more does, in the line of the word before it (false) or in a new one (true)
  abbrev pub taken_at : Stage → Bool → Progress → ℕ → List ℕ → List (Entry S) → Outcome Progress S
  taken_at Begin line p place word cs = outcome (cond (bytes_eq word (codes "settled")) (Ok (begun p)) (row_taken p place word)) cs
  taken_at Heading false p place word cs = outcome (Ok p) cs
  taken_at Heading true p place word cs = outcome (row_taken p place word) cs
  taken_at Number true p place word cs = outcome (row_taken p place word) cs
  taken_at Number false p place word cs = outcome (Err (Misfit place)) cs
  taken_at Mark false p place word cs = outcome (Ok (mark_taken p)) cs
  taken_at Mark true p place word cs = outcome (Err (Misfit place)) cs
  taken_at (Cell left) false p place word cs = cell_taken p left place word cs
  taken_at (Cell left) true p place word cs = outcome (Err (Misfit place)) cs

  abbrev pub word_taken : Progress → Bool → ℕ → List ℕ → List (Entry S) → Outcome Progress S
  word_taken p line place word cs = taken_at p.stage line p place word cs

  -- what follows a word; a fault ends the text
  abbrev pub further : Result Progress TableFault → List (Entry S) → (Progress → List (Entry S) → Outcome (Unit {0}) S) → Outcome (Unit {0}) S
  further (Err f) cs next = outcome (Err f) cs
  further (Ok p) cs next = next p cs

  -- the word behind a gap
  abbrev pub taken_behind : List ℕ → Gap → Progress → List (Entry S) → Outcome Progress S
  taken_behind text g p cs = word_taken p g.line g.end (between g.end (word_end text g.end) text) cs

  -- the effect of the words behind a gap, of which there are fewer than n
  abbrev pub taken_from : ℕ → List ℕ → Gap → Progress → List (Entry S) → Outcome (Unit {0}) S
  taken_from zero text g p cs = outcome (ended p (length text)) cs
  taken_from (suc n) text g p cs =
      cond (nat_lt g.end (length text))
      (further (taken_behind text g p cs).answer (taken_behind text g p cs).after (λ q ds. taken_from n text (gap_from text (word_end text g.end)) q ds))
      (outcome (ended p (length text)) cs)

  -- the effect of all words of a text; each takes a byte at least
  abbrev pub all_taken : List ℕ → Size → List (Entry S) → Outcome (Unit {0}) S
  all_taken text s cs = taken_from (length text + 1) text (gap_from text 0) (start s) cs

  -- what the text of a table does to the caller's cells: one above 1,048,576 bytes does nothing
  abbrev pub table_read : List ℕ → ℕ → ℕ → List (Entry S) → Outcome (Unit {0}) S
  table_read text rows width cs = cond (nat_lt 1048576 (length text)) (outcome (Err TooLong) cs) (all_taken text (record { rows = rows; width = width }) cs)

-- the code's answer and the caller's cells are those of an outcome
pub record TookAs {S : Type 0} (want : Outcome Progress S) (r : Result Progress TableFault) (after : List (Entry S)) : Type 0 where
  pub answer : r ≡ want.answer
  pub cells : after ≡ want.after

pub record ReadAs {S : Type 0} (want : Outcome (Unit {0}) S) (r : Result (Unit {0}) TableFault) (after : List (Entry S)) : Type 0 where
  pub answer : r ≡ want.answer
  pub cells : after ≡ want.after
