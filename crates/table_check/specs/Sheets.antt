-- What the check answers: a sheet, which stands for a table that passed, or why there is none; and the marks that it leaves.
use Rattle.std.specs.Prelude.{ℕ, false, cond, List, map, length, replicate, Some, None, Ok, Err, Option, Result, ◌==◌}
use Rattle.std.specs.List.{range_with_len}
use Rattle.domain.specs.Domain.{Ops}
use Rattle.program.specs.Model.{Code}
use Rattle.cells.specs.declared.cell.Cell.{Cell}
use Rattle.transfer.specs.declared.marks.Marks.{Marks}
use Rattle.transfer.specs.Rows.{width, row_at}
use Rattle.transfer.specs.Marks.{marks_of}
use Rattle.table.specs.Tables.{operation_at, table_size}
use Rattle.notation.specs.Cells.{sheet_line}
use Rattle.table_check.specs.declared.fault.CheckFault.{CheckFault}
use Rattle.table_check.specs.declared.fault.CheckFault.TheVariants.{WrongSize, NotWithin}
use Rattle.table_check.specs.declared.sheet.Sheet.{Sheet}
use Rattle.table_check.specs.Failures.{first_failure}

-- what a sheet stands for: a program with its ranges, and a table
pub record Shown (S : Type 0) : Type 0 where
  pub cells : List (Cell S)
  pub code : Code
  pub cells_a_row : ℕ

abbrev pub shown : {S : Type 0} → Sheet S → Shown S
shown sheet = record {
  cells = sheet.table.cells.now;
  code = record { variables = sheet.table.variables.now; statements = sheet.table.statements.now };
  cells_a_row = width sheet.table.variables.now;
}

-- an answer of the check, by what its sheet stands for
abbrev pub shown_by : {S : Type 0} → Result (Sheet S) CheckFault → Result (Shown S) CheckFault
shown_by (Ok sheet) = Ok (shown sheet)
shown_by (Err f) = Err f

-- no mark at all
abbrev pub no_marks : Marks
no_marks = record { overflow = false; zero_divisor = false; kind = false; unreachable = false }

module _ {S : Type 0} (o : Ops S) (p : Code) (table : List (Cell S)) where
  -- the marks of row k, in rows of w cells
  abbrev pub marks_in : ℕ → ℕ → Marks
  marks_in w k = marks_of o p.variables (row_at w table k) (operation_at p.statements k)

  -- the marks of the row before statement k
  abbrev pub marks_at : ℕ → Marks
  marks_at k = marks_in (width p.variables) k

  -- the marks of all rows
  abbrev pub marked : List Marks
  marked = map marks_at (range_with_len 0 (length p.statements))

  -- a table in which no place fails is shown, and any other is refused with the first place that does
  abbrev pub judged : Option ℕ → Result (Shown S) CheckFault
  judged None = Ok (record { cells = table; code = p; cells_a_row = width p.variables })
  judged (Some place) = Err (NotWithin place)

  -- the marks of a table that is shown; no marks beside one that is refused
  abbrev pub marks_by : Option ℕ → List Marks
  marks_by None = marked
  marks_by (Some place) = replicate (length p.statements) no_marks

  -- the sizes come first: the cells', then that of the list of marks
  abbrev pub checked : ℕ → Result (Shown S) CheckFault
  checked m =
      cond (length table == table_size p)
      (cond (m == length p.statements) (judged (first_failure o p table)) (Err (WrongSize (length p.statements))))
      (Err (WrongSize (table_size p)))

  -- the caller's marks afterwards; a wrong size changes nothing
  abbrev pub marks_after : List Marks → List Marks
  marks_after marks =
      cond (length table == table_size p) (cond (length marks == length p.statements) (marks_by (first_failure o p table)) marks) marks

-- the line of statement k on a sheet: number, marks and cells
abbrev pub line_of : {S : Type 0} → Ops S → (S → List ℕ) → Shown S → ℕ → List ℕ
line_of o written s k = sheet_line o written k (marks_in o s.code s.cells s.cells_a_row k) (row_at s.cells_a_row s.cells k)
