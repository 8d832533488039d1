-- Tables: a row of cells for each statement of a program, row after row.
use Rattle.std.specs.Prelude.{ℕ, ◌*◌, List, length, slice_index_or}
use Rattle.syntax.specs.declared.record.Operation.{Operation}
use Rattle.syntax.specs.declared.record.Statement.{Statement}
use Rattle.syntax.specs.Records.{no_statement}
use Rattle.program.specs.Model.{Code}
use Rattle.transfer.specs.Rows.{width}

-- the operation of a statement; a return where there is none
abbrev pub operation_at : List Statement → ℕ → Operation
operation_at ss k = (slice_index_or ss k no_statement).operation

-- how many cells a table has: a row for each statement
abbrev pub table_size : Code → ℕ
table_size p = length p.statements * width p.variables
