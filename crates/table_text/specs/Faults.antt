-- The number and the place that each fault of a table's text tells.
use Rattle.std.specs.Prelude.{ℕ}
use Rattle.table_text.specs.declared.fault.TableFault.{TableFault}
use Rattle.table_text.specs.declared.fault.TableFault.TheVariants.{TooLong, Misfit}

-- 1: a text above 1,048,576 bytes; 5: a word that does not fit, or the end of the text
abbrev pub table_number : TableFault → ℕ
table_number TooLong = 1
table_number (Misfit p) = 5

abbrev pub table_place : TableFault → ℕ
table_place TooLong = 1048576
table_place (Misfit p) = p
