-- The number, the place and the layer that each fault tells.
use Rattle.std.specs.Prelude.{ℕ}
use Rattle.words.specs.Faults.{word_number, word_place}
use Rattle.reading.specs.declared.fault.StatementFault.{StatementFault}
use Rattle.reading.specs.declared.fault.StatementFault.TheVariants.{Word, Misfit, NoVariable}
use Rattle.reading.specs.declared.fault.ProgramFault.{ProgramFault}
use Rattle.reading.specs.declared.fault.ProgramFault.TheVariants.{Statement, TooLong, Redeclared, VariablesFull, StatementsFull, NoReturn, NoLabel}
use Rattle.reading.specs.declared.fault.Layer.{Layer}
use Rattle.reading.specs.declared.fault.Layer.TheVariants as l
use Rattle.reading.specs.declared.fault.RangeFault.{RangeFault}
use Rattle.reading.specs.declared.fault.RangeFault.TheVariants.{NoIntInput, LowAboveHigh}

-- 5: a word that does not fit, or the end of the text; 8: no such variable
abbrev pub statement_number : StatementFault → ℕ
statement_number (Word f) = word_number f
statement_number (Misfit p) = 5
statement_number (NoVariable p) = 8

abbrev pub statement_place : StatementFault → ℕ
statement_place (Word f) = word_place f
statement_place (Misfit p) = p
statement_place (NoVariable p) = p

-- 1: a text above 65,535 bytes; 7: a name declared again; 9 and 10: no place for a variable or a statement; 11: no RET at the end; 8: a jump to no label
abbrev pub program_number : ProgramFault → ℕ
program_number (Statement f) = statement_number f
program_number TooLong = 1
program_number (Redeclared p) = 7
program_number (VariablesFull p) = 9
program_number (StatementsFull p) = 10
program_number (NoReturn p) = 11
program_number (NoLabel p) = 8

abbrev pub program_place : ProgramFault → ℕ
program_place (Statement f) = statement_place f
program_place TooLong = 65535
program_place (Redeclared p) = p
program_place (VariablesFull p) = p
program_place (StatementsFull p) = p
program_place (NoReturn p) = p
program_place (NoLabel p) = p

-- the layer of a fault that a statement's fault carries
abbrev pub statement_layer : StatementFault → Layer
statement_layer (Word f) = l.Words
statement_layer (Misfit p) = l.Statements
statement_layer (NoVariable p) = l.Statements

abbrev pub program_layer : ProgramFault → Layer
program_layer (Statement f) = statement_layer f
program_layer TooLong = l.Program
program_layer (Redeclared p) = l.Program
program_layer (VariablesFull p) = l.Program
program_layer (StatementsFull p) = l.Program
program_layer (NoReturn p) = l.Program
program_layer (NoLabel p) = l.Program

-- 12: a range for no INT input, or with its low above its high
abbrev pub range_number : RangeFault → ℕ
range_number (NoIntInput i) = 12
range_number (LowAboveHigh i) = 12

-- the position that the range was for
abbrev pub range_place : RangeFault → ℕ
range_place (NoIntInput i) = i
range_place (LowAboveHigh i) = i
