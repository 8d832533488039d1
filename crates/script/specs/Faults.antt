-- The number and the place that each fault of a script tells.
use Rattle.std.specs.Prelude.{ℕ}
use Rattle.words.specs.Faults.{word_number, word_place}
use Rattle.script.specs.declared.fault.ScriptFault.{ScriptFault}
use Rattle.script.specs.declared.fault.ScriptFault.TheVariants.{Word, Misfit}

-- 5: a word that does not fit, or a name that is no call
abbrev pub script_number : ScriptFault → ℕ
script_number (Word f) = word_number f
script_number (Misfit p) = 5

abbrev pub script_place : ScriptFault → ℕ
script_place (Word f) = word_place f
script_place (Misfit p) = p
