-- The number and the place that each fault of a text of ranges tells.
use Rattle.std.specs.Prelude.{ℕ}
use Rattle.words.specs.Faults.{word_number, word_place}
use Rattle.reading.specs.Faults.{range_number, range_place}
use Rattle.ranges.specs.declared.fault.RangesFault.{RangesFault}
use Rattle.ranges.specs.declared.fault.RangesFault.TheVariants.{TooLong, Word, Misfit, Range}

-- 1: a text above 65,535 bytes; 5: a word that does not fit, or the end of the text
abbrev pub ranges_number : RangesFault → ℕ
ranges_number TooLong = 1
ranges_number (Word f) = word_number f
ranges_number (Misfit p) = 5
ranges_number (Range f p) = range_number f

abbrev pub ranges_place : RangesFault → ℕ
ranges_place TooLong = 65535
ranges_place (Word f) = word_place f
ranges_place (Misfit p) = p
ranges_place (Range f p) = range_place f

-- where in the text a fault is: a refused range is where it begins
abbrev pub ranges_spot : RangesFault → ℕ
ranges_spot TooLong = 65535
ranges_spot (Word f) = word_place f
ranges_spot (Misfit p) = p
ranges_spot (Range f p) = p
