-- What a text of ranges, or the front of a script, sets: three numbers for each, position, low and high, set as they are read.
use Rattle.std.specs.Prelude.{ℕ, zero, suc, ◌+◌, Bool, true, false, cond, List, length, ℤ, pos, negsuc, Some, None, Ok, Err, Option, Result, nat_lt}
use Rattle.numbers.specs.Number.{int_of}
use Rattle.words.specs.declared.word.WordFault.{WordFault}
use Rattle.words.specs.Words.{Lexeme, name, number, colon, semicolon, assign, next_at}
use Rattle.program.specs.Model.{Memory, Outcome as ProgramOutcome, ranging}
use Rattle.reading.specs.declared.fault.RangeFault.{RangeFault}
use Rattle.ranges.specs.declared.fault.RangesFault.{RangesFault}
use Rattle.ranges.specs.declared.fault.RangesFault.TheVariants.{TooLong, Word, Misfit, Range}
use Rattle.ranges.specs.declared.text.Until.{Until}
use Rattle.ranges.specs.declared.text.Until.TheVariants.{End, Name}
use Rattle.ranges.specs.declared.take.Awaiting.{Awaiting}
use Rattle.ranges.specs.declared.take.Awaiting.TheVariants.{Position, Low, High}

-- what a part of a text answers, and what the program keeps after it
abbrev pub Outcome : Type 0 → Type 0
Outcome X = ProgramOutcome X RangesFault

abbrev pub outcome : {X : Type 0} → Result X RangesFault → Memory → Outcome X
outcome r m = record { answer = r; after = m }

-- only number words fit; those that the reader gives have a value
abbrev pub value_in : ℕ → Option ℤ → Result ℤ RangesFault
value_in place None = Err (Misfit place)
value_in place (Some n) = Ok n

abbrev pub number_in : ℕ → Lexeme → Result ℤ RangesFault
number_in place (name bytes) = Err (Misfit place)
number_in place (number bytes) = value_in place (int_of bytes)
number_in place colon = Err (Misfit place)
number_in place semicolon = Err (Misfit place)
number_in place assign = Err (Misfit place)

-- a position is not negative
abbrev pub position_at : ℕ → ℤ → Result ℕ RangesFault
position_at place (pos n) = Ok n
position_at place (negsuc n) = Err (Misfit place)

abbrev pub position_taken : Memory → ℕ → Result ℕ RangesFault → Outcome Awaiting
position_taken m place (Ok p) = outcome (Ok (Low (record { place = place; position = p }))) m
position_taken m place (Err f) = outcome (Err f) m

abbrev pub range_taken : ℕ → Result (Unit {0}) RangeFault → Result Awaiting RangesFault
range_taken place (Ok x) = Ok Position
range_taken place (Err f) = Err (Range f place)

-- what one number more does: the third of a range sets it
abbrev pub number_taken : Memory → Awaiting → ℕ → ℤ → Outcome Awaiting
number_taken m Position place n = position_taken m place (position_at place n)
number_taken m (Low input) place n = outcome (Ok (High input n)) m
number_taken m (High input low) place n = outcome (range_taken input.place (ranging m input.position low n).answer) (ranging m input.position low n).after

abbrev pub word_taken_as : Memory → Awaiting → ℕ → Result ℤ RangesFault → Outcome Awaiting
word_taken_as m a place (Err f) = outcome (Err f) m
word_taken_as m a place (Ok n) = number_taken m a place n

abbrev pub word_taken : Memory → Awaiting → ℕ → Lexeme → Outcome Awaiting
word_taken m a place w = word_taken_as m a place (number_in place w)

-- a text may end only before a range
abbrev pub ended : Awaiting → ℕ → Result (Unit {0}) RangesFault
ended Position end = Ok tt
ended (Low input) end = Err (Misfit end)
ended (High input low) end = Err (Misfit end)

-- what follows a word; a fault ends the text
abbrev pub further : Result Awaiting RangesFault → Memory → (Awaiting → Memory → Outcome (Unit {0})) → Outcome (Unit {0})
further (Err f) m next = outcome (Err f) m
further (Ok a) m next = next a m

abbrev pub is_name : Lexeme → Bool
is_name (name bytes) = true
is_name (number bytes) = false
is_name colon = false
is_name semicolon = false
is_name assign = false

-- whether a word ends the ranges: at the front of a script a name does, where a range may begin
abbrev pub ends : Until → Awaiting → Lexeme → Bool
ends End a w = false
ends Name Position w = is_name w
ends Name (Low input) w = false
ends Name (High input low) w = false

abbrev pub go_on : Until → List ℕ → Awaiting → Memory → Result (Option (ℕ × Lexeme × ℕ)) WordFault → (ℕ → Awaiting → Memory → Outcome (Unit {0})) → Outcome (Unit {0})
go_on until text a m (Err e) next = outcome (Err (Word e)) m
go_on until text a m (Ok None) next = outcome (ended a (length text)) m
go_on until text a m (Ok (Some x)) next =
    cond (ends until a x.1) (outcome (Ok tt) m)
    (further (word_taken m a x.0 x.1).answer (word_taken m a x.0 x.1).after (next x.2))

-- the effect of the words from the place p on, of which there are fewer than n
abbrev pub taken_from : ℕ → Until → List ℕ → ℕ → Awaiting → Memory → Outcome (Unit {0})
taken_from zero until text p a m = outcome (ended a (length text)) m
taken_from (suc n) until text p a m = go_on until text a m (next_at text p) (λ q b k. taken_from n until text q b k)

-- the effect of all words up to the one that ends the ranges; each takes a byte at least
abbrev pub taken_until : Until → List ℕ → Memory → Outcome (Unit {0})
taken_until until text m = taken_from (length text + 1) until text 0 Position m

-- what the ranges of a text do: a text above 65,535 bytes sets none
abbrev pub setting_until : Until → List ℕ → Memory → Outcome (Unit {0})
setting_until until text m = cond (nat_lt 65535 (length text)) (outcome (Err TooLong) m) (taken_until until text m)

-- what a text of ranges does
abbrev pub setting : List ℕ → Memory → Outcome (Unit {0})
setting text m = setting_until End text m
