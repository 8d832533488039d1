-- The number and the place that each fault of the words tells.
use Rattle.std.specs.Prelude.{ℕ}
use Rattle.words.specs.declared.word.WordFault.{WordFault}
use Rattle.words.specs.declared.word.WordFault.TheVariants.{Stray, Unclosed, OutsideInt}

-- 2: a byte that begins no word; 3: a comment never closed; 4: a number outside INT
abbrev pub word_number : WordFault → ℕ
word_number (Stray p) = 2
word_number (Unclosed p) = 3
word_number (OutsideInt p) = 4

-- where the byte, the comment or the number begins
abbrev pub word_place : WordFault → ℕ
word_place (Stray p) = p
word_place (Unclosed p) = p
word_place (OutsideInt p) = p
