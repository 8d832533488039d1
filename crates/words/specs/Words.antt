-- The words of a text: where each begins, what it is, and where the reading goes on.
use Rattle.std.specs.Prelude.{ℕ, ◌+◌, cond, List, [], ◌∷◌, length, drop, Some, None, Ok, Err, Option, Result, ◌==◌, nat_lt, slice_index, position, zip}
use Rattle.std.specs.List.{between, prefix_len}
use Rattle.std.specs.Char.{is_ascii_digit}
use Rattle.numbers.specs.Int.{is_int}
use Rattle.numbers.specs.Number.{written}
use Rattle.words.specs.declared.word.Class.{Class}
use Rattle.words.specs.declared.word.Class.TheVariants as k
use Rattle.words.specs.declared.word.Run.{Run}
use Rattle.words.specs.declared.word.Run.TheVariants as r
use Rattle.words.specs.declared.word.WordFault.{WordFault}
use Rattle.words.specs.declared.word.WordFault.TheVariants.{Stray, Unclosed, OutsideInt}
use Rattle.words.specs.declared.word.Word.{Word}
use Rattle.words.specs.declared.word.Word.TheVariants as w
use Rattle.words.specs.Bytes.{blank, begins_name, goes_on, opens, closes}

-- outside comments, or inside the one that begins at a place
pub data Where : Type 0 where
  outside : Where
  inside : ℕ → Where

-- where the blanks end, from the place p on, with what is left of the text there
abbrev pub blanks : Where → ℕ → List ℕ → Result ℕ WordFault
blanks outside p [] = Ok p
blanks outside p (b ∷ []) = cond (blank b) (Ok (p + 1)) (Ok p)
blanks outside p (b ∷ c ∷ rest) = cond (blank b) (blanks outside (p + 1) (c ∷ rest)) (cond (opens b c) (blanks (inside p) (p + 2) rest) (Ok p))
blanks (inside q) p [] = Err (Unclosed q)
blanks (inside q) p (b ∷ []) = Err (Unclosed q)
blanks (inside q) p (b ∷ c ∷ rest) = cond (closes b c) (blanks outside (p + 2) rest) (blanks (inside q) (p + 1) (c ∷ rest))

-- how many bytes of a comment stand before the first two that close it; none where it is never closed
abbrev pub closing : List ℕ → Option ℕ
closing inner = position (λ p. closes p.0 p.1) (zip inner (drop 1 inner))

-- what a word is, by its bytes
pub data Lexeme : Type 0 where
  name : List ℕ → Lexeme
  number : List ℕ → Lexeme
  colon : Lexeme
  semicolon : Lexeme
  assign : Lexeme

-- the same of a word that the code holds
abbrev pub seen : Word → Lexeme
seen (w.Name r) = name r.now
seen (w.Number r) = number r.now
seen w.Colon = colon
seen w.Semicolon = semicolon
seen w.Assign = assign

-- what a first byte begins
abbrev pub class_of : ℕ → Class
class_of b = cond (begins_name b) k.Letter (cond (is_ascii_digit b) k.Digit (cond (b == 45) k.Minus (cond (b == 58) k.Colon (cond (b == 59) k.Semicolon k.Other))))

-- the place after the first byte at p and the longest run of bytes behind it that go on with the word
abbrev pub end_at : Run → List ℕ → ℕ → ℕ
end_at run text p = p + 1 + prefix_len (goes_on run) (drop (p + 1) text)

-- the number word that begins at p, if its value lies inside INT
abbrev pub number_at : List ℕ → ℕ → Result (Lexeme × ℕ) WordFault
number_at text p = cond (is_int (written (between p (end_at r.Digits text p) text))) (Ok (number (between p (end_at r.Digits text p) text), end_at r.Digits text p)) (Err (OutsideInt p))

-- the word that begins at p with a byte of a class: a minus wants a digit behind it, and `:=` goes before `:`
abbrev pub word_as : Class → List ℕ → ℕ → Result (Lexeme × ℕ) WordFault
word_as k.Letter text p = Ok (name (between p (end_at r.Name text p) text), end_at r.Name text p)
word_as k.Digit text p = number_at text p
word_as k.Minus text p = cond (is_ascii_digit (slice_index text (p + 1))) (number_at text p) (Err (Stray p))
word_as k.Colon text p = cond (slice_index text (p + 1) == 61) (Ok (assign, p + 2)) (Ok (colon, p + 1))
word_as k.Semicolon text p = Ok (semicolon, p + 1)
word_as k.Other text p = Err (Stray p)

-- the word that begins at the place p, and the place after it
abbrev pub word_at : List ℕ → ℕ → Result (Lexeme × ℕ) WordFault
word_at text p = word_as (class_of (slice_index text p)) text p

-- the same of a word that the code holds
abbrev pub seen_at : Result (Word × ℕ) WordFault → Result (Lexeme × ℕ) WordFault
seen_at (Ok x) = Ok (seen x.0, x.1)
seen_at (Err e) = Err e

abbrev pub placed : ℕ → Result (Lexeme × ℕ) WordFault → Result (Option (ℕ × Lexeme × ℕ)) WordFault
placed q (Ok x) = Ok (Some (q, x.0, x.1))
placed q (Err e) = Err e

abbrev pub past_blanks : List ℕ → Result ℕ WordFault → Result (Option (ℕ × Lexeme × ℕ)) WordFault
past_blanks text (Ok q) = cond (nat_lt q (length text)) (placed q (word_at text q)) (Ok None)
past_blanks text (Err e) = Err e

-- the next word from the place p on: where it begins, what it is and the place after it; none where only blanks are left
abbrev pub next_at : List ℕ → ℕ → Result (Option (ℕ × Lexeme × ℕ)) WordFault
next_at text p = past_blanks text (blanks outside p (drop p text))

-- what the reader answered, with the place that it then stands at
abbrev pub answered : Result (Option (ℕ × Word)) WordFault → ℕ → Result (Option (ℕ × Lexeme × ℕ)) WordFault
answered (Ok None) after = Ok None
answered (Ok (Some x)) after = Ok (Some (x.0, seen x.1, after))
answered (Err e) after = Err e

-- where the reader stands after an answer: a refusal leaves it where it was, and the end of the text takes it there
abbrev pub stands_at : Result (Option (ℕ × Lexeme × ℕ)) WordFault → ℕ → ℕ → ℕ
stands_at (Ok None) end before = end
stands_at (Ok (Some x)) end before = x.2
stands_at (Err e) end before = before
