-- Kinds of bytes: blanks, the bytes of names and numbers, and the pairs that open and close a comment.
use Rattle.std.specs.Prelude.{ℕ, Bool, ◌&&◌, ◌||◌, ◌==◌}
use Rattle.std.specs.Char.{is_ascii_alphabetic, is_ascii_digit}
use Rattle.words.specs.declared.word.Run.{Run}
use Rattle.words.specs.declared.word.Run.TheVariants.{Name, Digits}

-- space, tab, carriage return, line feed
abbrev pub blank : ℕ → Bool
blank b = b == 32 || b == 9 || b == 13 || b == 10

-- a letter or an underscore
abbrev pub begins_name : ℕ → Bool
begins_name b = is_ascii_alphabetic b || b == 95

-- a letter, an underscore or a digit
abbrev pub in_name : ℕ → Bool
in_name b = begins_name b || is_ascii_digit b

-- the bytes that go on with a name, or with a number
abbrev pub goes_on : Run → ℕ → Bool
goes_on Name b = in_name b
goes_on Digits b = is_ascii_digit b

-- the two bytes that open a comment: (*
abbrev pub opens : ℕ → ℕ → Bool
opens b c = b == 40 && c == 42

-- the two bytes that close a comment: *)
abbrev pub closes : ℕ → ℕ → Bool
closes b c = b == 42 && c == 41
