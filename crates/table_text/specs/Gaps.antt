-- Words are runs of bytes other than space, tab, carriage return and line feed.
use Rattle.std.specs.Prelude.{ℕ, ◌+◌, not, List, drop, ◌==◌}
use Rattle.std.specs.List.{prefix_len, between, list_any}
use Rattle.words.specs.Bytes.{blank}
use Rattle.table_text.specs.declared.gaps.Gap.{Gap}

-- where the blanks from the place p on end
abbrev pub blanks_end : List ℕ → ℕ → ℕ
blanks_end text p = p + prefix_len blank (drop p text)

-- the blanks from the place p on: where they end, and whether a line feed (10) is one of them
abbrev pub gap_from : List ℕ → ℕ → Gap
gap_from text p = record { end = blanks_end text p; line = list_any (λ b. b == 10) (between p (blanks_end text p) text) }

-- the place after the word whose first byte stands at p
abbrev pub word_end : List ℕ → ℕ → ℕ
word_end text p = p + 1 + prefix_len (λ b. not (blank b)) (drop (p + 1) text)
