use Rattle.std.proofs.Common.{◌≡◌, eqb, length, drop, Some, fold}
use Rattle.std.specs.List.{slice_split}
use Rattle.notation.specs.Lists.{with_numeral, read_numbers}
use Rattle.notation.proofs.lists.read_numbers.Given as goal

abbrev pub invariant-loop-word : goal.invariant-loop-word
invariant-loop-word l =
    (goal.iterator-loop-word).can_next l.word-iterator ×
    (goal.iterator-loop-word).is_finite l.word-iterator ×
    (fold with_numeral (Some l.list) (drop (length l.yielded) (slice_split (λ b. eqb b 44) l.bytes)) ≡ read_numbers l.bytes)
