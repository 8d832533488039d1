use Rattle.std.proofs.Common.{◌≡◌, take, string_bytes}
use Rattle.notation.specs.Lists.{numbers_text}
use Rattle.notation.proofs.lists.numbers_text.Given as goal

abbrev pub invariant-loop-number : goal.invariant-loop-number
invariant-loop-number l = string_bytes l.out ≡ numbers_text (take l.number-index l.numbers)
