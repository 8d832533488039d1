use Rattle.std.proofs.Common.{◌≡◌, drop}
use Rattle.options.specs.Line.{parsed_from, start}
use Rattle.options.proofs.line.parse.Given as goal

abbrev pub invariant-loop-word : goal.invariant-loop-word
invariant-loop-word l = parsed_from l.progress (drop l.word-index l.words) ≡ parsed_from start l.words
