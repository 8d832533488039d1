use Rattle.std.proofs.Common.{◌≡◌, ◌+◌, ◌-◌, ◌≤◌, length, drop}
use Rattle.std.specs.Option.{option_map}
use Rattle.words.specs.Words.{closing}
use Rattle.words.proofs.scan.closing.Given as goal

abbrev pub invariant-loop-length : goal.invariant-loop-length
invariant-loop-length l = (l.length ≤ length l.inner) × (option_map (λ n. n + l.length) (closing (drop l.length l.inner)) ≡ closing l.inner)

abbrev pub decreases-loop-length : goal.decreases-loop-length
decreases-loop-length l = length l.inner - l.length
