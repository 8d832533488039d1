use Rattle.std.proofs.Common.{◌≡◌, ◌-◌, ◌≤◌, length, drop}
use Rattle.words.specs.Words.{blanks, outside}
use Rattle.words.proofs.reader.Reader.blanks_end.Given as goal

abbrev pub invariant-loop-place : goal.invariant-loop-place
invariant-loop-place l = (l.self.place ≤ l.place) × (l.place ≤ length l.text) × (blanks outside l.place (drop l.place l.text) ≡ blanks outside l.self.place (drop l.self.place l.text))

abbrev pub decreases-loop-place : goal.decreases-loop-place
decreases-loop-place l = length l.text - l.place
