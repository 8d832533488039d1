use Rattle.std.proofs.Common.{◌≡◌, ◌-◌, length}
use Rattle.program.specs.Model.{memory}
use Rattle.ranges.specs.Ranges.{taken_until}
use Rattle.ranges.proofs.Turns.{Left}
use Rattle.ranges.proofs.text.take_words.Given as goal

abbrev pub invariant-loop-place : goal.invariant-loop-place
invariant-loop-place l = record {
  read : l.reader.text.now ≡ l.text;
  left : Left l.until l.text l.reader.place l.awaiting (memory l.program) (taken_until l.until l.text (memory l.fn.program));
  variables : l.program.variables.ghost_name ≡ l.fn.program.variables.ghost_name;
  statements : l.program.statements.ghost_name ≡ l.fn.program.statements.ghost_name;
}

abbrev pub decreases-loop-place : goal.decreases-loop-place
decreases-loop-place l = length l.text - l.reader.place
