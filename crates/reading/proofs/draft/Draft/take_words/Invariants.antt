use Rattle.std.proofs.Common.{◌≡◌, ◌-◌, length}
use Rattle.reading.specs.Lent.{draft}
use Rattle.reading.specs.Reading.{taken}
use Rattle.reading.proofs.Turns.{Left}
use Rattle.reading.proofs.draft.Draft.take_words.Given as goal

abbrev pub invariant-loop-name : goal.invariant-loop-name
invariant-loop-name l = record {
  read : l.reader.text.now ≡ l.fn.self.text.now;
  left : Left l.fn.self.text.now l.reader.place (draft l.self) (taken l.fn.self.text.now (draft l.fn.self));
  text : l.self.text.now ≡ l.fn.self.text.now;
  variables : l.self.variables.ghost_name ≡ l.fn.self.variables.ghost_name;
  statements : l.self.statements.ghost_name ≡ l.fn.self.statements.ghost_name;
}

abbrev pub decreases-loop-name : goal.decreases-loop-name
decreases-loop-name l = length l.fn.self.text.now - l.reader.place
