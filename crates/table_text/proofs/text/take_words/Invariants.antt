use Rattle.std.proofs.Common.{◌-◌, ◌≤◌, length}
use Rattle.table_text.specs.Table.{all_taken}
use Rattle.table_text.proofs.Turns.{Left}
use Rattle.table_text.proofs.text.take_words.Given as goal

abbrev pub invariant-loop-gap : goal.invariant-loop-gap
invariant-loop-gap g l =
    (l.gap.end ≤ length l.text)
    × Left g.D.Domain.ops g.D.Notation.read_as l.text l.gap l.progress l.cells (all_taken g.D.Domain.ops g.D.Notation.read_as l.text l.fn.size l.initial.cells)

abbrev pub decreases-loop-gap : goal.decreases-loop-gap
decreases-loop-gap g l = length l.text - l.gap.end
