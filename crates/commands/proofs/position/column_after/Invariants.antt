use Rattle.std.proofs.Common.{◌≡◌, ◌+◌, ◌≤◌, take}
use Rattle.commands.specs.Position.{column_after}
use Rattle.commands.proofs.position.column_after.Given as goal

abbrev pub invariant-loop-b : goal.invariant-loop-b
invariant-loop-b l = (l.column ≡ column_after (take l.b-index l.bytes)) × (l.column ≤ l.b-index + 1)
