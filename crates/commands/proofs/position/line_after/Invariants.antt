use Rattle.std.proofs.Common.{◌≡◌, ◌+◌, ◌≤◌, take}
use Rattle.commands.specs.Position.{line_after}
use Rattle.commands.proofs.position.line_after.Given as goal

abbrev pub invariant-loop-b : goal.invariant-loop-b
invariant-loop-b l = (l.line ≡ line_after (take l.b-index l.bytes)) × (l.line ≤ l.b-index + 1)
