use Rattle.std.proofs.Common.{◌≡◌, min, take}
use Rattle.numbers.specs.Number.{decimal}
use Rattle.numbers.proofs.capped.Given as goal

abbrev pub invariant-loop-b : goal.invariant-loop-b
invariant-loop-b g l = l.value ≡ min (decimal (take l.b-index l.digits)) g.row.MOST
