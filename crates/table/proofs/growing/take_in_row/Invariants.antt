use Rattle.std.proofs.Common.{◌≡◌, ◌+◌, ◌*◌, false, drop}
use Rattle.table.specs.Growing.{grown}
use Rattle.table.proofs.growing.take_in_row.Given as goal

-- what is left of the row gives the answer
abbrev pub invariant-loop-i : goal.invariant-loop-i
invariant-loop-i g l =
    let o = g.D.Domain.ops in
    grown o l.widening l.cells l.changed (l.index * l.width + l.i) (drop l.i l.brought) ≡ grown o l.widening l.initial.cells false (l.index * l.width) l.brought
