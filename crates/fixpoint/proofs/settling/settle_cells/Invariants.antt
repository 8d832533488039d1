use Rattle.std.proofs.Common.{◌≡◌, ◌-◌}
use Rattle.fixpoint.specs.Sweeps.{swept}
use Rattle.fixpoint.specs.Settling.{settled_from}
use Rattle.fixpoint.proofs.settling.settle_cells.Given as goal

-- the sweeps that are left give the answer
abbrev pub invariant-loop-done : goal.invariant-loop-done
invariant-loop-done g l =
    let sweep = swept g.D.Domain.ops (record { variables = l.variables; statements = l.statements }) in
    settled_from sweep l.done (l.sweeps - l.done) l.cells ≡ settled_from sweep 0 l.sweeps l.initial.cells
