use Rattle.std.proofs.Common.{◌≡◌, ◌++◌, take, drop}
use Rattle.controller.specs.Registers.{values_in}
use Rattle.controller.specs.Lists.{begun}
use Rattle.controller.proofs.registers.lists.write_initial.Given as goal

abbrev pub invariant-loop-i : goal.invariant-loop-i
invariant-loop-i l =
    take l.i (values_in l.slots) ++ begun (drop l.i l.variables) (drop l.i (values_in l.slots)) ≡ begun l.variables (values_in l.initial.slots)
