use Rattle.std.proofs.Common.{◌≡◌, ◌+◌, ◌++◌, length, take, drop}
use Rattle.controller.specs.Registers.{values_in}
use Rattle.controller.specs.Lists.{output_count, shown}
use Rattle.controller.proofs.registers.lists.write_outputs.Given as goal

abbrev pub invariant-loop-i : goal.invariant-loop-i
invariant-loop-i l =
    (take l.place l.out ++ shown (drop l.i l.variables) (drop l.i (values_in l.slots)) ≡ shown l.variables (values_in l.slots))
    × (l.place + output_count (drop l.i l.variables) ≡ length l.out)
