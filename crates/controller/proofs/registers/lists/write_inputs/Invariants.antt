use Rattle.std.proofs.Common.{◌≡◌, ◌≤◌, ◌++◌, take, drop}
use Rattle.controller.specs.Registers.{values_in}
use Rattle.controller.specs.Lists.{given as given_to}
use Rattle.controller.proofs.registers.lists.write_inputs.Given as goal

abbrev pub invariant-loop-i : goal.invariant-loop-i
invariant-loop-i l =
    (take l.i (values_in l.slots) ++ given_to l.numbers l.position (drop l.i l.variables) (drop l.i (values_in l.slots))
    ≡ given_to l.numbers 0 l.variables (values_in l.initial.slots))
    × (l.position ≤ l.i)
