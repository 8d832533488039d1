use Rattle.std.proofs.Common.{ap, ◌∙◌}
use Rattle.cells.specs.Values.{value_of}
use Rattle.controller.specs.Registers.{values_in}
use Rattle.controller.proofs.Turns.{begun-turn}
use Rattle.controller.proofs.registers.lists.write_initial.Goals as goal

pub loop-i-preserved : goal.loop-i-preserved
loop-i-preserved c =
    begun-turn c.args.variables.now (values_in c.loop-i.slots) c.loop-i.i c.loop-i-test.true (values_in c.store.new.slots) c.from.result c.store.ensures (c.from.ensures ∙ ap (λ d. value_of d.initial) c.declaration.ensures) ∙ c.loop-i.invariant
