use Rattle.std.proofs.Common.{◌≡◌, ◌+◌, get_or, pos, ap, ◌∙◌, rules, arith}
use Rattle.syntax.specs.Records.{no_variable}
use Rattle.cells.specs.declared.value.Value.TheVariants.{Unset}
use Rattle.controller.specs.Lists.{is_input, one, entered}
use Rattle.controller.proofs.Classed.{one-most}
use Rattle.controller.specs.Registers.{values_in}
use Rattle.controller.proofs.Turns.{given-turn}
use Rattle.controller.proofs.registers.lists.write_inputs.Goals as goal

pub loop-i-preserved : goal.loop-i-preserved
loop-i-preserved c =
    let vs = c.args.variables.now in
    let i = c.loop-i.i in
    let p = c.loop-i.position in
    let v = get_or vs i no_variable in
    let e : c.from-position.result ≡ one (is_input v.declaration.class) = search rules in
    let w : c.enter-value.result ≡ entered v (get_or c.args.numbers.now p (pos 0)) (get_or (values_in c.loop-i.slots) i Unset) = search rules in
    let m = one-most (is_input v.declaration.class) in (
      given-turn vs (values_in c.loop-i.slots) i c.loop-i-test.true (values_in c.store.new.slots) c.enter-value.result c.store.ensures c.args.numbers.now p (p + c.from-position.result) (ap (λ n. p + n) e) w ∙ c.loop-i.invariant.0,
      omega (arith, c.loop-i.invariant.1, e, m),
    )
