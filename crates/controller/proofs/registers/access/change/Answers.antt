use Rattle.std.proofs.Common.{true, false, sym, ◌∙◌}
use Rattle.std.proofs.lemmas.Bool.{cond-true}
use Rattle.cells.specs.declared.value.Value.TheVariants.{Bool}
use Rattle.controller.proofs.Slots.{stored-within}
use Rattle.controller.proofs.registers.access.change.Goals as goal

pub returns-in-St : goal.returns-in-St
returns-in-St c = let e = stored-within c.args.slots.now c.args.index c.store.new.self c.args.cr c.store.ensures in rw c.in-St.is e

pub returns-in-Stn : goal.returns-in-Stn
returns-in-Stn c = let e = stored-within c.args.slots.now c.args.index c.store-in-Stn.new.self c.negate.result c.store-in-Stn.ensures in rw c.in-Stn.is (rw (← c.negate.ensures) e)

pub returns-in-Set : goal.returns-in-Set
returns-in-Set c = let e = stored-within c.args.slots.now c.args.index c.set.new.self (Bool true) c.set.ensures in rw c.in-Set.is (e ∙ sym (cond-true _ _ _ (sym c.if-truth.ensures)))

pub returns-in-Reset : goal.returns-in-Reset
returns-in-Reset c = let e = stored-within c.args.slots.now c.args.index c.reset.new.self (Bool false) c.reset.ensures in rw c.in-Reset.is (e ∙ sym (cond-true _ _ _ (sym c.if-truth-2.ensures)))
