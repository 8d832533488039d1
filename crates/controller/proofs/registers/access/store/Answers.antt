use Rattle.controller.proofs.Slots.{stored-within, stored_past}
use Rattle.controller.proofs.registers.access.store.Goals as goal

pub returns-then-index-slots : goal.returns-then-index-slots
returns-then-index-slots c = stored-within c.args.slots.now c.args.index c.store.new.self c.args.value c.store.ensures

pub returns-else-index-slots : goal.returns-else-index-slots
returns-else-index-slots c = stored_past c.args.slots.now c.args.index c.args.value c.if-index-slots.false
