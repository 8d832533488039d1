use Rattle.std.proofs.Common.{ap, ◌∙◌, arith}
use Rattle.syntax.specs.declared.record.Operation.{Operation}
use Rattle.meaning.specs.Meaning.{perform}
use Rattle.controller.specs.Tallies.{tally}
use Rattle.controller.specs.Registers.{held}
use Rattle.controller.specs.Machine.{machine, advanced}
use Rattle.controller.proofs.Steps.{goes_on, stops}
use Rattle.controller.proofs.controller.Controller.advance.Goals as goal

pub returns-in-Ok-clause-next : goal.returns-in-Ok-clause-next
returns-in-Ok-clause-next c =
    let k = c.args.self.now in
    let m = machine k in
    let o = c.operation_at-operation.result in
    let d = c.in-Ok.ensures in
    let at = c.target-self.ensures.is (omega (arith, k.near, k.short)) in
    goes_on c.args.sight o m (perform k.variables.now o m.memory) c.in-Ok.edge c.phase_after-self.result c.target-self.result (held c.perform.new.self) (tally c.count.new.self) d.answer d.next c.phase_after-self.ensures at c.count.ensures
    ∙ ap (λ (x : Operation). advanced c.args.sight x (perform k.variables.now x m.memory) m) c.operation_at-operation.ensures

pub returns-in-Err-clause-next : goal.returns-in-Err-clause-next
returns-in-Err-clause-next c =
    let k = c.args.self.now in
    let m = machine k in
    let o = c.operation_at-operation.result in
    let d = c.in-Err.ensures in
    stops c.args.sight o m (perform k.variables.now o m.memory) c.in-Err.cause (held c.perform.new.self) c.has.result (tally c.count-in-Err.new.self) d.answer d.next c.has.ensures c.count-in-Err.ensures
    ∙ ap (λ (x : Operation). advanced c.args.sight x (perform k.variables.now x m.memory) m) c.operation_at-operation.ensures
