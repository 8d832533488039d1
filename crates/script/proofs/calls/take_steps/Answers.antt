use Rattle.std.proofs.Common.{◌≡◌, ◌-◌, ◌+◌, Err, sym, ap, ◌∙◌, arith, rules}
use Rattle.controller.specs.Machine.{machine, code_of}
use Rattle.script.specs.Lines.{stands_as, line_for}
use Rattle.script.proofs.Steps.{steps-none, steps-still, steps-more, steps-refused}
use Rattle.script.proofs.calls.take_steps.Goals as goal

pub loop-step-preserved : goal.loop-step-preserved
loop-step-preserved g c = record {
  told =
      steps-more g.D.Domain.ops (code_of c.args.controller.now) c.args.cells.now (machine c.loop-step.controller) _ (c.args.most - c.loop-step._step) (c.args.most - (c.loop-step._step + 1)) (omega arith)
      c.loop-step.invariant.told (sym c.in-Running.ensures) _ c.loop-step.invariant.code _ _ (sym c.step.ensures.reply.answer ∙ c.in_ok-step-in-Running.was) c.step.ensures.reply.next;
  code = c.step.ensures.reply.same ∙ c.loop-step.invariant.code;
}

pub returns-in_err-step-in-Running : goal.returns-in_err-step-in-Running
returns-in_err-step-in-Running g c =
    let f : c.from_residual.result ≡ Err c.in_err-step-in-Running.field-0.0 = search rules in
    let k : (c.args.most - c.loop-step._step) ≡ (c.args.most - (c.loop-step._step + 1)) + 1 = omega arith in
    let e =
    steps-refused g.D.Domain.ops (code_of c.args.controller.now) c.args.cells.now (machine c.loop-step.controller) _ (c.args.most - c.loop-step._step) (c.args.most - (c.loop-step._step + 1)) k
    c.loop-step.invariant.told (sym c.in-Running.ensures) _ c.loop-step.invariant.code _ (sym c.step.ensures.reply.answer ∙ c.in_err-step-in-Running.was) in
    record {
      line_is = ap (λ r. line_for r (stands_as (machine c.step.new.self))) f ∙ ap (λ t. t.line) e;
      next = c.step.ensures.reply.next ∙ ap (λ t. t.next) e;
      same = c.step.ensures.reply.same ∙ c.loop-step.invariant.code;
    }

pub returns-after-loop-step : goal.returns-after-loop-step
returns-after-loop-step g c =
    let e = steps-none g.D.Domain.ops _ c.args.cells.now (machine c.loop-step.controller) _ (c.args.most - c.loop-step._step) c.loop-step.invariant.told (omega arith) in
    record { line_is = ap (λ t. t.line) e; next = ap (λ t. t.next) e; same = c.loop-step.invariant.code }

pub returns-in-Waiting : goal.returns-in-Waiting
returns-in-Waiting g c =
    let e = steps-still g.D.Domain.ops _ c.args.cells.now (machine c.loop-step.controller) _ (c.args.most - c.loop-step._step) c.loop-step.invariant.told c.phase.result c.phase.ensures c.in-Waiting.is in
    record { line_is = ap (λ t. t.line) e; next = ap (λ t. t.next) e; same = c.loop-step.invariant.code }
