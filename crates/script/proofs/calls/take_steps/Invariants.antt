use Rattle.std.proofs.Common.{◌≡◌, ◌-◌}
use Rattle.controller.specs.Machine.{machine, code_of}
use Rattle.script.specs.Calls.{steps_told}
use Rattle.script.proofs.calls.take_steps.Given as goal

abbrev pub invariant-loop-step : goal.invariant-loop-step
invariant-loop-step g l = record {
  told : steps_told g.D.Domain.ops (code_of l.initial.controller) l.cells (l.most - l._step) (machine l.controller) ≡ steps_told g.D.Domain.ops (code_of l.initial.controller) l.cells l.most (machine l.initial.controller);
  code : code_of l.controller ≡ code_of l.initial.controller;
}
