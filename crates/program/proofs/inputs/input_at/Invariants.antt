use Rattle.std.proofs.Common.{◌≡◌, drop}
use Rattle.program.specs.Model.{input_from}
use Rattle.program.proofs.inputs.input_at.Given as goal

abbrev pub invariant-loop-index : goal.invariant-loop-index
invariant-loop-index l = input_from l.index (drop l.index l.variables) l.left ≡ input_from 0 l.variables l.position
