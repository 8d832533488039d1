use Rattle.std.proofs.Common.{◌≡◌, take, string_bytes, codes, fold}
use Rattle.script.specs.Lines.{with_output}
use Rattle.script.proofs.carrier.outputs.outputs_text.Given as goal

abbrev pub invariant-loop-number : goal.invariant-loop-number
invariant-loop-number l = string_bytes l.out ≡ fold with_output (codes "read") (take l.number-index l.outputs)
