use Rattle.std.proofs.Common.{◌≡◌, ◌+◌, false, get_or, sym, ap, ◌∙◌, arith, rules}
use Rattle.std.specs.Option.{option_map}
use Rattle.words.specs.Bytes.{closes}
use Rattle.words.proofs.Blanks.{closing-further, closing-nowhere}
use Rattle.words.proofs.scan.closing.Goals as goal

pub loop-length-preserved : goal.loop-length-preserved
loop-length-preserved c =
    let other : closes (get_or c.args.inner.now c.loop-length.length 0) (get_or c.args.inner.now (c.loop-length.length + 1) 0) ≡ false = search rules in
    (omega (arith, c.loop-length-test.true), sym (closing-further c.args.inner.now c.loop-length.length c.loop-length-test.true other) ∙ c.loop-length.invariant.1)

pub returns : goal.returns
returns c = sym (ap (option_map (λ n. n + c.loop-length.length)) (closing-nowhere c.args.inner.now c.loop-length.length (omega (arith, c.loop-length-test.false)))) ∙ c.loop-length.invariant.1
