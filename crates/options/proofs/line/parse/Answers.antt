use Rattle.std.proofs.Common.{sym, ap, ◌∙◌}
use Rattle.std.proofs.lemmas.Result.{err_from_is_err_and}
use Rattle.options.specs.Line.{taken}
use Rattle.options.proofs.Turns.{word-taken, word-refused, words-all}
use Rattle.options.proofs.line.parse.Goals as goal

pub loop-word-preserved : goal.loop-word-preserved
loop-word-preserved c =
    let p = c.loop-word.progress in
    sym (word-taken c.args.words.now c.loop-word.word-index p c.word-item.result c.loop-word-test.true c.word-item.is c.in_ok-progress.progress (ap (taken p) (sym c.as_bytes.ensures.value) ∙ sym c.in_ok-progress.ensures))
    ∙ c.loop-word.invariant

pub returns-in_err-progress : goal.returns-in_err-progress
returns-in_err-progress c =
    let p = c.loop-word.progress in
    let e = err_from_is_err_and c.from_residual.result c.from_residual.ensures.1 in
    rw (e.1, e.2) (sym (word-refused c.args.words.now c.loop-word.word-index p c.word-item.result c.loop-word-test.true c.word-item.is c.in_err-progress.field-0.0 (ap (taken p) (sym c.as_bytes.ensures.value) ∙ sym c.in_err-progress.ensures))
    ∙ c.loop-word.invariant)

pub returns : goal.returns
returns c = c.finish.ensures ∙ sym (words-all c.args.words.now c.loop-word.word-index c.loop-word.progress c.loop-word-test.false) ∙ c.loop-word.invariant
