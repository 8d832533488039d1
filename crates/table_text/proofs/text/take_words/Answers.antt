use Rattle.std.proofs.Common.{◌+◌, length, Err, ap, ◌∙◌, arith}
use Rattle.std.proofs.lemmas.Result.{err_from_is_err_and}
use Rattle.table_text.specs.Gaps.{gap_from}
use Rattle.table_text.specs.Table.{outcome, start, taken_from}
use Rattle.table_text.proofs.Turns.{text-ended, refused, more, read_as, behind}
use Rattle.table_text.proofs.text.take_words.Goals as goal

pub loop-gap-init : goal.loop-gap-init
loop-gap-init g c = (
  omega arith,
  record {
    turns = length c.args.text.now + 1;
    enough = omega arith;
    gives = ap (λ n. taken_from g.D.Domain.ops g.D.Notation.read_as (length c.args.text.now + 1) c.args.text.now n (start c.args.size) c.args.cells.now) c.gap_from-gap.ensures.is;
  },
)

pub returns-in_err-progress : goal.returns-in_err-progress
returns-in_err-progress g c =
    let e = err_from_is_err_and c.from_residual.result c.from_residual.ensures.1 in
    read_as (ap (λ r. outcome r c.take_word.new.cells) (e.1 ∙ ap Err e.2) ∙ refused c.loop-gap.invariant.1 c.loop-gap-test.true _ _ (behind c.loop-gap.invariant.1 _ c.word_end-after.ensures.is _ _ c.take_word.ensures) _ c.in_err-progress.was)

pub loop-gap-preserved : goal.loop-gap-preserved
loop-gap-preserved g c = (
  omega arith,
  more c.loop-gap.invariant.1 c.loop-gap-test.true _ _ (behind c.loop-gap.invariant.1 _ c.word_end-after.ensures.is _ _ c.take_word.ensures) _ c.in_ok-progress.was c.gap_from-gap-in-loop-gap.result
      (c.gap_from-gap-in-loop-gap.ensures.is ∙ ap (gap_from c.args.text.now) c.word_end-after.ensures.is)
      (omega arith) (omega arith),
)

pub returns : goal.returns
returns g c = read_as (ap (λ r. outcome r c.loop-gap.cells) c.end.ensures ∙ text-ended c.loop-gap.invariant.1 c.loop-gap-test.false)
