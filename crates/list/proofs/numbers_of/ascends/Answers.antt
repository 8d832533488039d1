use Rattle.std.proofs.Common.{rules}
use Rattle.std.proofs.lemmas.List.Sorted.{answers_always}
use lib.Signed.{lt_z}
use Rattle.list.specs.Loops.{ascending-answer}
use Rattle.list.proofs.numbers_of.ascends.Goals as goal

pub returns : goal.returns
returns c = ascending-answer c.args.numbers.now _ (c.is_sorted_by.ensures.cases lt_z (answers_always _ _ _ (λ f a r h k. search rules)))
