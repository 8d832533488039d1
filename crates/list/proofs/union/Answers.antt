use Rattle.std.proofs.Common.{List, [], ◌++◌, ℤ, fold, sym, ap, ◌∙◌}
use Rattle.list.specs.Insertion.{put_in}
use Rattle.list.specs.InsertionLemmas.{put-many}
use Rattle.std.proofs.lemmas.List.Sums.{fold-append}
use Rattle.list.proofs.union.Goals as goal

pub returns : goal.returns
returns c =
    let xs : List ℤ = c.args.xs.now in
    let ys : List ℤ = c.args.ys.now in
    c.put_all-2.ensures ∙ ap (λ s. fold put_in s ys) c.put_all.ensures ∙ sym (fold-append put_in _ xs ys) ∙ put-many [] (xs ++ ys)
