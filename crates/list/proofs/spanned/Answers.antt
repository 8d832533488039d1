use Rattle.std.proofs.Common.{[], fold, ap, ◌∙◌, w16, SFits, rules}
use Rattle.std.proofs.lemmas.Int.{to_z-of_z}
use Rattle.list.specs.Insertion.{put_in}
use Rattle.list.specs.NumberList.{packed}
use Rattle.list.specs.Numbers.{counted}
use Rattle.list.specs.InsertionLemmas.{put-many}
use Rattle.list.specs.Loops.{passed}
use Rattle.list.proofs.spanned.Goals as goal

pub returns : goal.returns
returns c =
    let a = c.args.low in
    let b = c.args.high in
    let low : SFits w16 a = search rules in
    let high : SFits w16 b = search rules in
    c.count_up.ensures
    ∙ ap (λ z. fold put_in (packed []) (counted 8 z (passed b))) (to_z-of_z w16 a low)
    ∙ ap (λ z. fold put_in (packed []) (counted 8 a z)) (to_z-of_z w16 b high)
    ∙ put-many [] (counted 8 a b)
