use Rattle.std.proofs.Common.{List, get_or, ℤ, pos, fold, sym, refl, ap, ◌∙◌, w16, SFits, rules}
use Rattle.std.proofs.lemmas.List.{at_drop_all}
use Rattle.std.proofs.lemmas.Int.{to_z-of_z}
use Rattle.list.specs.Insertion.{put_in}
use Rattle.list.specs.Numbers.{row, pairs}
use Rattle.list.specs.Loops.{fold_step}
use Rattle.list.proofs.NumberList.put_pairs.Goals as goal

pub loop-a-preserved : goal.loop-a-preserved
loop-a-preserved g c op is =
    let xs : List ℤ = c.args.xs.now in
    let ys : List ℤ = c.args.ys.now in
    let i = c.loop-a.a-index in
    let fits : SFits w16 (get_or xs i (pos 0)) = search rules in
    let one = c.put_row-set.ensures op is ∙ ap (λ z. fold put_in c.loop-a.set (row op z ys)) (to_z-of_z w16 _ fits) in
    fold_step put_in (λ zs. pairs op zs ys) (λ a. row op a ys) (λ _ _. refl) xs i c.loop-a.set c.put_row-set.result (fold put_in c.args.self (pairs op xs ys)) c.loop-a-test.true one (c.loop-a.invariant op is)

pub returns : goal.returns
returns g c op is = sym (at_drop_all (λ zs. fold put_in c.loop-a.set (pairs op zs c.args.ys.now)) c.args.xs.now c.loop-a.a-index c.loop-a-test.false) ∙ c.loop-a.invariant op is
