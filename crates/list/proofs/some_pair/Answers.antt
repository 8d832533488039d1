use Rattle.std.proofs.Common.{◌≡◌, true, false, List, ℤ, sym, w16, SFits, rules}
use Rattle.std.proofs.lemmas.Int.{to_z-of_z}
use Rattle.std.proofs.lemmas.Iterator.{cases_from_any, YieldsList-from_slice}
use Rattle.list.specs.Loops.{passed, any_is}
use Rattle.list.specs.Numbers.{some_with}
use Rattle.list.proofs.some_pair.Goals as goal

pub returns : goal.returns
returns g c t is =
    let xs : List ℤ = c.args.xs.now in
    let ys : List ℤ = c.args.ys.now in
    any_is (λ a. some_with t a ys) xs _
    (cases_from_any _ _ _ (λ x. some_with t x ys ≡ true) (λ x. some_with t x ys ≡ false) c.any.ensures.ran (YieldsList-from_slice xs (cc))
    (λ x q k.
    let fits : SFits w16 x.now = search rules in
    let told : true ≡ some_with t (passed x.now) ys = search (rules, is) in
    sym (simp to_z-of_z at told))
    (λ x q k.
    let fits : SFits w16 x.now = search rules in
    let told : false ≡ some_with t (passed x.now) ys = search (rules, is) in
    (search rules, sym (simp to_z-of_z at told))))
