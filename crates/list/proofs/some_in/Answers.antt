use Rattle.std.proofs.Common.{◌≡◌, true, false, List, ℤ, sym, w16, SFits, rules}
use Rattle.std.proofs.lemmas.Int.{to_z-of_z}
use Rattle.std.proofs.lemmas.Iterator.{cases_from_any, YieldsList-from_slice}
use Rattle.list.specs.Loops.{passed, any_is}
use Rattle.list.proofs.some_in.Goals as goal

pub returns : goal.returns
returns g c t is =
    let ns : List ℤ = c.args.numbers.now in
    let a = c.args.a in
    let whole : SFits w16 a = search rules in
    any_is (t a) ns _
    (cases_from_any _ _ _ (λ x. t a x ≡ true) (λ x. t a x ≡ false) c.any.ensures.ran (YieldsList-from_slice ns (cc))
    (λ x q k.
    let fits : SFits w16 x.now = search rules in
    let told : true ≡ t (passed a) (passed x.now) = is (passed a) (passed x.now) (search rules) (search rules) true (search rules) in
    sym (simp to_z-of_z at told))
    (λ x q k.
    let fits : SFits w16 x.now = search rules in
    let told : false ≡ t (passed a) (passed x.now) = is (passed a) (passed x.now) (search rules) (search rules) false (search rules) in
    (search rules, sym (simp to_z-of_z at told))))
