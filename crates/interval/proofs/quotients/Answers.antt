use Rattle.std.proofs.Common.{◌≡◌, pos, negsuc, ap, ◌∙◌, w16, SFits, rules}
use lib.Signed.{quot_z}
use Rattle.std.specs.Int.{int_min, int_max}
use Rattle.std.proofs.lemmas.Int.{to_z-of_z}
use Rattle.interval.specs.Ends.{results, from_to, negative, positive, hull}
use Rattle.interval.specs.Interval.{ends}
use Rattle.interval.proofs.quotients.Goals as goal

pub returns : goal.returns
returns c =
    let y = c.args.y in
    let low : SFits w16 y.low = search rules in
    let high : SFits w16 y.high = search rules in
    let most : SFits w16 c.min.result = search rules in
    let least : SFits w16 c.max.result = search rules in
    let top : c.min.result ≡ int_min y.high (negsuc 0) = simp to_z-of_z at c.min.ensures.value in
    let bottom : c.max.result ≡ int_max y.low (pos 1) = simp to_z-of_z at c.max.ensures.value in
    let quotients-over = results quot_z (ends c.args.x) in
    let first : c.results.result ≡ quotients-over (from_to y.low c.min.result) = simp to_z-of_z at (c.results.ensures quot_z (λ a b f g r k. search rules)) in
    let second : c.results-2.result ≡ quotients-over (from_to c.max.result y.high) = simp to_z-of_z at (c.results-2.ensures quot_z (λ a b f g r k. search rules)) in
    let below : c.results.result ≡ quotients-over (negative (ends y)) = first ∙ ap (λ h. quotients-over (from_to y.low h)) top in
    let above : c.results-2.result ≡ quotients-over (positive (ends y)) = second ∙ ap (λ l. quotients-over (from_to l y.high)) bottom in
    c.join.ensures ∙ ap (λ e. hull e c.results-2.result) below ∙ ap (hull (quotients-over (negative (ends y)))) above
