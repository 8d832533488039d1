use Rattle.std.proofs.Common.{◌≡◌, ◌*ℤ◌, ◌∙◌, rules}
use Rattle.numbers.proofs.Widening.{wide, passed, passed_is, products-fit}
use Rattle.interval.proofs.products.Goals as goal

pub returns : goal.returns
returns c = c.results.ensures ◌*ℤ◌ (λ a b f g r k. let told : r ≡ passed (◌*ℤ◌ (wide a) (wide b)) = search rules in told ∙ passed_is ◌*ℤ◌ products-fit a b f g)
