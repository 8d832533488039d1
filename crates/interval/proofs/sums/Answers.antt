use Rattle.std.proofs.Common.{◌≡◌, ◌+ℤ◌, ◌∙◌, rules}
use Rattle.numbers.proofs.Widening.{wide, passed, passed_is, sums-fit}
use Rattle.interval.proofs.sums.Goals as goal

pub returns : goal.returns
returns c = c.results.ensures ◌+ℤ◌ (λ a b f g r k. let told : r ≡ passed (◌+ℤ◌ (wide a) (wide b)) = search rules in told ∙ passed_is ◌+ℤ◌ sums-fit a b f g)
