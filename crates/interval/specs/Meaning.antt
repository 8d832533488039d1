-- What the interval domain's functions mean, and the laws that it keeps, from the facts of ends at the ends of INT.
use Rattle.std.specs.Prelude.{◌≡◌, true, ℤ, pos, ◌+ℤ◌, ◌-ℤ◌, ◌*ℤ◌, ◌≢◌, int_div, int_lt}
use Rattle.std.proofs.Common.{arith}
use Rattle.std.proofs.lemmas.Int.{ints}
use Rattle.std.proofs.lemmas.Bool.{and_parts, and_from, and_right}
use Rattle.std.proofs.lemmas.Bool.Decides.{nat_tests}
use Rattle.numbers.specs.Arithmetic.{eq_z}
use Rattle.numbers.specs.Int.{is_int, lowest, highest}
use Rattle.domain.specs.Domain.{Lawful, holds, allows, HoldsResults, AsksOverflow}
use Rattle.numbers.proofs.Comparisons.{below-test, int-between}
use Rattle.interval.specs.Ends.{from_to, among, hull, results, quotients, leaves}
use Rattle.interval.specs.Interval.{ends, fitted, interval_ops}
use Rattle.interval.specs.declared.ends.Ends.{Ends}
use Rattle.interval.specs.declared.Interval.{Interval}
use Rattle.interval.specs.Edges.{Edged, results-among, quotients-among, sums-edged, differences-edged, products-edged}
use Rattle.interval.specs.Order as order

-- what an interval holds is among its ends
held : (x : Interval) (a : ℤ) → holds interval_ops x a ≡ true → among (ends x) a ≡ true
held x a h = (and_parts _ _ h).1

-- the results of an operation that lies between its ends, cut to INT, hold each result inside INT
results-hold : (op : ℤ → ℤ → ℤ) → ((x y : Ends) → Edged op x y) → HoldsResults interval_ops (λ x y. fitted (results op (ends x) (ends y))) op
results-hold op edged x y a b h k i = and_from _ _ i (order.cut-among lowest highest (results op (ends x) (ends y)) (op a b) i (results-among op (ends x) (ends y) (edged (ends x) (ends y)) a b (held x a h) (held y b k)))

-- before the cut they tell of each result outside INT
results-ask : (op : ℤ → ℤ → ℤ) → ((x y : Ends) → Edged op x y) → AsksOverflow interval_ops (λ x y. leaves lowest highest (results op (ends x) (ends y))) op
results-ask op edged x y a b h k i = order.leaves-says lowest highest (results op (ends x) (ends y)) (op a b) i (results-among op (ends x) (ends y) (edged (ends x) (ends y)) a b (held x a h) (held y b k))

quotients-hold : (x y : Interval) (a b : ℤ) → holds interval_ops x a ≡ true → holds interval_ops y b ≡ true → (b ≢ pos 0) → is_int (int_div a b) ≡ true → holds interval_ops (fitted (quotients (ends x) (ends y))) (int_div a b) ≡ true
quotients-hold x y a b h k nz i = and_from _ _ i (order.cut-among lowest highest (quotients (ends x) (ends y)) (int_div a b) i (quotients-among (ends x) (ends y) a b (held x a h) (held y b k) nz))

less-allows : (x y : Interval) (a b : ℤ) → among (ends x) a ≡ true → among (ends y) b ≡ true → allows (interval_ops.less x y) (int_lt a b) ≡ true
less-allows x y a b h k = grind (arith, ints, nat_tests)

equal-allows : (x y : Interval) (a b : ℤ) → among (ends x) a ≡ true → among (ends y) b ≡ true → allows (interval_ops.equal x y) (eq_z a b) ≡ true
equal-allows x y a b h k = grind (arith, ints, nat_tests)

pub lawful : Lawful interval_ops
lawful = record {
  span_holds = λ a b n i j h k. and_from _ _ (int-between a b n i j h k) (order.span-among a b n h k);
  span_holds_none = λ a b n i j h. and_right _ _ (order.among_none (from_to a b) n (below-test b a h));
  within_holds = λ s t n w h. and_from _ _ (and_parts _ _ h).0 (order.inside-among (ends s) (ends t) n w (held s n h));
  empty_holds = λ s n e. and_right _ _ (order.among_none (ends s) n e);
  add_holds = results-hold ◌+ℤ◌ sums-edged;
  sub_holds = results-hold ◌-ℤ◌ differences-edged;
  mul_holds = results-hold ◌*ℤ◌ products-edged;
  div_holds = quotients-hold;
  add_asks = results-ask ◌+ℤ◌ sums-edged;
  sub_asks = results-ask ◌-ℤ◌ differences-edged;
  mul_asks = results-ask ◌*ℤ◌ products-edged;
  less_flags = λ s t a b h k. less-allows s t a b (held s a h) (held t b k);
  equal_flags = λ s t a b h k. equal-allows s t a b (held s a h) (held t b k);
  empty_span = λ a b i j h. below-test b a h;
  empty_span_within = λ a b s i j h. order.inside-none (from_to a b) (ends s) (below-test b a h);
  within_refl = λ s. order.inside-refl (ends s);
  within_trans = λ s t u. order.inside-trans (ends s) (ends t) (ends u);
  join_left = λ s t. order.hull-left (ends s) (ends t);
  join_right = λ s t. order.hull-right (ends s) (ends t);
  join_least = λ s t u. order.hull-least (ends s) (ends t) (ends u);
  join_widen = λ s t. order.inside-widened lowest highest (ends s) (hull (ends s) (ends t));
  within_empty = λ s t. order.none_inside (ends s) (ends t);
}
