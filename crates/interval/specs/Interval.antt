-- The interval domain: nothing, or the INTs from a low to a high end; every record whose low is above its high is a nothing.
use Rattle.std.specs.Prelude.{Bool, ◌&&◌, ◌||◌, ◌+ℤ◌, ◌-ℤ◌, ◌*ℤ◌, int_le, int_lt}
use Rattle.numbers.specs.Int.{lowest, highest}
use Rattle.domain.specs.Domain.{Ops}
use Rattle.domain.specs.declared.Truth.{Truth}
use Rattle.interval.specs.Ends.{from_to, ordered, among, inside, hull, results, quotients, cut, leaves, widened}
use Rattle.interval.specs.declared.ends.Ends.{Ends}
use Rattle.interval.specs.declared.Interval.{Interval}

-- an interval as its ends, and back
abbrev pub ends : Interval → Ends
ends x = from_to x.low x.high

abbrev pub interval : Ends → Interval
interval e = record { low = e.low; high = e.high }

-- cut to INT
abbrev pub fitted : Ends → Interval
fitted e = interval (cut lowest highest e)

-- flags that are both off where a side has no number
abbrev pub flags : Ends → Ends → Bool → Bool → Truth
flags x y t f = record { can_be_true = (ordered x && ordered y) && t; can_be_false = (ordered x && ordered y) && f }

-- some number of x is below one of y; some is not
abbrev pub less_flags : Ends → Ends → Truth
less_flags x y = flags x y (int_lt x.low y.high) (int_le y.low x.high)

-- x and y have a number in common; they have two that differ
abbrev pub equal_flags : Ends → Ends → Truth
equal_flags x y = flags x y (int_le x.low y.high && int_le y.low x.high) (int_lt x.low y.high || int_lt y.low x.high)

-- the functions of the interval domain
abbrev pub interval_ops : Ops Interval
interval_ops = record {
  span = λ a b. interval (from_to a b);
  contains = λ x n. among (ends x) n;
  within = λ x y. inside (ends x) (ends y);
  is_empty = λ x. int_lt x.high x.low;
  add = λ x y. fitted (results ◌+ℤ◌ (ends x) (ends y));
  sub = λ x y. fitted (results ◌-ℤ◌ (ends x) (ends y));
  mul = λ x y. fitted (results ◌*ℤ◌ (ends x) (ends y));
  div = λ x y. fitted (quotients (ends x) (ends y));
  add_overflows = λ x y. leaves lowest highest (results ◌+ℤ◌ (ends x) (ends y));
  sub_overflows = λ x y. leaves lowest highest (results ◌-ℤ◌ (ends x) (ends y));
  mul_overflows = λ x y. leaves lowest highest (results ◌*ℤ◌ (ends x) (ends y));
  less = λ x y. less_flags (ends x) (ends y);
  equal = λ x y. equal_flags (ends x) (ends y);
  join = λ x y. interval (hull (ends x) (ends y));
  widen = λ old new. interval (widened lowest highest (ends old) (ends new));
}
