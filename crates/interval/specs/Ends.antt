-- Whole numbers from a low end to a high end, over any ends: none where the low end is above the high one.
use Rattle.std.specs.Prelude.{Bool, cond, ◌&&◌, ◌||◌, ℤ, pos, negsuc, int_div, int_le, int_lt}
use Rattle.std.specs.Int.{int_min, int_max}
use Rattle.interval.specs.declared.ends.Ends.{Ends}

-- the numbers from a to b
abbrev pub from_to : ℤ → ℤ → Ends
from_to a b = record { low = a; high = b }

-- no number
abbrev pub none : Ends
none = from_to (pos 1) (pos 0)

-- there is a number
abbrev pub ordered : Ends → Bool
ordered x = int_le x.low x.high

-- n is among them
abbrev pub among : Ends → ℤ → Bool
among x n = int_le x.low n && int_le n x.high

-- all of x are among y
abbrev pub inside : Ends → Ends → Bool
inside x y = int_lt x.high x.low || (int_le y.low x.low && int_le x.high y.high)

-- the smallest over both
abbrev pub hull : Ends → Ends → Ends
hull x y = cond (ordered x) (cond (ordered y) (from_to (int_min x.low y.low) (int_max x.high y.high)) x) y

-- from the least to the greatest of four numbers
abbrev pub least_to_greatest : ℤ → ℤ → ℤ → ℤ → Ends
least_to_greatest p q r s = from_to (int_min (int_min p q) (int_min r s)) (int_max (int_max p q) (int_max r s))

-- from the smallest to the largest result of the ends, none if a side has none
abbrev pub results : (ℤ → ℤ → ℤ) → Ends → Ends → Ends
results op x y =
    cond (ordered x && ordered y)
    (least_to_greatest (op x.low y.low) (op x.low y.high) (op x.high y.low) (op x.high y.high))
    none

-- the parts of a divisor below 0 and above 0
abbrev pub negative : Ends → Ends
negative y = from_to y.low (int_min y.high (negsuc 0))

abbrev pub positive : Ends → Ends
positive y = from_to (int_max y.low (pos 1)) y.high

-- the quotients for both parts of the divisor, and all that lies between
abbrev pub quotients : Ends → Ends → Ends
quotients x y = hull (results int_div x (negative y)) (results int_div x (positive y))

-- what lies from lo to hi
abbrev pub cut : ℤ → ℤ → Ends → Ends
cut lo hi x = cond (int_le (int_max x.low lo) (int_min x.high hi)) (from_to (int_max x.low lo) (int_min x.high hi)) none

-- some number lies outside lo to hi
abbrev pub leaves : ℤ → ℤ → Ends → Bool
leaves lo hi x = ordered x && (int_lt x.low lo || int_lt hi x.high)

-- new, with an end that grew beyond that of old moved out to lo or hi; new itself if either has no number
abbrev pub widened : ℤ → ℤ → Ends → Ends → Ends
widened lo hi old new =
    cond (ordered old && ordered new)
    (from_to (cond (int_lt new.low old.low) (int_min lo new.low) new.low) (cond (int_lt old.high new.high) (int_max hi new.high) new.high))
    new
