-- Intervals as text: `low..high`.
use Rattle.std.specs.Prelude.{ℕ, ◌+◌, cond, not, ◌&&◌, List, [], ◌++◌, length, take, drop, ℤ, Some, None, codes, Option, ◌==◌, int_lt, nat_lt, slice_index}
use Rattle.std.specs.Fmt.{signed_decimal}
use Rattle.std.specs.List.{prefix_len}
use Rattle.interval.specs.declared.Interval.{Interval}
use Rattle.notation.specs.Numerals.{numeral}

-- how many bytes stand before the first full stop (46)
abbrev pub before_stop : List ℕ → ℕ
before_stop bytes = prefix_len (λ b. not (b == 46)) bytes

-- the interval between two numbers, as they stand
abbrev pub from_to : Option ℤ → Option ℤ → Option Interval
from_to None high = None
from_to (Some a) None = None
from_to (Some a) (Some b) = Some (record { low = a; high = b })

-- a numeral, two full stops and a numeral
abbrev pub read_interval : List ℕ → Option Interval
read_interval bytes = cond (nat_lt (before_stop bytes + 1) (length bytes) && slice_index bytes (before_stop bytes + 1) == 46) (from_to (numeral (take (before_stop bytes) bytes)) (numeral (drop (before_stop bytes + 2) bytes))) None

-- two numbers with two full stops between them
abbrev pub ends_text : ℤ → ℤ → List ℕ
ends_text low high = signed_decimal low ++ (codes ".." ++ signed_decimal high)

-- the text of an interval; nothing where its low is above its high
abbrev pub interval_text : Interval → List ℕ
interval_text x = cond (int_lt x.high x.low) [] (ends_text x.low x.high)
