-- Values: unset, a BOOL or an INT.
use Rattle.std.specs.Prelude.{Bool as Truth, true}
use Rattle.numbers.specs.Int.{is_int}
use Rattle.syntax.specs.declared.record.Constant.{Constant}
use Rattle.syntax.specs.declared.record.Constant.TheVariants as constant
use Rattle.cells.specs.declared.value.Value.{Value}
use Rattle.cells.specs.declared.value.Value.TheVariants.{Unset, Bool, Int}
use Rattle.cells.specs.declared.value.Sort.{Sort}
use Rattle.cells.specs.declared.value.Sort.TheVariants as sort

-- the kind of a value, or that there is none
abbrev pub sort_of : Value → Sort
sort_of Unset = sort.Unset
sort_of (Bool b) = sort.Bool
sort_of (Int n) = sort.Int

-- the value that a constant writes
abbrev pub value_of : Constant → Value
value_of (constant.Bool b) = Bool b
value_of (constant.Int n) = Int n

-- a number lies inside INT
abbrev pub is_sized : Value → Truth
is_sized Unset = true
is_sized (Bool b) = true
is_sized (Int n) = is_int n
