-- Input numbers and output numbers, in the order in which the variables are declared.
use Rattle.std.specs.Prelude.{ℕ, ◌+◌, Bool as Truth, true, false, cond, not, ◌&&◌, List, [], ◌∷◌, replicate, ℤ, pos, Some, None, Option, int_le, slice_index_or}
use Rattle.numbers.specs.Int.{is_int}
use Rattle.numbers.specs.Arithmetic.{eq_z}
use Rattle.syntax.specs.declared.record.Class.{Class}
use Rattle.syntax.specs.declared.record.Class.TheVariants.{Local, Input, Output}
use Rattle.syntax.specs.declared.record.Constant.{Constant}
use Rattle.syntax.specs.declared.record.Constant.TheVariants as constant
use Rattle.syntax.specs.declared.record.Variable.{Variable}
use Rattle.cells.specs.declared.value.Value.{Value}
use Rattle.cells.specs.declared.value.Value.TheVariants.{Unset, Bool, Int}
use Rattle.cells.specs.Values.{value_of}
use Rattle.meaning.specs.Meaning.{State}

abbrev pub is_local : Class → Truth
is_local Local = true
is_local Input = false
is_local Output = false

abbrev pub is_input : Class → Truth
is_input Local = false
is_input Input = true
is_input Output = false

abbrev pub is_output : Class → Truth
is_output Local = false
is_output Input = false
is_output Output = true

abbrev pub same_class : Class → Class → Truth
same_class Local c = is_local c
same_class Input c = is_input c
same_class Output c = is_output c

abbrev pub one : Truth → ℕ
one b = cond b 1 0

-- how many variables have a class, how many are inputs and how many are outputs
abbrev pub class_count : Class → List Variable → ℕ
class_count c [] = 0
class_count c (v ∷ vs) = one (same_class c v.declaration.class) + class_count c vs

abbrev pub input_count : List Variable → ℕ
input_count vs = class_count Input vs

abbrev pub output_count : List Variable → ℕ
output_count vs = class_count Output vs

-- a number lies between two others, or is one of them
abbrev pub between : ℤ → ℤ → ℤ → Truth
between low high x = int_le low x && int_le x high

-- the numbers that an input takes: a BOOL 0 and 1, an INT those of its range
abbrev pub takes : Constant → Variable → ℤ → Truth
takes (constant.Bool b) v x = between (pos 0) (pos 1) x
takes (constant.Int n) v x = between v.range.low v.range.high x

-- the value that a number stands for; no range has a number outside INT
abbrev pub value_for : Constant → ℤ → Value
value_for (constant.Bool b) x = Bool (eq_z x (pos 1))
value_for (constant.Int n) x = cond (is_int x) (Int x) Unset

-- a variable is an input that does not take the number
abbrev pub refuses : Variable → ℤ → Truth
refuses v x = is_input v.declaration.class && not (takes v.declaration.initial v x)

-- the position of the first number that its input does not take; the numbers from position k are for the inputs among the variables
abbrev pub first_bad : List ℤ → ℕ → List Variable → Option ℕ
first_bad xs k [] = None
first_bad xs k (v ∷ vs) =
    cond (refuses v (slice_index_or xs k (pos 0))) (Some k) (first_bad xs (k + one (is_input v.declaration.class)) vs)

-- the value of a variable when a scan starts with a number: an input's is that of the number, the others keep theirs
abbrev pub entered : Variable → ℤ → Value → Value
entered v x w = cond (is_input v.declaration.class) (value_for v.declaration.initial x) w

abbrev pub given : List ℤ → ℕ → List Variable → List Value → List Value
given xs k [] ws = ws
given xs k (v ∷ vs) [] = []
given xs k (v ∷ vs) (w ∷ ws) = entered v (slice_index_or xs k (pos 0)) w ∷ given xs (k + one (is_input v.declaration.class)) vs ws

-- the variables' initial values, over other values
abbrev pub begun : List Variable → List Value → List Value
begun [] ws = ws
begun (v ∷ vs) [] = []
begun (v ∷ vs) (w ∷ ws) = value_of v.declaration.initial ∷ begun vs ws

-- a new controller's values: 64 of them, the variables' first, and the current result unset
abbrev pub initially : List Variable → State
initially vs = record { cr = Unset; values = begun vs (replicate 64 Unset) }

-- the number that an output shows: FALSE 0, TRUE 1, an INT itself
abbrev pub shown_as : Value → ℤ
shown_as Unset = pos 0
shown_as (Bool true) = pos 1
shown_as (Bool false) = pos 0
shown_as (Int n) = n

-- the outputs' numbers
abbrev pub shown : List Variable → List Value → List ℤ
shown [] ws = []
shown (v ∷ vs) [] = cond (is_output v.declaration.class) (pos 0 ∷ shown vs []) (shown vs [])
shown (v ∷ vs) (w ∷ ws) = cond (is_output v.declaration.class) (shown_as w ∷ shown vs ws) (shown vs ws)
