-- Cells over any numeric domain: which values one allows, and how cells compare and combine.
use Rattle.std.specs.Prelude.{Bool as Truth, true, false, not, cond, ◌&&◌, ◌||◌, ℤ, pos}
use Rattle.domain.specs.Domain.{Ops}
use Rattle.cells.specs.declared.value.Value.{Value}
use Rattle.cells.specs.declared.value.Value.TheVariants.{Unset, Bool, Int}
use Rattle.cells.specs.declared.value.Sort.{Sort}
use Rattle.cells.specs.declared.value.Sort.TheVariants as sort
use Rattle.cells.specs.declared.cell.Cell.{Cell}

-- one flag is on only where the other is
abbrev pub implies : Truth → Truth → Truth
implies a b = not a || b

module _ {S : Type 0} (o : Ops S) where
  -- no numbers: the span from 1 to 0
  abbrev pub none : S
  none = o.span (pos 1) (pos 0)

  abbrev pub nothing : Cell S
  nothing = record { unset = false; can_be_false = false; can_be_true = false; numbers = none }

  abbrev pub either_truth : Cell S
  either_truth = record { unset = false; can_be_false = true; can_be_true = true; numbers = none }

  abbrev pub of_range : ℤ → ℤ → Cell S
  of_range low high = record { unset = false; can_be_false = false; can_be_true = false; numbers = o.span low high }

  -- the cell that allows one value; a number is a one-number span
  abbrev pub of_value : Value → Cell S
  of_value Unset = record { unset = true; can_be_false = false; can_be_true = false; numbers = none }
  of_value (Bool b) = record { unset = false; can_be_false = not b; can_be_true = b; numbers = none }
  of_value (Int n) = of_range n n

  -- a cell covers the values that it allows
  abbrev pub covers : Cell S → Value → Truth
  covers c Unset = c.unset
  covers c (Bool true) = c.can_be_true
  covers c (Bool false) = c.can_be_false
  covers c (Int n) = o.contains c.numbers n

  -- all that the first allows, the second surely does
  abbrev pub within : Cell S → Cell S → Truth
  within x y =
      implies x.unset y.unset
      && (implies x.can_be_false y.can_be_false
      && (implies x.can_be_true y.can_be_true && o.within x.numbers y.numbers))

  abbrev pub joined : Cell S → Cell S → Cell S
  joined x y = record {
    unset = x.unset || y.unset;
    can_be_false = x.can_be_false || y.can_be_false;
    can_be_true = x.can_be_true || y.can_be_true;
    numbers = o.join x.numbers y.numbers;
  }

  -- the join, its numbers widened from those of the first
  abbrev pub widened : Cell S → Cell S → Cell S
  widened x y = record {
    unset = x.unset || y.unset;
    can_be_false = x.can_be_false || y.can_be_false;
    can_be_true = x.can_be_true || y.can_be_true;
    numbers = o.widen x.numbers (o.join x.numbers y.numbers);
  }

  -- all flags are off, and the set is empty
  abbrev pub is_vacant : Cell S → Truth
  is_vacant x = not x.unset && (not x.can_be_false && (not x.can_be_true && o.is_empty x.numbers))

  -- a value of the sort may be allowed
  abbrev pub has : Cell S → Sort → Truth
  has x sort.Unset = x.unset
  has x sort.Bool = x.can_be_false || x.can_be_true
  has x sort.Int = not (o.is_empty x.numbers)

  -- the cell with only those parts that are kept
  abbrev pub only : Cell S → Truth → Truth → Truth → Cell S
  only x unset truths numbers = record {
    unset = x.unset && unset;
    can_be_false = x.can_be_false && truths;
    can_be_true = x.can_be_true && truths;
    numbers = cond numbers x.numbers none;
  }
