-- The list domain: up to eight INTs that ascend strictly, or everything; a record of neither form contains nothing.
use Rattle.std.specs.Prelude.{◌-◌, Bool, true, false, cond, not, ◌&&◌, ◌||◌, List, [], ◌++◌, length, take, replicate, ℤ, pos, ◌+ℤ◌, ◌-ℤ◌, ◌*ℤ◌, Option, ◌==◌, int_le, int_lt, nat_le}
use Rattle.numbers.specs.Arithmetic.{eq_z}
use Rattle.domain.specs.Domain.{Ops}
use Rattle.list.specs.Numbers.{member, all_in, ascending, sorted, counted, pairs, some_pair}
use Rattle.list.specs.Operations.{sum, difference, product, quotient, leaves}
use Rattle.list.specs.declared.NumberList.{NumberList}
use Rattle.list.specs.declared.NumberList.TheVariants.{Everything, Numbers}

-- the set is that of all INTs
abbrev pub is_everything : NumberList → Bool
is_everything Everything = true
is_everything (Numbers count numbers) = false

-- the numbers of a record that lists them in form, else none
abbrev pub listed : NumberList → List ℤ
listed Everything = []
listed (Numbers count numbers) = cond (nat_le count 8 && ascending (take count numbers)) (take count numbers) []

-- the set of just these numbers, which ascend; everything where they exceed eight
abbrev pub packed : List ℤ → NumberList
packed xs = cond (nat_le (length xs) 8) (Numbers (length xs) (xs ++ replicate (8 - length xs) (pos 0))) Everything

-- the smallest set over the numbers
abbrev pub smallest : List ℤ → NumberList
smallest ns = packed (sorted ns)

-- a list without a number
abbrev pub is_empty : NumberList → Bool
is_empty x = not (is_everything x) && length (listed x) == 0

-- every number of x is in y; everything is in no list
abbrev pub is_within : NumberList → NumberList → Bool
is_within x y = is_everything y || (not (is_everything x) && all_in (listed x) (listed y))

-- one answer where a side is an empty list, else another where a side is everything, else a third for two lists
abbrev pub by_sides : {A : Type 0} → NumberList → NumberList → A → A → A → A
by_sides x y none all lists = cond (is_empty x || is_empty y) none (cond (is_everything x || is_everything y) all lists)

-- the results of an operation
abbrev pub results : (ℤ → ℤ → Option ℤ) → NumberList → NumberList → NumberList
results op x y = by_sides x y (packed []) Everything (smallest (pairs op (listed x) (listed y)))

-- whether some pair passes a test
abbrev pub some : (ℤ → ℤ → Bool) → NumberList → NumberList → Bool
some test x y = by_sides x y false true (some_pair test (listed x) (listed y))

-- the functions of the list domain
abbrev pub list_ops : Ops NumberList
list_ops = record {
  span = λ a b. cond (int_lt (a +ℤ pos 7) b) Everything (smallest (counted 8 a b));
  contains = λ x n. is_everything x || member n (listed x);
  within = is_within;
  is_empty = is_empty;
  add = results sum;
  sub = results difference;
  mul = results product;
  div = results quotient;
  add_overflows = some (leaves ◌+ℤ◌);
  sub_overflows = some (leaves ◌-ℤ◌);
  mul_overflows = some (leaves ◌*ℤ◌);
  less = λ x y. record { can_be_true = some int_lt x y; can_be_false = some (λ a b. int_le b a) x y };
  equal = λ x y. record { can_be_true = some eq_z x y; can_be_false = some (λ a b. not (eq_z a b)) x y };
  join = λ x y. cond (is_everything x || is_everything y) Everything (smallest (listed x ++ listed y));
  widen = λ old new. cond (is_empty old || is_within new old) new Everything;
}
