-- How a row is carried along a statement: the parts that would stop it are dropped, and the sets' functions do the rest.
use Rattle.std.specs.Prelude.{◌≡◌, ℕ, ◌+◌, Bool as Truth, true, false, cond, not, ◌&&◌, ◌||◌, List, ◌∷◌, drop, Some, None, Option, slice_index_or, slice_set}
use Rattle.domain.specs.Domain.{Ops}
use Rattle.domain.specs.declared.Truth.{Truth as Flags}
use Rattle.syntax.specs.declared.operator.Operator.{Operator}
use Rattle.syntax.specs.declared.operator.Operator.TheVariants.{Ld, Ldn, And, Andn, Or, Orn, Xor, Xorn, Add, Sub, Mul, Div, Gt, Ge, Lt, Le, Eq, Ne}
use Rattle.syntax.specs.declared.operator.Store.{Store}
use Rattle.syntax.specs.declared.operator.Store.TheVariants.{St, Stn, Set, Reset}
use Rattle.syntax.specs.declared.operator.Jump.{Jump}
use Rattle.syntax.specs.declared.operator.Jump.TheVariants.{Jmp, Jmpc, Jmpcn}
use Rattle.syntax.specs.declared.record.Operation.{Operation}
use Rattle.syntax.specs.declared.record.Operation.TheVariants as operation
use Rattle.syntax.specs.declared.record.Variable.{Variable}
use Rattle.cells.specs.declared.value.Value.TheVariants.{Unset}
use Rattle.cells.specs.declared.value.Sort.{Sort}
use Rattle.cells.specs.declared.value.Sort.TheVariants as sort
use Rattle.cells.specs.declared.cell.Cell.{Cell}
use Rattle.cells.specs.Cells.{none, nothing, of_value, has, only, is_vacant}
use Rattle.meaning.specs.Meaning.{accepted, combined, source_of, held_by}
use Rattle.meaning.specs.declared.edge.Edge.{Edge}
use Rattle.meaning.specs.declared.edge.Edge.TheVariants as way
use Rattle.transfer.specs.Rows.{restart_cells}

-- something holds for one of the three sorts
abbrev pub any_sort : (Sort → Truth) → Truth
any_sort f = f sort.Unset || (f sort.Bool || f sort.Int)

-- a result of what a test that answers by calls says of the three sorts
abbrev pub OfSorts : {R : Type 0} → (Sort → Truth → Type 0) → (Truth → Truth → Truth → R) → R → Type 0
OfSorts answers f r = (u : Truth) × (t : Truth) × (n : Truth) × answers sort.Unset u × answers sort.Bool t × answers sort.Int n × (r ≡ f u t n)

-- the same of the four pairs of truths
abbrev pub OfPairs : {R : Type 0} → (Truth → Truth → Truth → Type 0) → (Truth → Truth → Truth → Truth → R) → R → Type 0
OfPairs answers f r = (a : Truth) × (b : Truth) × (c : Truth) × (d : Truth) × answers false false a × answers false true b × answers true false c × answers true true d × (r ≡ f a b c d)

-- the truths exchanged
abbrev pub exchanged : Flags → Flags
exchanged t = record { can_be_true = t.can_be_false; can_be_false = t.can_be_true }

module _ {S : Type 0} (o : Ops S) where
  -- the operand of an operation, where a value is the cell that allows it, and a variable's cell stands after the current result's
  abbrev pub operand_in : List Variable → List (Cell S) → Operation → Cell S
  operand_in vars row op = held_by (of_value o) (λ i. slice_index_or row (i + 1) (nothing o)) (source_of vars op)

  -- the part of the current result that some part of the operand is accepted with, and the other way round
  abbrev pub left_kept : Operation → Cell S → Sort → Truth
  left_kept op y a = any_sort (λ b. has o y b && accepted op a b)

  abbrev pub right_kept : Operation → Cell S → Sort → Truth
  right_kept op x b = any_sort (λ a. has o x a && accepted op a b)

  abbrev pub kept_by : (Sort → Truth) → Cell S → Cell S
  kept_by f x = only o x (f sort.Unset) (f sort.Bool) (f sort.Int)

  -- a cell of truths
  abbrev pub truths : Truth → Truth → Cell S
  truths can_be_false can_be_true = record { unset = false; can_be_false = can_be_false; can_be_true = can_be_true; numbers = none o }

  abbrev pub numbers_only : S → Cell S
  numbers_only n = record { unset = false; can_be_false = false; can_be_true = false; numbers = n }

  abbrev pub flagged : Flags → Cell S
  flagged t = truths t.can_be_false t.can_be_true

  abbrev pub opposites : Cell S → Cell S
  opposites x = truths x.can_be_true x.can_be_false

  -- some allowed pair is said yes of, where a, b, c and d are said of the four pairs
  abbrev pub some_pair : Cell S → Cell S → Truth → Truth → Truth → Truth → Truth
  some_pair x y a b c d =
      (x.can_be_false && (y.can_be_false && a))
      || ((x.can_be_false && (y.can_be_true && b)) || ((x.can_be_true && (y.can_be_false && c)) || (x.can_be_true && (y.can_be_true && d))))

  -- the truths that an operator gives over every allowed pair
  abbrev pub over_pairs : (Truth → Truth → Truth) → Cell S → Cell S → Truth
  over_pairs f x y = some_pair x y (f false false) (f false true) (f true false) (f true true)

  abbrev pub logical : Operator → Cell S → Cell S → Cell S
  logical p x y = truths (over_pairs (λ a b. not (combined p a b)) x y) (over_pairs (combined p) x y)

  -- the cell of the current result after an operator; GT is LT with its sides exchanged, and GE, LE, NE exchange the flags of LT, GT, EQ
  abbrev pub transferred : Operator → Cell S → Cell S → Cell S
  transferred Ld x y = y
  transferred Ldn x y = opposites y
  transferred And x y = logical And x y
  transferred Andn x y = logical Andn x y
  transferred Or x y = logical Or x y
  transferred Orn x y = logical Orn x y
  transferred Xor x y = logical Xor x y
  transferred Xorn x y = logical Xorn x y
  transferred Add x y = numbers_only (o.add x.numbers y.numbers)
  transferred Sub x y = numbers_only (o.sub x.numbers y.numbers)
  transferred Mul x y = numbers_only (o.mul x.numbers y.numbers)
  transferred Div x y = numbers_only (o.div x.numbers y.numbers)
  transferred Gt x y = flagged (o.less y.numbers x.numbers)
  transferred Ge x y = flagged (exchanged (o.less x.numbers y.numbers))
  transferred Lt x y = flagged (o.less x.numbers y.numbers)
  transferred Le x y = flagged (exchanged (o.less y.numbers x.numbers))
  transferred Eq x y = flagged (o.equal x.numbers y.numbers)
  transferred Ne x y = flagged (exchanged (o.equal x.numbers y.numbers))

  -- the cell of a variable after a store of the kept current result x, where y is what was kept of its own
  abbrev pub stored_cell : Store → Cell S → Cell S → Cell S
  stored_cell St x y = x
  stored_cell Stn x y = opposites x
  stored_cell Set x y = truths (x.can_be_false && y.can_be_false) (x.can_be_true || (x.can_be_false && y.can_be_true))
  stored_cell Reset x y = truths (x.can_be_true || (x.can_be_false && y.can_be_false)) (x.can_be_false && y.can_be_true)

  -- a conditional way on leaves the current result only the truth that takes it
  abbrev pub only_truth : Truth → Cell S → Cell S
  only_truth true x = truths false x.can_be_true
  only_truth false x = truths x.can_be_false false

  -- a row with another current result, and with another variable
  abbrev pub with_result : List (Cell S) → Cell S → List (Cell S)
  with_result row x = slice_set row 0 x

  abbrev pub with_variable : List (Cell S) → Cell S → ℕ → Cell S → List (Cell S)
  with_variable row x i c = slice_set (slice_set row 0 x) (i + 1) c

  -- the row that a return leaves: the current result is unset, and a scan starts anew
  abbrev pub return_row : List Variable → List (Cell S) → List (Cell S)
  return_row vars row = of_value o Unset ∷ restart_cells o vars (drop 1 row)

  abbrev pub jump_carried : Jump → Edge → List (Cell S) → Cell S → Option (List (Cell S))
  jump_carried Jmp way.Fall row x = None
  jump_carried Jmp way.Jump row x = Some (with_result row x)
  jump_carried Jmpc way.Fall row x = Some (with_result row (only_truth false x))
  jump_carried Jmpc way.Jump row x = Some (with_result row (only_truth true x))
  jump_carried Jmpcn way.Fall row x = Some (with_result row (only_truth true x))
  jump_carried Jmpcn way.Jump row x = Some (with_result row (only_truth false x))

  abbrev pub on_fall : Edge → List (Cell S) → Option (List (Cell S))
  on_fall way.Fall row = Some row
  on_fall way.Jump row = None

  abbrev pub on_jump : Edge → List (Cell S) → Option (List (Cell S))
  on_jump way.Fall row = None
  on_jump way.Jump row = Some row

  -- the row on each way, where x and y are what is kept of the current result and the operand
  abbrev pub carried_by : List Variable → List (Cell S) → Cell S → Cell S → Operation → Edge → Option (List (Cell S))
  carried_by vars row x y operation.Return edge = on_jump edge (return_row vars row)
  carried_by vars row x y operation.Not edge = on_fall edge (with_result row (opposites x))
  carried_by vars row x y (operation.Label name) edge = on_fall edge (with_result row x)
  carried_by vars row x y (operation.Apply p z) edge = on_fall edge (with_result row (transferred p x y))
  carried_by vars row x y (operation.Store s i) edge = on_fall edge (with_variable row x i (stored_cell s x y))
  carried_by vars row x y (operation.Jump j t) edge = jump_carried j edge row x

  abbrev pub left_of : List Variable → List (Cell S) → Operation → Cell S
  left_of vars row op = kept_by (left_kept op (operand_in vars row op)) (slice_index_or row 0 (nothing o))

  abbrev pub right_of : List Variable → List (Cell S) → Operation → Cell S
  right_of vars row op = kept_by (right_kept op (slice_index_or row 0 (nothing o))) (operand_in vars row op)

  -- where the current result or the operand keeps no part, nothing is carried
  abbrev pub carried : List Variable → List (Cell S) → Operation → Edge → Option (List (Cell S))
  carried vars row op edge =
      cond (is_vacant o (left_of vars row op) || is_vacant o (right_of vars row op)) None
      (carried_by vars row (left_of vars row op) (right_of vars row op) op edge)

-- the statement that a way on leads to, from statement k
abbrev pub target_of : ℕ → Operation → Edge → ℕ
target_of k op way.Fall = k + 1
target_of k operation.Return way.Jump = 0
target_of k operation.Not way.Jump = 0
target_of k (operation.Label name) way.Jump = 0
target_of k (operation.Apply p x) way.Jump = 0
target_of k (operation.Store s i) way.Jump = 0
target_of k (operation.Jump j t) way.Jump = t.statement
