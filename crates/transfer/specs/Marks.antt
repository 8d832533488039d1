-- The marks of a row before its statement: what could stop it there, or that it is never reached.
use Rattle.std.specs.Prelude.{ℕ, ◌+◌, Bool as Truth, true, false, cond, not, ◌&&◌, List, pos, negsuc, slice_index_or}
use Rattle.domain.specs.Domain.{Ops}
use Rattle.numbers.specs.Int.{lowest}
use Rattle.syntax.specs.declared.operator.Operator.{Operator}
use Rattle.syntax.specs.declared.operator.Operator.TheVariants.{Ld, Ldn, And, Andn, Or, Orn, Xor, Xorn, Add, Sub, Mul, Div, Gt, Ge, Lt, Le, Eq, Ne}
use Rattle.syntax.specs.declared.record.Operation.{Operation}
use Rattle.syntax.specs.declared.record.Operation.TheVariants as operation
use Rattle.syntax.specs.declared.record.Variable.{Variable}
use Rattle.cells.specs.declared.cell.Cell.{Cell}
use Rattle.cells.specs.Cells.{nothing, has}
use Rattle.meaning.specs.declared.compute.Cause.{Cause}
use Rattle.meaning.specs.declared.compute.Cause.TheVariants.{Kind, ZeroDivisor, Overflow}
use Rattle.meaning.specs.Meaning.{accepted}
use Rattle.transfer.specs.declared.marks.Marks.{Marks}
use Rattle.transfer.specs.Rows.{is_unreachable}
use Rattle.transfer.specs.Transfer.{any_sort, operand_in}

abbrev pub bit : Truth → ℕ → ℕ
bit b n = cond b n 0

-- the number of some marks: N 8, K 4, Z 2, O 1
abbrev pub number_of : Marks → ℕ
number_of m = bit m.unreachable 8 + (bit m.kind 4 + (bit m.zero_divisor 2 + bit m.overflow 1))

-- the marks have the mark of a cause
abbrev pub has_cause : Marks → Cause → Truth
has_cause m Kind = m.kind
has_cause m ZeroDivisor = m.zero_divisor
has_cause m Overflow = m.overflow

abbrev pub unreachable_marks : Marks
unreachable_marks = record { overflow = false; zero_divisor = false; kind = false; unreachable = true }

module _ {S : Type 0} (o : Ops S) where
  -- K: the current result and the operand allow parts that are not accepted together
  abbrev pub kind_mark : Operation → Cell S → Cell S → Truth
  kind_mark op x y = any_sort (λ a. any_sort (λ b. has o x a && (has o y b && not (accepted op a b))))

  -- Z: DIV, where the current result may be a number and the operand contains 0
  abbrev pub zero_by : Operator → Cell S → Cell S → Truth
  zero_by Ld x y = false
  zero_by Ldn x y = false
  zero_by And x y = false
  zero_by Andn x y = false
  zero_by Or x y = false
  zero_by Orn x y = false
  zero_by Xor x y = false
  zero_by Xorn x y = false
  zero_by Add x y = false
  zero_by Sub x y = false
  zero_by Mul x y = false
  zero_by Div x y = not (o.is_empty x.numbers) && o.contains y.numbers (pos 0)
  zero_by Gt x y = false
  zero_by Ge x y = false
  zero_by Lt x y = false
  zero_by Le x y = false
  zero_by Eq x y = false
  zero_by Ne x y = false

  -- O: the overflow question, on the sets as they are; or −32768 by −1
  abbrev pub overflow_by : Operator → Cell S → Cell S → Truth
  overflow_by Ld x y = false
  overflow_by Ldn x y = false
  overflow_by And x y = false
  overflow_by Andn x y = false
  overflow_by Or x y = false
  overflow_by Orn x y = false
  overflow_by Xor x y = false
  overflow_by Xorn x y = false
  overflow_by Add x y = o.add_overflows x.numbers y.numbers
  overflow_by Sub x y = o.sub_overflows x.numbers y.numbers
  overflow_by Mul x y = o.mul_overflows x.numbers y.numbers
  overflow_by Div x y = o.contains x.numbers lowest && o.contains y.numbers (negsuc 0)
  overflow_by Gt x y = false
  overflow_by Ge x y = false
  overflow_by Lt x y = false
  overflow_by Le x y = false
  overflow_by Eq x y = false
  overflow_by Ne x y = false

  abbrev pub zero_mark : Operation → Cell S → Cell S → Truth
  zero_mark operation.Return x y = false
  zero_mark operation.Not x y = false
  zero_mark (operation.Label name) x y = false
  zero_mark (operation.Apply p z) x y = zero_by p x y
  zero_mark (operation.Store s i) x y = false
  zero_mark (operation.Jump j t) x y = false

  abbrev pub overflow_mark : Operation → Cell S → Cell S → Truth
  overflow_mark operation.Return x y = false
  overflow_mark operation.Not x y = false
  overflow_mark (operation.Label name) x y = false
  overflow_mark (operation.Apply p z) x y = overflow_by p x y
  overflow_mark (operation.Store s i) x y = false
  overflow_mark (operation.Jump j t) x y = false

  abbrev pub marks_by : Operation → Cell S → Cell S → Marks
  marks_by op x y = record { overflow = overflow_mark op x y; zero_divisor = zero_mark op x y; kind = kind_mark op x y; unreachable = false }

  -- the marks of a row before a statement; N alone where the row is unreachable
  abbrev pub marks_of : List Variable → List (Cell S) → Operation → Marks
  marks_of vars row op = cond (is_unreachable o row) unreachable_marks (marks_by op (slice_index_or row 0 (nothing o)) (operand_in o vars row op))
