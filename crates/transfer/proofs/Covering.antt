-- Cells that cover values go on to cover what becomes of them: facts of single cells, from the laws of the domain alone.
use Rattle.std.proofs.Common.{◌≡◌, Bool as Truth, true, false, cond, not, ◌&&◌, ◌||◌, ℤ, pos, sym, refl, ap, ◌∙◌, arith}
use Rattle.std.proofs.lemmas.Bool.{and_from, and_parts, or_left, or_right, true≢false}
use Rattle.std.proofs.lemmas.Int.{ints}
use Rattle.domain.specs.Domain.{Ops, Lawful, holds}
use Rattle.numbers.specs.Int.{is_int}
use Rattle.syntax.specs.declared.record.Constant.{Constant}
use Rattle.syntax.specs.declared.record.Constant.TheVariants as constant
use Rattle.reading.specs.Formed.{is_proper}
use Rattle.cells.specs.declared.value.Value.{Value}
use Rattle.cells.specs.declared.value.Value.TheVariants.{Unset, Bool, Int}
use Rattle.cells.specs.declared.value.Sort.{Sort}
use Rattle.cells.specs.declared.value.Sort.TheVariants as sort
use Rattle.cells.specs.declared.cell.Cell.{Cell}
use Rattle.cells.specs.Values.{sort_of, value_of, is_sized}
use Rattle.cells.specs.Cells.{covers, has, is_vacant, of_value}
use Rattle.transfer.specs.Transfer.{any_sort, kept_by}

-- what holds for a sort holds for one of them
pub any-from : (f : Sort → Truth) (a : Sort) → f a ≡ true → any_sort f ≡ true
any-from f sort.Unset e = or_left (f sort.Unset) _ e
any-from f sort.Bool e = or_right (f sort.Unset) _ (or_left (f sort.Bool) _ e)
any-from f sort.Int e = or_right (f sort.Unset) _ (or_right (f sort.Bool) _ e)

pub clash : {X : Type 0} (b : Truth) → b ≡ true → b ≡ false → X
clash b t f = absurd (true≢false (sym t ∙ f))

not-true : (b : Truth) → (b ≡ true → ⊥) → not b ≡ true
not-true true h = absurd (h refl)
not-true false h = refl

abbrev sorted : Truth → Truth → Truth → Truth → Sort → Truth
sorted u f t n sort.Unset = u
sorted u f t n sort.Bool = f || t
sorted u f t n sort.Int = not n

some-part : (u f t n : Truth) (a : Sort) → sorted u f t n a ≡ true → (not u && (not f && (not t && n))) ≡ false
some-part true f t n a e = refl
some-part false true t n a e = refl
some-part false false true n a e = refl
some-part false false false false a e = refl
some-part false false false true sort.Unset e = sym e
some-part false false false true sort.Bool e = sym e
some-part false false false true sort.Int e = sym e

module _ {S : Type 0} (o : Ops S) (law : Lawful o) where
  -- a number that a set contains, inside INT, is held
  pub held : (s : S) (n : ℤ) → is_int n ≡ true → o.contains s n ≡ true → holds o s n ≡ true
  held s n i c = and_from (is_int n) (o.contains s n) i c

  pub contained : (s : S) (n : ℤ) → holds o s n ≡ true → o.contains s n ≡ true
  contained s n h = (and_parts (is_int n) (o.contains s n) h).1

  pub not-empty : (s : S) (n : ℤ) → is_int n ≡ true → o.contains s n ≡ true → not (o.is_empty s) ≡ true
  not-empty s n i c = not-true (o.is_empty s) (λ e. clash (holds o s n) (held s n i c) (law.empty_holds s n e))

  -- a cell that covers a value has its sort
  pub covers-has : (c : Cell S) (v : Value) → is_sized v ≡ true → covers o c v ≡ true → has o c (sort_of v) ≡ true
  covers-has c Unset z e = e
  covers-has c (Bool true) z e = or_right c.can_be_false c.can_be_true e
  covers-has c (Bool false) z e = or_left c.can_be_false c.can_be_true e
  covers-has c (Int n) z e = not-empty c.numbers n z e

  -- and is not vacant
  has_some : (c : Cell S) (a : Sort) → has o c a ≡ true → is_vacant o c ≡ false
  has_some c sort.Unset e = some-part c.unset c.can_be_false c.can_be_true (o.is_empty c.numbers) sort.Unset e
  has_some c sort.Bool e = some-part c.unset c.can_be_false c.can_be_true (o.is_empty c.numbers) sort.Bool e
  has_some c sort.Int e = some-part c.unset c.can_be_false c.can_be_true (o.is_empty c.numbers) sort.Int e

  pub covers-some : (c : Cell S) (v : Value) → is_sized v ≡ true → covers o c v ≡ true → is_vacant o c ≡ false
  covers-some c v z e = has_some c (sort_of v) (covers-has c v z e)

  -- what is kept of a cell covers the values whose sort is kept
  pub kept-covers : (f : Sort → Truth) (c : Cell S) (v : Value) → f (sort_of v) ≡ true → covers o c v ≡ true → covers o (kept_by o f c) v ≡ true
  kept-covers f c Unset k e = and_from c.unset (f sort.Unset) e k
  kept-covers f c (Bool true) k e = and_from c.can_be_true (f sort.Bool) e k
  kept-covers f c (Bool false) k e = and_from c.can_be_false (f sort.Bool) e k
  kept-covers f c (Int n) k e = ap (λ b. o.contains (cond b c.numbers (o.span (pos 1) (pos 0))) n) k ∙ e

  -- the cell of one value covers it
  pub value-covers : (v : Value) → is_sized v ≡ true → covers o (of_value o v) v ≡ true
  value-covers Unset z = refl
  value-covers (Bool true) z = refl
  value-covers (Bool false) z = refl
  value-covers (Int n) z = contained (o.span n n) n (law.span_holds n n n z z (omega (arith, ints)) (omega (arith, ints)))

-- a proper constant's value is sized
pub proper-sized : (k : Constant) → is_proper k ≡ true → is_sized (value_of k) ≡ true
proper-sized (constant.Bool b) e = refl
proper-sized (constant.Int n) e = e
