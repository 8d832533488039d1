-- Rows that cover a state are not unreachable, and a row that they are within covers it too.
use Rattle.std.proofs.Common.{◌≡◌, zero, suc, ◌<◌, ◌≤◌, Bool as Truth, true, false, List, [], ◌∷◌, length, get_or, sym, refl, arith}
use Rattle.std.proofs.lemmas.Bool.{and_parts, or_from, true≢false}
use Rattle.domain.specs.Domain.{Ops, Lawful}
use Rattle.cells.specs.declared.value.Value.{Value}
use Rattle.cells.specs.declared.value.Value.TheVariants.{Unset, Bool, Int}
use Rattle.cells.specs.declared.cell.Cell.{Cell}
use Rattle.cells.specs.Values.{is_sized}
use Rattle.cells.specs.Cells.{implies, covers, within, is_vacant, nothing}
use Rattle.meaning.specs.Meaning.{State}
use Rattle.transfer.specs.Rows.{covers_all, is_unreachable}
use Rattle.transfer.specs.Soundness.{Sized, CoversState}
use Rattle.transfer.proofs.Covering.{held, contained, covers-some}
use Rattle.transfer.proofs.Simulation.{each_from, from_each}
use Rattle.table_check.specs.Passing.{RowWithin}
use Rattle.soundness.proofs.Sizes.{AllSized}

implied : (a b : Truth) → implies a b ≡ true → a ≡ true → b ≡ true
implied true b i e = i
implied false b i e = absurd (true≢false (sym e))

pub sized-at : (s : State) → Sized s → AllSized (s.cr ∷ s.values)
sized-at s z zero = z.cr
sized-at s z (suc j) = z.values j

module _ {S : Type 0} (o : Ops S) (law : Lawful o) where
  within-covers : (c d : Cell S) (v : Value) → is_sized v ≡ true → within o c d ≡ true → covers o c v ≡ true → covers o d v ≡ true
  within-covers c d v z w e =
      let a = and_parts (implies c.unset d.unset) _ w in
      let b = and_parts (implies c.can_be_false d.can_be_false) _ a.1 in
      let t = and_parts (implies c.can_be_true d.can_be_true) (o.within c.numbers d.numbers) b.1 in
      by v z e a.0 b.0 t.0 t.1
    where
      by : (v : Value) → is_sized v ≡ true → covers o c v ≡ true → implies c.unset d.unset ≡ true → implies c.can_be_false d.can_be_false ≡ true → implies c.can_be_true d.can_be_true ≡ true → o.within c.numbers d.numbers ≡ true → covers o d v ≡ true
      by Unset z e u f t n = implied c.unset d.unset u e
      by (Bool true) z e u f t n = implied c.can_be_true d.can_be_true t e
      by (Bool false) z e u f t n = implied c.can_be_false d.can_be_false f e
      by (Int k) z e u f t n = contained o law d.numbers k (law.within_holds c.numbers d.numbers k n (held o law c.numbers k z e))

  pub row-covers : (row target : List (Cell S)) (s : State) → Sized s → length target ≤ length row → RowWithin o row target → CoversState o row s → CoversState o target s
  row-covers row target s z long w e =
      from_each o target (s.cr ∷ s.values)
      (λ j l.
      let there : j < length row = omega arith in
      within-covers (get_or row j (nothing o)) (get_or target j (nothing o)) (get_or (s.cr ∷ s.values) j Unset) (sized-at s z j) (w j there) (each_from o row (s.cr ∷ s.values) e j there))

  all-reached : (row : List (Cell S)) (values : List Value) → AllSized values → covers_all o row values ≡ true → is_unreachable o row ≡ false
  all-reached [] values z e = refl
  all-reached (c ∷ row) [] z e =
      let a = and_parts (covers o c Unset) (covers_all o row []) e in
      or_from (is_vacant o c) (is_unreachable o row) (covers-some o law c Unset refl a.0) (all-reached row [] z a.1)
  all-reached (c ∷ row) (v ∷ values) z e =
      let a = and_parts (covers o c v) (covers_all o row values) e in
      or_from (is_vacant o c) (is_unreachable o row) (covers-some o law c v (z 0) a.0) (all-reached row values (λ j. z (suc j)) a.1)

  pub reached : (row : List (Cell S)) (s : State) → Sized s → CoversState o row s → is_unreachable o row ≡ false
  reached row s z e = all-reached row (s.cr ∷ s.values) (sized-at s z) e
