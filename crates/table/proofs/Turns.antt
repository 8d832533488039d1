-- One turn of bringing a row to a table.
use Rattle.std.proofs.Common.{◌≡◌, ℕ, ◌+◌, ◌<◌, ◌≤◌, Bool as Truth, not, ◌||◌, ◌⊎◌, List, length, get_or, drop, set, sym, ap, ◌∙◌, inl, inr, arith}
use Rattle.std.proofs.lemmas.List.{at_drop_more, get_or_past, set_past}
use Rattle.domain.specs.Domain.{Ops}
use Rattle.cells.specs.declared.cell.Cell.{Cell}
use Rattle.cells.specs.Cells.{nothing, within}
use Rattle.table.specs.Growing.{taken_in, grown}

-- two places are one, or both are beyond the end
abbrev pub Alike : {X : Type 0} → List X → ℕ → ℕ → Type 0
Alike cells p q = (p ≡ q) ⊎ ((length cells ≤ p) × (length cells ≤ q))

pub read_alike : {X : Type 0} (cells : List X) (p q : ℕ) (d : X) → Alike cells p q → get_or cells p d ≡ get_or cells q d
read_alike cells p q d (inl e) = ap (λ (n : ℕ). get_or cells n d) e
read_alike cells p q d (inr h) = get_or_past cells p d h.0 ∙ sym (get_or_past cells q d h.1)

pub write-alike : {X : Type 0} (cells : List X) (p q : ℕ) (x : X) → Alike cells p q → set cells p x ≡ set cells q x
write-alike cells p q x (inl e) = ap (λ (n : ℕ). set cells n x) e
write-alike cells p q x (inr h) = set_past cells p x h.0 ∙ sym (set_past cells q x h.1)

module _ {S : Type 0} (o : Ops S) (widening : Truth) where
  -- a turn at which the cell t was found and the cell c of the row was brought
  pub grown-more : (cells cells' : List (Cell S)) (changed grew : Truth) (start : ℕ) (row : List (Cell S)) (i : ℕ) (t c d : Cell S) → i < length row → t ≡ get_or cells (start + i) (nothing o) → c ≡ get_or row i d → cells' ≡ set cells (start + i) (taken_in o widening t c) → grew ≡ not (within o c t)
      → grown o widening cells' (changed || grew) (start + (i + 1)) (drop (i + 1) row) ≡ grown o widening cells changed (start + i) (drop i row)
  grown-more cells cells' changed grew start row i t c d h te ce se ge =
      let step = at_drop_more (grown o widening cells changed (start + i)) row i d h in
      let at : start + (i + 1) ≡ start + i + 1 = omega arith in
      cc
