-- Rows that cover values, one cell after another.
use Rattle.std.proofs.Common.{◌≡◌, ℕ, ◌+◌, Bool as Truth, ◌&&◌, List, [], ◌∷◌, get_or, drop, sym, refl, ap, ◌∙◌, add-zero}
use Rattle.std.specs.List.{list_all, enumerate_from}
use Rattle.std.proofs.lemmas.List.{get_or-drop, drop-drop}
use Rattle.domain.specs.Domain.{Ops}
use Rattle.cells.specs.declared.value.Value.{Value}
use Rattle.cells.specs.declared.value.Value.TheVariants.{Unset}
use Rattle.cells.specs.declared.cell.Cell.{Cell}
use Rattle.cells.specs.Cells.{covers}
use Rattle.transfer.specs.Rows.{covers_all}

module _ {S : Type 0} (o : Ops S) where
  covers-first : (c : Cell S) (cs : List (Cell S)) (vs : List Value) → covers_all o (c ∷ cs) vs ≡ (covers o c (get_or vs 0 Unset) && covers_all o cs (drop 1 vs))
  covers-first c cs [] = refl
  covers-first c cs (v ∷ vs) = refl

  -- each cell at its place
  pub covers-listed : (vs : List Value) (cs : List (Cell S)) (i : ℕ) → list_all (λ (p : ℕ × Cell S). covers o p.1 (get_or vs p.0 Unset)) (enumerate_from i cs) ≡ covers_all o cs (drop i vs)
  covers-listed vs [] i = refl
  covers-listed vs (c ∷ cs) i =
      ap (λ (b : Truth). covers o c (get_or vs i Unset) && b) (covers-listed vs cs (i + 1))
      ∙ ap (λ (l : List Value). covers o c (get_or vs i Unset) && covers_all o cs l) (sym (drop-drop 1 i vs))
      ∙ ap (λ (v : Value). covers o c v && covers_all o cs (drop 1 (drop i vs))) (sym (get_or-drop i vs 0 Unset ∙ ap (λ (n : ℕ). get_or vs n Unset) (add-zero i)))
      ∙ sym (covers-first c cs (drop i vs))
