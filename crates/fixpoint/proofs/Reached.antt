-- When rows with new cells are unreachable, and rows that a fall-through leaves as they are.
use Rattle.std.proofs.Common.{◌≡◌, ℕ, zero, suc, ◌+◌, ◌*◌, ◌<◌, ◌≤◌, Bool as Truth, true, false, not, ◌||◌, List, [], ◌∷◌, length, get_or, take, drop, set, Some, None, Option, sym, refl, ap, ◌∙◌, add-mul, one-mul, add-one, arith, length-set}
use Rattle.std.proofs.lemmas.List.{take-set-le, drop-take, set_past}
use Rattle.std.proofs.lemmas.Bool.{or_parts, cond_both}
use Rattle.domain.specs.Domain.{Ops}
use Rattle.syntax.specs.declared.record.Operation.{Operation}
use Rattle.syntax.specs.declared.record.Variable.{Variable}
use Rattle.cells.specs.declared.cell.Cell.{Cell}
use Rattle.cells.specs.Cells.{nothing, within, is_vacant}
use Rattle.meaning.specs.declared.edge.Edge.TheVariants as way
use Rattle.transfer.specs.Rows.{width, row_at, is_unreachable}
use Rattle.transfer.specs.Transfer.{carried, with_result, with_variable}
use Rattle.table.specs.Growing.{Grown, unchanged, taken_in, grown}
use Rattle.fixpoint.specs.Sweeps.{brought, brought_if, brought_on}

or-false : (b : Truth) → (b || false) ≡ b
or-false true = refl
or-false false = refl

module _ {S : Type 0} (o : Ops S) where
  vacant-one : (row : List (Cell S)) (i : ℕ) (x : Cell S) → is_unreachable o row ≡ false → i < length row → is_unreachable o (set row i x) ≡ is_vacant o x
  vacant-one [] i x e h = absurd (omega arith)
  vacant-one (c ∷ cells) zero x e h =
      ap (λ b. is_vacant o x || b) (or_parts (is_vacant o c) (is_unreachable o cells) e).1 ∙ or-false (is_vacant o x)
  vacant-one (c ∷ cells) (suc i) x e h =
      ap (λ b. b || is_unreachable o (set cells i x)) (or_parts (is_vacant o c) (is_unreachable o cells) e).0 ∙ vacant-one cells i x (or_parts (is_vacant o c) (is_unreachable o cells) e).1 (omega arith)

  pub result-vacant : (row : List (Cell S)) (x : Cell S) → 0 < length row → is_unreachable o row ≡ false → is_vacant o x ≡ is_unreachable o (with_result o row x)
  result-vacant row x h e = sym (vacant-one row 0 x e h)

  variable-by : (row : List (Cell S)) (x : Cell S) (i : ℕ) (c : Cell S) → suc i < length row → is_unreachable o row ≡ false → (is_vacant o x || is_vacant o c) ≡ is_unreachable o (set (set row 0 x) (suc i) c)
  variable-by [] x i c h e = absurd (omega arith)
  variable-by (y ∷ cells) x i c h e =
      sym (ap (λ b. is_vacant o x || b) (vacant-one cells i c (or_parts (is_vacant o y) (is_unreachable o cells) e).1 (omega arith)))

  pub variable-vacant : (row : List (Cell S)) (x : Cell S) (i : ℕ) (c : Cell S) → i + 1 < length row → is_unreachable o row ≡ false → (is_vacant o x || is_vacant o c) ≡ is_unreachable o (with_variable o row x i c)
  variable-vacant row x i c h e = variable-by row x i c (omega arith) e ∙ ap (λ (n : ℕ). is_unreachable o (set (set row 0 x) n c)) (sym (add-one i))

  pub variable-beyond : (row : List (Cell S)) (x : Cell S) (i : ℕ) (c : Cell S) → 0 < length row → length row ≤ i + 1 → is_unreachable o row ≡ false → is_vacant o x ≡ is_unreachable o (with_variable o row x i c)
  variable-beyond row x i c s h e =
      let long = length-set row 0 x in
      result-vacant row x s e ∙ ap (is_unreachable o) (sym (set_past (set row 0 x) (i + 1) c (omega arith)))

module _ {S : Type 0} (o : Ops S) (widening : Truth) where
  -- what lies before the row stays
  grown-before : (cells : List (Cell S)) (changed : Truth) (start : ℕ) (row : List (Cell S)) (n : ℕ) → n ≤ start → take n (grown o widening cells changed start row).cells ≡ take n cells
  grown-before cells changed start [] n h = refl
  grown-before cells changed start (c ∷ row) n h =
      grown-before (set cells start (taken_in o widening (get_or cells start (nothing o)) c)) (changed || not (within o c (get_or cells start (nothing o)))) (start + 1) row n (omega arith) ∙ take-set-le n cells start _ h

  module _ (vars : List Variable) (k : ℕ) where
    brought-before : (row cells : List (Cell S)) → take (k * width vars + width vars) (brought o widening vars (k + 1) row cells).cells ≡ take (k * width vars + width vars) cells
    brought-before row cells =
        let n = k * width vars + width vars in
        let h : n ≤ (k + 1) * width vars = omega (arith, add-mul k 1 (width vars), one-mul (width vars)) in
        cond_both (is_unreachable o row) (unchanged cells) (grown o widening cells false ((k + 1) * width vars) row) (λ (g : Grown S). take n g.cells ≡ take n cells) (λ e. refl) (λ e. grown-before cells false ((k + 1) * width vars) row n h)

    if-before : (next : Option (List (Cell S))) (cells : List (Cell S)) → take (k * width vars + width vars) (brought_if o widening vars (k + 1) next cells).cells ≡ take (k * width vars + width vars) cells
    if-before (Some row) cells = brought-before row cells
    if-before None cells = refl

    -- a fall-through leaves the row that it comes from
    pub fall-keeps : (op : Operation) (cells : List (Cell S)) → row_at (width vars) (brought_on o widening vars k op way.Fall cells).cells k ≡ row_at (width vars) cells k
    fall-keeps op cells =
        let w = width vars in
        let after = (brought_on o widening vars k op way.Fall cells).cells in
        sym (drop-take (k * w) w after) ∙ ap (drop (k * w)) (if-before (carried o vars (row_at w cells k) op way.Fall) cells) ∙ drop-take (k * w) w cells
