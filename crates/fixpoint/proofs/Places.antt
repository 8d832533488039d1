-- Where the rows of a table lie, and their cells by index.
use Rattle.std.proofs.Common.{◌≡◌, ℕ, ◌+◌, ◌-◌, ◌*◌, ◌<◌, ◌≤◌, min, cond, eqb, ◌≢◌, List, length, get_or, drop, set, sym, ap, ◌∙◌, inl, inr, add-mul, one-mul, arith, length-drop, length-set, length-take}
use Rattle.std.proofs.lemmas.Nat.{mul-le}
use Rattle.std.proofs.lemmas.List.{get_or-take, get_or-drop, get_or-set_same, get_or-set_other}
use Rattle.std.proofs.lemmas.Bool.{cases_eq, cases_order, cond-true, cond-false, eq-eqb, ne_eqb}
use Rattle.domain.specs.Domain.{Ops}
use Rattle.syntax.specs.declared.record.Variable.{Variable}
use Rattle.syntax.specs.Records.{no_variable}
use Rattle.cells.specs.declared.value.Value.TheVariants.{Unset}
use Rattle.cells.specs.declared.cell.Cell.{Cell}
use Rattle.cells.specs.Cells.{of_value}
use Rattle.transfer.specs.Rows.{row_at, start_cell, restart_cells}
use Rattle.transfer.specs.Transfer.{return_row, with_result, with_variable}
use Rattle.transfer.proofs.Changes.{after_first, restart-within, restart-length}
use Rattle.fixpoint.specs.Bringing.{changed_at, restarted_at}

-- row k of n rows
pub row_fits : (n w k : ℕ) → k < n → k * w + w ≤ n * w
row_fits n w k h = omega (arith, mul-le (k + 1) w n w (omega arith) (omega arith), add-mul k 1 w, one-mul w)

-- different columns never lie at one place
pub rows_apart : (w k t i j : ℕ) → i < w → j < w → (i ≡ j → ⊥) → t * w + i ≡ k * w + j → ⊥
rows_apart w k t i j hi hj ne e =
    elim (cases_order t k) [
      | inl same ↦ ne (let f : t * w ≡ k * w = ap (λ (n : ℕ). n * w) same in omega arith)
      | inr h ↦ elim h [ inl less ↦ let f = row_fits k w t less in omega arith | inr more ↦ let f = row_fits t w k more in omega arith ]
    ]

module _ {X : Type 0} (cells : List X) (w k : ℕ) (fits : k * w + w ≤ length cells) where
  pub row-length : length (row_at w cells k) ≡ w
  row-length =
      let a = length-drop (k * w) cells in
      let e : min w (length (drop (k * w) cells)) ≡ w = omega arith in
      length-take w (drop (k * w) cells) ∙ e

  pub row-cell : (i : ℕ) (d : X) → i < w → get_or (row_at w cells k) i d ≡ get_or cells (k * w + i) d
  row-cell i d h = get_or-take w (drop (k * w) cells) i d h ∙ get_or-drop (k * w) cells i d

-- the columns from i on of row k are as they were, and still are after column i of some row was written
abbrev pub Kept : {X : Type 0} → X → List X → List X → ℕ → ℕ → ℕ → Type 0
Kept d before cells w k i = (j : ℕ) → i ≤ j → j < w → get_or cells (k * w + j) d ≡ get_or before (k * w + j) d

pub kept_more : {X : Type 0} (d : X) (before cells cells' : List X) (w k t i : ℕ) (x : X) → i < w → cells' ≡ set cells (t * w + i) x → Kept d before cells w k i → Kept d before cells' w k (i + 1)
kept_more d before cells cells' w k t i x hi e kept j ij hj =
    let ne : k * w + j ≢ t * w + i = λ f. rows_apart w k t i j hi hj (λ (g : i ≡ j). omega arith) (sym f) in
    ap (λ l. get_or l (k * w + j) d) e ∙ get_or-set_other cells (t * w + i) (k * w + j) x d ne ∙ kept j (omega arith) hj

module _ {S : Type 0} (o : Ops S) where
  -- the cells of a row with another current result, and with another variable
  pub result-cell : (row : List (Cell S)) (x : Cell S) (i : ℕ) (d : Cell S) → i < length row → cond (eqb i 0) x (get_or row i d) ≡ get_or (with_result o row x) i d
  result-cell row x i d h =
      elim (cases_eq i 0) [
        | inl z ↦ cond-true (eqb i 0) x (get_or row i d) (eq-eqb i 0 z) ∙ sym (ap (λ (n : ℕ). get_or (set row 0 x) n d) z ∙ get_or-set_same row 0 x d (omega arith))
        | inr n ↦ cond-false (eqb i 0) x (get_or row i d) (ne_eqb i 0 n) ∙ sym (get_or-set_other row 0 i x d n)
      ]

  pub variable-length : (row : List (Cell S)) (x : Cell S) (v : ℕ) (c : Cell S) → length (with_variable o row x v c) ≡ length row
  variable-length row x v c = length-set (set row 0 x) (v + 1) c ∙ length-set row 0 x

  pub variable-cell : (row : List (Cell S)) (x : Cell S) (v : ℕ) (c : Cell S) (i : ℕ) (d : Cell S) → i < length row → changed_at o x v c i (get_or row i d) ≡ get_or (with_variable o row x v c) i d
  variable-cell row x v c i d h =
      let long = length-set row 0 x in
      let first = set row 0 x in
      elim (cases_eq i 0) [
        | inl z ↦
            let ne : 0 ≢ v + 1 = λ e. omega arith in
            cond-true (eqb i 0) x (cond (eqb (i - 1) v) c (get_or row i d)) (eq-eqb i 0 z)
            ∙ sym (ap (λ (n : ℕ). get_or (set first (v + 1) c) n d) z ∙ get_or-set_other first (v + 1) 0 c d ne ∙ get_or-set_same row 0 x d (omega arith))
        | inr n ↦
            cond-false (eqb i 0) x (cond (eqb (i - 1) v) c (get_or row i d)) (ne_eqb i 0 n)
            ∙ elim (cases_eq (i - 1) v) [
              | inl e ↦
                  let at : i ≡ v + 1 = omega arith in
                  cond-true (eqb (i - 1) v) c (get_or row i d) (eq-eqb (i - 1) v e)
                  ∙ sym (ap (λ (m : ℕ). get_or (set first (v + 1) c) m d) at ∙ get_or-set_same first (v + 1) c d (omega arith))
              | inr m ↦
                  let ne : i ≢ v + 1 = λ e. m (omega arith) in
                  cond-false (eqb (i - 1) v) c (get_or row i d) (ne_eqb (i - 1) v m)
                  ∙ sym (get_or-set_other first (v + 1) i c d ne ∙ get_or-set_other row 0 i x d n)
            ]
      ]

  -- the cells of the row that a return leaves
  pub restarted-length : (vars : List Variable) (row : List (Cell S)) → length (return_row o vars row) ≡ length vars + 1
  restarted-length vars row = let e = restart-length o vars (drop 1 row) in omega arith

  pub restarted-cell : (vars : List Variable) (row : List (Cell S)) (i : ℕ) (d : Cell S) → i < length vars + 1 → length row ≡ length vars + 1 → restarted_at o vars i (get_or row i d) ≡ get_or (return_row o vars row) i d
  restarted-cell vars row i d h long =
      let later = start_cell o (get_or vars (i - 1) no_variable).declaration.class (get_or vars (i - 1) no_variable) in
      elim (cases_eq i 0) [
        | inl z ↦ cond-true (eqb i 0) (of_value o Unset) (later (get_or row i d)) (eq-eqb i 0 z) ∙ sym (ap (λ (n : ℕ). get_or (return_row o vars row) n d) z)
        | inr n ↦
            let e : i - 1 + 1 ≡ i = omega arith in
            cond-false (eqb i 0) (of_value o Unset) (later (get_or row i d)) (ne_eqb i 0 n)
            ∙ sym (after_first o (of_value o Unset) d (restart_cells o vars (drop 1 row)) i (omega arith)
            ∙ restart-within o vars row (i - 1) no_variable d (omega arith) (omega arith)
            ∙ ap (λ (m : ℕ). later (get_or row m d)) e)
      ]
