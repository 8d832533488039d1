-- The rows that changes stand for, and their cells.
use Rattle.std.proofs.Common.{◌≡◌, ℕ, zero, suc, ◌+◌, ◌-◌, ◌<◌, ◌≤◌, true, false, List, [], ◌∷◌, length, get_or, drop, set, sym, refl, ap, ◌∙◌, add_comm, arith, length-drop, length-set}
use Rattle.std.proofs.lemmas.Bool.{true≢false}
use Rattle.std.proofs.lemmas.List.{get_or_past, get_or-set_same, get_or-set_other, get_or-drop, get_or-append_right}
use Rattle.domain.specs.Domain.{Ops}
use Rattle.syntax.specs.declared.operator.Jump.{Jump}
use Rattle.syntax.specs.declared.operator.Jump.TheVariants.{Jmp, Jmpc, Jmpcn}
use Rattle.syntax.specs.declared.record.Operation.{Operation}
use Rattle.syntax.specs.declared.record.Operation.TheVariants as operation
use Rattle.syntax.specs.declared.record.Variable.{Variable}
use Rattle.cells.specs.declared.cell.Cell.{Cell}
use Rattle.meaning.specs.declared.edge.Edge.{Edge}
use Rattle.meaning.specs.declared.edge.Edge.TheVariants as way
use Rattle.transfer.specs.declared.carry.Change.{Change}
use Rattle.transfer.specs.declared.carry.Change.TheVariants as change
use Rattle.transfer.specs.Rows.{start_cell, initial_cell, restart_cells}
use Rattle.transfer.specs.Transfer.{with_result, with_variable, return_row, jump_carried, carried_by}
use Rattle.transfer.specs.Carrying.{mapped, changed_row, row_of, gives_inputs, jump_change, change_by}

module _ {S : Type 0} (o : Ops S) where
  jump-row : (vars : List Variable) (row : List (Cell S)) (x : Cell S) (j : Jump) (e : Edge) → mapped (row_of o vars row) (jump_change o j e x) ≡ jump_carried o j e row x
  jump-row vars row x Jmp way.Fall = refl
  jump-row vars row x Jmp way.Jump = refl
  jump-row vars row x Jmpc way.Fall = refl
  jump-row vars row x Jmpc way.Jump = refl
  jump-row vars row x Jmpcn way.Fall = refl
  jump-row vars row x Jmpcn way.Jump = refl

  -- the change on a way on stands for the row that is carried there
  pub change-row : (vars : List Variable) (row : List (Cell S)) (x y : Cell S) (op : Operation) (e : Edge) → mapped (row_of o vars row) (change_by o x y op e) ≡ carried_by o vars row x y op e
  change-row vars row x y operation.Return way.Fall = refl
  change-row vars row x y operation.Return way.Jump = refl
  change-row vars row x y operation.Not way.Fall = refl
  change-row vars row x y operation.Not way.Jump = refl
  change-row vars row x y (operation.Label name) way.Fall = refl
  change-row vars row x y (operation.Label name) way.Jump = refl
  change-row vars row x y (operation.Apply p z) way.Fall = refl
  change-row vars row x y (operation.Apply p z) way.Jump = refl
  change-row vars row x y (operation.Store s i) way.Fall = refl
  change-row vars row x y (operation.Store s i) way.Jump = refl
  change-row vars row x y (operation.Jump j t) e = jump-row vars row x j e

  pub result-first : (row : List (Cell S)) (x d : Cell S) (k : ℕ) → k ≡ 0 → 0 < length row → get_or (with_result o row x) k d ≡ x
  result-first row x d k z h = ap (λ n. get_or (set row 0 x) n d) z ∙ get_or-set_same row 0 x d h

  pub result-past : (row : List (Cell S)) (x d : Cell S) (k : ℕ) → length row ≤ k → get_or (with_result o row x) k d ≡ d
  result-past row x d k h = get_or_past (set row 0 x) k d (simp length-set h)

  pub result-other : (row : List (Cell S)) (x d : Cell S) (k : ℕ) → (k ≡ 0 → ⊥) → get_or (with_result o row x) k d ≡ get_or row k d
  result-other row x d k n = get_or-set_other row 0 k x d n

  pub variable-here : (row : List (Cell S)) (x c d : Cell S) (i k : ℕ) → k ≡ i + 1 → k < length row → get_or (with_variable o row x i c) k d ≡ c
  variable-here row x c d i k e h =
      let l : i + 1 < length (set row 0 x) = simp length-set (omega arith) in
      ap (λ n. get_or (set (set row 0 x) (i + 1) c) n d) e ∙ get_or-set_same (set row 0 x) (i + 1) c d l

  pub variable-past : (row : List (Cell S)) (x c d : Cell S) (i k : ℕ) → length row ≤ k → get_or (with_variable o row x i c) k d ≡ d
  variable-past row x c d i k h = get_or_past (set (set row 0 x) (i + 1) c) k d (simp length-set h)

  pub variable-other : (row : List (Cell S)) (x c d : Cell S) (i k : ℕ) → (k ≡ i + 1 → ⊥) → get_or (with_variable o row x i c) k d ≡ get_or (with_result o row x) k d
  variable-other row x c d i k n = get_or-set_other (set row 0 x) (i + 1) k c d n

  within : (vars : List Variable) (cells : List (Cell S)) (k : ℕ) (w : Variable) (d : Cell S) → k < length vars → k < length cells → get_or (restart_cells o vars cells) k d ≡ start_cell o (get_or vars k w).declaration.class (get_or vars k w) (get_or cells k d)
  within [] cells k w d h l = absurd (omega arith)
  within (v ∷ vars) [] k w d h l = absurd (omega arith)
  within (v ∷ vars) (c ∷ cells) zero w d h l = refl
  within (v ∷ vars) (c ∷ cells) (suc k) w d h l = within vars cells k w d (omega arith) (omega arith)

  beyond : (vars : List Variable) (cells : List (Cell S)) (k : ℕ) (w : Variable) (d : Cell S) → k < length vars → length cells ≤ k → get_or (restart_cells o vars cells) k d ≡ initial_cell o (get_or vars k w)
  beyond [] cells k w d h l = absurd (omega arith)
  beyond (v ∷ vars) [] zero w d h l = refl
  beyond (v ∷ vars) [] (suc k) w d h l = beyond vars [] k w d (omega arith) (omega arith)
  beyond (v ∷ vars) (c ∷ cells) zero w d h l = absurd (omega arith)
  beyond (v ∷ vars) (c ∷ cells) (suc k) w d h l = beyond vars cells k w d (omega arith) (omega arith)

  pub restart-length : (vars : List Variable) (cells : List (Cell S)) → length (restart_cells o vars cells) ≡ length vars
  restart-length [] cells = refl
  restart-length (v ∷ vars) [] = ap suc (restart-length vars [])
  restart-length (v ∷ vars) (c ∷ cells) = ap suc (restart-length vars cells)

  -- the cell of a variable after a return
  module _ (vars : List Variable) (row : List (Cell S)) (k : ℕ) where
    pub restart-within : (w : Variable) (d : Cell S) → k < length vars → k + 1 < length row → get_or (restart_cells o vars (drop 1 row)) k d ≡ start_cell o (get_or vars k w).declaration.class (get_or vars k w) (get_or row (k + 1) d)
    restart-within w d h l =
        let s : k < length (drop 1 row) = simp length-drop (omega arith) in
        let e : get_or (drop 1 row) k d ≡ get_or row (k + 1) d = get_or-drop 1 row k d ∙ ap (λ n. get_or row n d) (add_comm 1 k) in
        within vars (drop 1 row) k w d h s ∙ ap (start_cell o (get_or vars k w).declaration.class (get_or vars k w)) e

    pub restart-beyond : (w : Variable) (d : Cell S) → k < length vars → length row ≤ k + 1 → get_or (restart_cells o vars (drop 1 row)) k d ≡ initial_cell o (get_or vars k w)
    restart-beyond w d h l =
        let s : length (drop 1 row) ≤ k = simp length-drop (omega arith) in
        beyond vars (drop 1 row) k w d h s

    pub restart-past : (d : Cell S) → length vars ≤ k → get_or (restart_cells o vars (drop 1 row)) k d ≡ d
    restart-past d h = get_or_past (restart_cells o vars (drop 1 row)) k d (rw (restart-length vars (drop 1 row)) h)

  -- past the first cell
  pub after_first : (x d : Cell S) (cells : List (Cell S)) (k : ℕ) → 1 ≤ k → get_or (x ∷ cells) k d ≡ get_or cells (k - 1) d
  after_first x d cells k h = get_or-append_right (x ∷ []) cells 1 k d refl h

  -- a return leaves a row as long as the variables ask, any other change one as long as it was
  pub inputs-row : (vars : List Variable) (row : List (Cell S)) (x : Cell S) (c : Change S) → gives_inputs o c ≡ true → changed_row o vars row x c ≡ return_row o vars row
  inputs-row vars row x change.Nothing e = absurd (true≢false (sym e))
  inputs-row vars row x (change.Variable i c) e = absurd (true≢false (sym e))
  inputs-row vars row x change.Inputs e = refl

  pub same_length : (vars : List Variable) (row : List (Cell S)) (x : Cell S) (c : Change S) → gives_inputs o c ≡ false → length (changed_row o vars row x c) ≡ length row
  same_length vars row x change.Nothing e = length-set row 0 x
  same_length vars row x (change.Variable i c) e = length-set (set row 0 x) (i + 1) c ∙ length-set row 0 x
  same_length vars row x change.Inputs e = absurd (true≢false e)
