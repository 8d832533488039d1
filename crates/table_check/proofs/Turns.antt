-- One turn of each search for a place that fails.
use Rattle.std.proofs.Common.{◌≡◌, ℕ, zero, suc, ◌+◌, ◌<◌, ◌≤◌, Bool as Truth, true, false, List, [], ◌∷◌, length, get_or, drop, Some, None, Option, sym, ap, ◌∙◌, add-zero, arith}
use Rattle.std.proofs.lemmas.Bool.{cond-true, cond-false}
use Rattle.std.specs.Option.{MatchOption}
use Rattle.std.proofs.lemmas.List.{at_drop_more, at_drop_all}
use Rattle.domain.specs.Domain.{Ops}
use Rattle.syntax.specs.declared.record.Statement.{Statement}
use Rattle.syntax.specs.declared.record.Variable.{Variable}
use Rattle.syntax.specs.Records.{no_statement}
use Rattle.cells.specs.declared.cell.Cell.{Cell}
use Rattle.cells.specs.Cells.{nothing, within}
use Rattle.table.specs.Tables.{operation_at}
use Rattle.table_check.specs.Failures.{or_else, first_outside, fails_from, fails_among}
use Rattle.table_check.proofs.Passing.{none-outside}

module _ {S : Type 0} (o : Ops S) (vars : List Variable) (table : List (Cell S)) where
  abbrev Within : ℕ → List (Cell S) → ℕ → Truth
  Within start row i = within o (get_or row i (nothing o)) (get_or table (start + i) (nothing o))

  outside-at : (start i : ℕ) (row : List (Cell S)) → i < length row → Within start row i ≡ false → ((k : ℕ) → k < i → Within start row k ≡ true) → first_outside o vars table start row ≡ Some (start + i)
  outside-at start i [] h out before = absurd (omega arith)
  outside-at start zero (c ∷ cells) h out before =
      cond-false (within o c (get_or table start (nothing o))) (first_outside o vars table (start + 1) cells) (Some start)
      (ap (λ (n : ℕ). within o c (get_or table n (nothing o))) (sym (add-zero start)) ∙ out)
      ∙ ap (λ (n : ℕ). Some n) (sym (add-zero start))
  outside-at start (suc i) (c ∷ cells) h out before =
      let at : start + suc i ≡ (start + 1) + i = omega arith in
      cond-true (within o c (get_or table start (nothing o))) (first_outside o vars table (start + 1) cells) (Some start)
      (ap (λ (n : ℕ). within o c (get_or table n (nothing o))) (sym (add-zero start)) ∙ before 0 (omega arith))
      ∙ outside-at (start + 1) i cells (omega arith)
      (ap (λ (n : ℕ). within o (get_or cells i (nothing o)) (get_or table n (nothing o))) (sym at) ∙ out)
      (λ k less.
      let next : (start + 1) + k ≡ start + suc k = omega arith in
      ap (λ (n : ℕ). within o (get_or cells k (nothing o)) (get_or table n (nothing o))) next ∙ before (suc k) (omega arith))
      ∙ ap (λ (n : ℕ). Some n) (sym at)

  -- the first of a row's cells that is not taken in, as a search for its index finds it
  pub outside-found : (start n : ℕ) (row : List (Cell S)) (x y : Option ℕ) → length row ≡ n → MatchOption x ((k : ℕ) → 0 ≤ k → k < n → Within start row k ≡ true) (λ i. (0 ≤ i) × (i < n) × (Within start row i ≡ false) × ((k : ℕ) → 0 ≤ k → k < i → Within start row k ≡ true)) → MatchOption x (y ≡ None) (λ i. y ≡ Some (start + i)) → y ≡ first_outside o vars table start row
  outside-found start n row (Some i) y long found is =
      is ∙ sym (outside-at start i row (omega arith) found.2 (λ k less. found.3 k (omega arith) less))
  outside-found start n row None y long found is =
      is ∙ sym (none-outside o vars table start row (λ k less. found k (omega arith) (omega arith)))

  module _ (k : ℕ) (ss : List Statement) where
    pub among-more : (x : Option ℕ) → k < length ss → x ≡ fails_from o vars table k (operation_at ss k) → fails_among o vars table k (drop k ss) ≡ or_else x (fails_among o vars table (k + 1) (drop (k + 1) ss))
    among-more x h e =
        at_drop_more (fails_among o vars table k) ss k no_statement h
        ∙ ap (λ (y : Option ℕ). or_else y (fails_among o vars table (k + 1) (drop (k + 1) ss))) (sym e)

    pub among-all : length ss ≤ k → fails_among o vars table k (drop k ss) ≡ None
    among-all h = at_drop_all (fails_among o vars table k) ss k h
