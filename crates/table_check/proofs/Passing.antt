-- A table of the right size passes exactly if no place of it fails.
use Rattle.std.proofs.Common.{◌≡◌, ℕ, zero, suc, ◌+◌, ◌*◌, ◌<◌, ◌≤◌, Bool as Truth, true, false, cond, List, [], ◌∷◌, length, get_or, drop, Some, None, Option, sym, refl, ap, ◌∙◌, add-zero, add-mul, one-mul, arith}
use Rattle.std.proofs.lemmas.Bool.{cond-true, cond_both}
use Rattle.std.proofs.lemmas.List.{get_or-take, get_or-drop, length-take-le, length-drop}
use Rattle.std.proofs.lemmas.Nat.{mul-le}
use Rattle.domain.specs.Domain.{Ops}
use Rattle.program.specs.Model.{Code}
use Rattle.syntax.specs.declared.record.Operation.{Operation}
use Rattle.syntax.specs.declared.record.Statement.{Statement}
use Rattle.syntax.specs.declared.record.Variable.{Variable}
use Rattle.cells.specs.declared.cell.Cell.{Cell}
use Rattle.cells.specs.Cells.{nothing, within}
use Rattle.meaning.specs.declared.edge.Edge.{Edge}
use Rattle.meaning.specs.declared.edge.Edge.TheVariants as way
use Rattle.transfer.specs.Rows.{width, row_at, is_unreachable, start_row}
use Rattle.transfer.specs.Transfer.{carried, target_of}
use Rattle.table.specs.Tables.{operation_at, table_size}
use Rattle.table_check.specs.Passing.{TakenIn, Passes}
use Rattle.table_check.specs.Failures.{or_else, first_outside, fails_at, fails_if, fails_on, fails_from, fails_among, fails_with, first_failure}
use Rattle.table_check.proofs.Lengths.{carried-length, start-length}

some-none : {X : Type 0} (n : ℕ) → Some n ≡ None → X
some-none n e = absurd cc

-- parts of an answer that there is no place
unless-none : (b : Truth) (x : Option ℕ) (n : ℕ) → cond b x (Some n) ≡ None → (b ≡ true) × (x ≡ None)
unless-none true x n e = (refl, e)
unless-none false x n e = some-none n e

skip-none : (b : Truth) (x : Option ℕ) → cond b None x ≡ None → b ≡ false → x ≡ None
skip-none true x e f = absurd cc
skip-none false x e f = e

or_else-none : (x y : Option ℕ) → or_else x y ≡ None → (x ≡ None) × (y ≡ None)
or_else-none (Some n) y e = some-none n e
or_else-none None y e = (refl, e)

or_else-both : (x y : Option ℕ) → x ≡ None → y ≡ None → or_else x y ≡ None
or_else-both x y ex ey = ap (λ z. or_else z y) ex ∙ ey

-- a row of a table that is long enough has its width
pub row-length : {X : Type 0} (w n k : ℕ) (table : List X) → length table ≡ n * w → k < n → length (row_at w table k) ≡ w
row-length w n k table size h =
    let fits : k * w + w ≤ n * w = omega (arith, mul-le (k + 1) w n w (omega arith) (omega arith), add-mul k 1 w, one-mul w) in
    let d = length-drop (k * w) table in
    length-take-le w (drop (k * w) table) (omega arith)

module _ {S : Type 0} (o : Ops S) (vars : List Variable) (table : List (Cell S)) where
  -- the cell at a place of a row, and of the table
  pub row-place : (k i : ℕ) → i < width vars → get_or (row_at (width vars) table k) i (nothing o) ≡ get_or table (k * width vars + i) (nothing o)
  row-place k i h = get_or-take (width vars) (drop (k * width vars) table) i (nothing o) h ∙ get_or-drop (k * width vars) table i (nothing o)

  abbrev Each : ℕ → List (Cell S) → Type 0
  Each start row = (i : ℕ) → i < length row → within o (get_or row i (nothing o)) (get_or table (start + i) (nothing o)) ≡ true

  each_within : (start : ℕ) (row : List (Cell S)) → first_outside o vars table start row ≡ None → Each start row
  each_within start [] e i h = absurd (omega arith)
  each_within start (c ∷ cells) e zero h =
      ap (λ (n : ℕ). within o c (get_or table n (nothing o))) (add-zero start)
      ∙ (unless-none (within o c (get_or table start (nothing o))) (first_outside o vars table (start + 1) cells) start e).0
  each_within start (c ∷ cells) e (suc i) h =
      let at : start + suc i ≡ (start + 1) + i = omega arith in
      ap (λ (n : ℕ). within o (get_or cells i (nothing o)) (get_or table n (nothing o))) at
      ∙ each_within (start + 1) cells (unless-none (within o c (get_or table start (nothing o))) (first_outside o vars table (start + 1) cells) start e).1 i (omega arith)

  pub none-outside : (start : ℕ) (row : List (Cell S)) → Each start row → first_outside o vars table start row ≡ None
  none-outside start [] f = refl
  none-outside start (c ∷ cells) f =
      cond-true (within o c (get_or table start (nothing o))) (first_outside o vars table (start + 1) cells) (Some start)
      (ap (λ (n : ℕ). within o c (get_or table n (nothing o))) (sym (add-zero start)) ∙ f 0 (omega arith))
      ∙ none-outside (start + 1) cells
      (λ i h.
      let at : (start + 1) + i ≡ start + suc i = omega arith in
      ap (λ (n : ℕ). within o (get_or cells i (nothing o)) (get_or table n (nothing o))) at ∙ f (suc i) (omega arith))

  module _ (ss : List Statement) where
    abbrev p : Code
    p = record { variables = vars; statements = ss }

    taken_in : (k : ℕ) (row : List (Cell S)) → length row ≡ width vars → fails_at o vars table k row ≡ None → TakenIn o p table k row
    taken_in k row l e reach i h =
        ap (within o (get_or row i (nothing o))) (row-place k i (omega arith))
        ∙ each_within (k * width vars) row (skip-none (is_unreachable o row) (first_outside o vars table (k * width vars) row) e reach) i h

    fails-not : (k : ℕ) (row : List (Cell S)) → length row ≡ width vars → TakenIn o p table k row → fails_at o vars table k row ≡ None
    fails-not k row l t =
        cond_both (is_unreachable o row) None (first_outside o vars table (k * width vars) row) (λ (x : Option ℕ). x ≡ None) (λ e. refl)
        (λ e. none-outside (k * width vars) row (λ i h. ap (within o (get_or row i (nothing o))) (sym (row-place k i (omega arith))) ∙ t e i h))

  -- each statement's part of an answer over all
  among_none : (k : ℕ) (ss : List Statement) → fails_among o vars table k ss ≡ None → (i : ℕ) → i < length ss → fails_from o vars table (k + i) (operation_at ss i) ≡ None
  among_none k [] e i h = absurd (omega arith)
  among_none k (s ∷ ss) e zero h =
      ap (λ (n : ℕ). fails_from o vars table n s.operation) (add-zero k)
      ∙ (or_else-none (fails_from o vars table k s.operation) (fails_among o vars table (k + 1) ss) e).0
  among_none k (s ∷ ss) e (suc i) h =
      let at : k + suc i ≡ (k + 1) + i = omega arith in
      ap (λ (n : ℕ). fails_from o vars table n (operation_at ss i)) at
      ∙ among_none (k + 1) ss (or_else-none (fails_from o vars table k s.operation) (fails_among o vars table (k + 1) ss) e).1 i (omega arith)

  none-among : (k : ℕ) (ss : List Statement) → ((i : ℕ) → i < length ss → fails_from o vars table (k + i) (operation_at ss i) ≡ None) → fails_among o vars table k ss ≡ None
  none-among k [] f = refl
  none-among k (s ∷ ss) f =
      or_else-both (fails_from o vars table k s.operation) (fails_among o vars table (k + 1) ss)
      (ap (λ (n : ℕ). fails_from o vars table n s.operation) (sym (add-zero k)) ∙ f 0 (omega arith))
      (none-among (k + 1) ss
      (λ i h.
      let at : (k + 1) + i ≡ k + suc i = omega arith in
      ap (λ (n : ℕ). fails_from o vars table n (operation_at ss i)) at ∙ f (suc i) (omega arith)))

  -- each way on's part of an answer over both
  on_none : (k : ℕ) (op : Operation) → fails_from o vars table k op ≡ None → is_unreachable o (row_at (width vars) table k) ≡ false → (edge : Edge) → fails_on o vars table k op edge ≡ None
  on_none k op e reach way.Fall =
      (or_else-none (fails_on o vars table k op way.Fall) (fails_on o vars table k op way.Jump)
      (skip-none (is_unreachable o (row_at (width vars) table k)) (or_else (fails_on o vars table k op way.Fall) (fails_on o vars table k op way.Jump)) e reach)).0
  on_none k op e reach way.Jump =
      (or_else-none (fails_on o vars table k op way.Fall) (fails_on o vars table k op way.Jump)
      (skip-none (is_unreachable o (row_at (width vars) table k)) (or_else (fails_on o vars table k op way.Fall) (fails_on o vars table k op way.Jump)) e reach)).1

  if_none : (k : ℕ) (x : Option (List (Cell S))) → ((next : List (Cell S)) → x ≡ Some next → fails_at o vars table k next ≡ None) → fails_if o vars table k x ≡ None
  if_none k (Some row) f = f row refl
  if_none k None f = refl

  -- a table in which no place fails takes in all that is carried
  passes-with : (ss : List Statement) → length table ≡ table_size (p ss) → fails_with o vars table ss ≡ None → Passes o (p ss) table
  passes-with [] size e = record { sized = size; starts = λ h. absurd (omega arith); carries = λ k h. absurd (omega arith) }
  passes-with (s ∷ ss) size e =
      let all = s ∷ ss in
      let parts = or_else-none (fails_at o vars table 0 (start_row o vars)) (fails_among o vars table 0 all) e in
      record {
        sized = size;
        starts = λ h. taken_in all 0 (start_row o vars) (start-length o vars) parts.0;
        carries = λ k h reach edge next is.
            let from = ap (λ (n : ℕ). fails_from o vars table n (operation_at all k)) (let z : k ≡ 0 + k = omega arith in z) ∙ among_none 0 all parts.1 k h in
            let on = on_none k (operation_at all k) from reach edge in
            let long = carried-length o vars (row_at (width vars) table k) (row-length (width vars) (length all) k table size h) (operation_at all k) edge next is in
            taken_in all (target_of k (operation_at all k) edge) next long (ap (fails_if o vars table (target_of k (operation_at all k) edge)) (sym is) ∙ on);
      }

  -- and the other way round
  fails-none : (ss : List Statement) → Passes o (p ss) table → fails_with o vars table ss ≡ None
  fails-none [] t = refl
  fails-none (s ∷ ss) t =
      let all = s ∷ ss in
      or_else-both (fails_at o vars table 0 (start_row o vars)) (fails_among o vars table 0 all)
      (fails-not all 0 (start_row o vars) (start-length o vars) (t.starts (omega arith)))
      (none-among 0 all
      (λ i h.
      let at : 0 + i ≡ i = omega arith in
      ap (λ (n : ℕ). fails_from o vars table n (operation_at all i)) at
      ∙ cond_both (is_unreachable o (row_at (width vars) table i)) None (or_else (fails_on o vars table i (operation_at all i) way.Fall) (fails_on o vars table i (operation_at all i) way.Jump)) (λ (x : Option ℕ). x ≡ None) (λ e. refl)
      (λ e.
      let way-none : (edge : Edge) → fails_on o vars table i (operation_at all i) edge ≡ None = λ edge.
      if_none (target_of i (operation_at all i) edge) (carried o vars (row_at (width vars) table i) (operation_at all i) edge)
      (λ next is.
      fails-not all (target_of i (operation_at all i) edge) next
      (carried-length o vars (row_at (width vars) table i) (row-length (width vars) (length all) i table t.sized h) (operation_at all i) edge next is)
      (t.carries i h e edge next is)) in
      or_else-both (fails_on o vars table i (operation_at all i) way.Fall) (fails_on o vars table i (operation_at all i) way.Jump) (way-none way.Fall) (way-none way.Jump))))

pub passes-from : {S : Type 0} (o : Ops S) (p : Code) (table : List (Cell S)) → length table ≡ table_size p → first_failure o p table ≡ None → Passes o p table
passes-from o p table size e = passes-with o p.variables table p.statements size e

pub passes-to : {S : Type 0} (o : Ops S) (p : Code) (table : List (Cell S)) → Passes o p table → first_failure o p table ≡ None
passes-to o p table t = fails-none o p.variables table p.statements t
