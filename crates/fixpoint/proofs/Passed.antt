-- Sweeps up to the first that changes nothing: how they go on, and that the table they leave passes.
use Rattle.std.proofs.Common.{◌≡◌, ℕ, zero, suc, ◌+◌, ◌-◌, ◌*◌, ◌<◌, ◌≤◌, Bool as Truth, true, false, not, ◌||◌, eqb, List, [], ◌∷◌, length, get_or, set, Some, None, Ok, Err, Option, sym, refl, ap, ◌∙◌, subst, arith, length-set}
use lib.ListN.{length-replicate}
use Rattle.std.proofs.lemmas.Bool.{cond-true, cond-false, cond_both, eq-eqb, ne_eqb}
use Rattle.domain.specs.Domain.{Ops}
use Rattle.program.specs.Model.{Code}
use Rattle.syntax.specs.declared.record.Operation.{Operation}
use Rattle.syntax.specs.declared.record.Statement.{Statement}
use Rattle.syntax.specs.declared.record.Variable.{Variable}
use Rattle.reading.specs.Formed.{Formed}
use Rattle.cells.specs.declared.cell.Cell.{Cell}
use Rattle.cells.specs.Cells.{nothing, within}
use Rattle.meaning.specs.declared.edge.Edge.{Edge}
use Rattle.meaning.specs.declared.edge.Edge.TheVariants as way
use Rattle.transfer.specs.Rows.{width, row_at, is_unreachable, start_row}
use Rattle.transfer.specs.Transfer.{carried, target_of}
use Rattle.table.specs.Tables.{table_size}
use Rattle.table.specs.Growing.{Grown, unchanged, taken_in, grown, cleared}
use Rattle.table_check.specs.Passing.{Passes}
use Rattle.table_check.specs.Failures.{fails_with, first_failure}
use Rattle.table_check.proofs.Passing.{passes-from}
use Rattle.fixpoint.specs.declared.fault.SettleFault.TheVariants.{WrongSize, NotSettled}
use Rattle.fixpoint.specs.Sweeps.{widens, and_then, brought, brought_if, brought_on, brought_from, swept_from, swept_with, swept}
use Rattle.fixpoint.specs.Settling.{Settlement, settled_from, settled, settled_in, SettledTablesPass}
use Rattle.fixpoint.proofs.Still.{still-sweep}

module _ {S : Type 0} (sweep : ℕ → List (Cell S) → Grown S) (n k : ℕ) (cells : List (Cell S)) where
  left-more : k < n → settled_from sweep k (n - k) cells ≡ settled_from sweep k (suc (n - (k + 1))) cells
  left-more h = let e : n - k ≡ suc (n - (k + 1)) = omega arith in ap (λ (m : ℕ). settled_from sweep k m cells) e

  pub settled-more : k < n → (sweep (k + 1) cells).changed ≡ true → settled_from sweep (k + 1) (n - (k + 1)) (sweep (k + 1) cells).cells ≡ settled_from sweep k (n - k) cells
  settled-more h e = sym (left-more h ∙ cond-true (sweep (k + 1) cells).changed _ _ e)

  pub settled-stops : k < n → (sweep (k + 1) cells).changed ≡ false → settled_from sweep k (n - k) cells ≡ record { cells = (sweep (k + 1) cells).cells; answer = Ok (k + 1) }
  settled-stops h e = left-more h ∙ cond-false (sweep (k + 1) cells).changed _ _ e

  pub settled-ends : n ≤ k → settled_from sweep k (n - k) cells ≡ record { cells = cells; answer = Err (NotSettled k) }
  settled-ends h = let e : n - k ≡ 0 = omega arith in ap (λ (m : ℕ). settled_from sweep k m cells) e

-- no sweep changes how many cells there are
module _ {S : Type 0} (o : Ops S) (widening : Truth) (vars : List Variable) where
  grown-length : (cells : List (Cell S)) (changed : Truth) (start : ℕ) (row : List (Cell S)) → length (grown o widening cells changed start row).cells ≡ length cells
  grown-length cells changed start [] = refl
  grown-length cells changed start (c ∷ row) =
      grown-length (set cells start (taken_in o widening (get_or cells start (nothing o)) c)) (changed || not (within o c (get_or cells start (nothing o)))) (start + 1) row ∙ length-set cells start _

  brought-length : (k : ℕ) (row cells : List (Cell S)) → length (brought o widening vars k row cells).cells ≡ length cells
  brought-length k row cells =
      cond_both (is_unreachable o row) (unchanged cells) (grown o widening cells false (k * width vars) row) (λ (g : Grown S). length g.cells ≡ length cells) (λ e. refl) (λ e. grown-length cells false (k * width vars) row)

  if-length : (k : ℕ) (next : Option (List (Cell S))) (cells : List (Cell S)) → length (brought_if o widening vars k next cells).cells ≡ length cells
  if-length k (Some row) cells = brought-length k row cells
  if-length k None cells = refl

  on-length : (k : ℕ) (op : Operation) (edge : Edge) (cells : List (Cell S)) → length (brought_on o widening vars k op edge cells).cells ≡ length cells
  on-length k op edge cells = if-length (target_of k op edge) (carried o vars (row_at (width vars) cells k) op edge) cells

  from-length : (k : ℕ) (op : Operation) (cells : List (Cell S)) → length (brought_from o widening vars k op cells).cells ≡ length cells
  from-length k op cells =
      cond_both (is_unreachable o (row_at (width vars) cells k)) (unchanged cells) (and_then (brought_on o widening vars k op way.Fall cells) (brought_on o widening vars k op way.Jump)) (λ (g : Grown S). length g.cells ≡ length cells)
      (λ e. refl)
      (λ e. on-length k op way.Jump _ ∙ on-length k op way.Fall cells)

  among-length : (g : Grown S) (k : ℕ) (ss : List Statement) → length (swept_from o widening vars g k ss).cells ≡ length g.cells
  among-length g k [] = refl
  among-length g k (s ∷ ss) = among-length (and_then g (brought_from o widening vars k s.operation)) (k + 1) ss ∙ from-length k s.operation g.cells

  swept-length : (ss : List Statement) (cells : List (Cell S)) → length (swept_with o widening vars ss cells).cells ≡ length cells
  swept-length [] cells = refl
  swept-length (s ∷ ss) cells = among-length (brought o widening vars 0 (start_row o vars) cells) 0 (s ∷ ss) ∙ brought-length 0 (start_row o vars) cells

module _ {S : Type 0} (o : Ops S) (p : Code) where
  settled-length : (n k : ℕ) (cells : List (Cell S)) → length (settled_from (swept o p) k n cells).cells ≡ length cells
  settled-length zero k cells = refl
  settled-length (suc n) k cells =
      let step = swept o p (k + 1) cells in
      let one = swept-length o (widens (k + 1)) p.variables p.statements cells in
      cond_both step.changed (settled_from (swept o p) (k + 1) n step.cells) (record { cells = step.cells; answer = Ok (k + 1) }) (λ (s : Settlement S). length s.cells ≡ length cells)
      (λ e. settled-length n (k + 1) step.cells ∙ one)
      (λ e. one)

  abbrev Good : ℕ → Settlement S → Type 0
  Good m s = s.answer ≡ Ok m → first_failure o p s.cells ≡ None

  -- where the sweeps settle, no place fails
  settled-good : (m n k : ℕ) (cells : List (Cell S)) → Good m (settled_from (swept o p) k n cells)
  settled-good m zero k cells = λ h. absurd cc
  settled-good m (suc n) k cells =
      let step = swept o p (k + 1) cells in
      cond_both step.changed (settled_from (swept o p) (k + 1) n step.cells) (record { cells = step.cells; answer = Ok (k + 1) }) (Good m)
      (λ e. settled-good m n (k + 1) step.cells)
      (λ e h. let still = still-sweep o (widens (k + 1)) p.variables p.statements cells e in ap (λ xs. fails_with o p.variables xs p.statements) still.same ∙ still.passes)

module _ {S : Type 0} (o : Ops S) where
  pub settled-tables-pass : SettledTablesPass o
  settled-tables-pass p sweeps n e =
      passes-from o p (settled o p sweeps).cells
      (settled-length o p sweeps 0 (cleared o (table_size p)) ∙ length-replicate (table_size p) (nothing o))
      (settled-good o p n sweeps 0 (cleared o (table_size p)) e)

  abbrev refusal : Code → List (Cell S) → Settlement S
  refusal p cells = record { cells = cells; answer = Err (WrongSize (table_size p)) }

  -- the same in the caller's cells
  pub passes-in : (p : Code) (sweeps : ℕ) (cells : List (Cell S)) (n : ℕ) → (settled_in o p sweeps cells).answer ≡ Ok n → Passes o p (settled_in o p sweeps cells).cells
  passes-in p sweeps cells n =
      cond_both (eqb (length cells) (table_size p)) (settled o p sweeps) (refusal p cells) (λ (s : Settlement S). s.answer ≡ Ok n → Passes o p s.cells)
      (λ b. settled-tables-pass p sweeps n)
      (λ b e. absurd cc)

  module _ (p : Code) (vs : List Variable) (ss : List Statement) (ve : vs ≡ p.variables) (se : ss ≡ p.statements) (sweeps : ℕ) (cells : List (Cell S)) where
    abbrev given : Code
    given = record { variables = vs; statements = ss }

    is-given : given ≡ p
    is-given k = record { variables = ve k; statements = se k }

    pub settled-in-size : (clear : List (Cell S)) → length cells ≡ length ss * (length vs + 1) → clear ≡ cleared o (length cells) → settled_from (swept o given) 0 sweeps clear ≡ settled_in o p sweeps cells
    settled-in-size clear long is =
        let size : length cells ≡ table_size p = long ∙ ap table_size is-given in
        ap (settled_from (swept o given) 0 sweeps) (is ∙ ap (cleared o) size)
        ∙ ap (λ (q : Code). settled_from (swept o q) 0 sweeps (cleared o (table_size p))) is-given
        ∙ sym (cond-true (eqb (length cells) (table_size p)) (settled o p sweeps) (refusal p cells) (eq-eqb (length cells) (table_size p) size))

    pub settled-not-in-size : (length cells ≡ length ss * (length vs + 1) → ⊥) → ◌≡◌ {A = Settlement S} (record { cells = cells; answer = Err (WrongSize (length ss * (length vs + 1))) }) (settled_in o p sweeps cells)
    settled-not-in-size ne =
        let size : length ss * (length vs + 1) ≡ table_size p = ap table_size is-given in
        ap (λ (n : ℕ). record { cells = cells; answer = Err (WrongSize n) }) size
        ∙ sym (cond-false (eqb (length cells) (table_size p)) (settled o p sweeps) (refusal p cells) (ne_eqb (length cells) (table_size p) (λ e. ne (e ∙ sym size))))

pub formed-same : (vs vs' : List Variable) (ss ss' : List Statement) → vs ≡ vs' → ss ≡ ss' → Formed vs' ss' → Formed vs ss
formed-same vs vs' ss ss' ve se f =
    subst (λ (x : List Variable). Formed x ss) (sym ve) (subst (λ (y : List Statement). Formed vs' y) (sym se) f)
