-- A table that a sweep leaves as it is has no failure.
use Rattle.std.proofs.Common.{◌≡◌, ℕ, ◌+◌, ◌*◌, Bool as Truth, true, false, cond, not, ◌||◌, List, [], ◌∷◌, get_or, set, Some, None, Option, sym, refl, ap, ◌∙◌}
use lib.Seq.{set-get_or}
use Rattle.std.proofs.lemmas.Bool.{or_parts, not-false, cond-true}
use Rattle.domain.specs.Domain.{Ops}
use Rattle.syntax.specs.declared.record.Operation.{Operation}
use Rattle.syntax.specs.declared.record.Statement.{Statement}
use Rattle.syntax.specs.declared.record.Variable.{Variable}
use Rattle.cells.specs.declared.cell.Cell.{Cell}
use Rattle.cells.specs.Cells.{nothing, within, joined, widened}
use Rattle.meaning.specs.declared.edge.Edge.{Edge}
use Rattle.meaning.specs.declared.edge.Edge.TheVariants as way
use Rattle.transfer.specs.Rows.{width, row_at, is_unreachable, start_row}
use Rattle.transfer.specs.Transfer.{carried, target_of}
use Rattle.table.specs.Growing.{Grown, unchanged, taken_in, grown}
use Rattle.table_check.specs.Failures.{or_else, first_outside, fails_at, fails_if, fails_on, fails_from, fails_among, fails_with}
use Rattle.fixpoint.specs.Sweeps.{and_then, brought, brought_if, brought_on, brought_from, swept_from, swept_with}

-- nothing changed before, the cells are as they were, and there is no failure among them
pub record Still {S : Type 0} (before : Truth) (cells cells' : List (Cell S)) (failure : Option ℕ) : Type 0 where
  pub quiet : before ≡ false
  pub same : cells' ≡ cells
  pub passes : failure ≡ None

module _ {S : Type 0} (o : Ops S) (widening : Truth) (vars : List Variable) where
  still-row : (cells : List (Cell S)) (changed : Truth) (start : ℕ) (row : List (Cell S)) → (grown o widening cells changed start row).changed ≡ false → Still changed cells (grown o widening cells changed start row).cells (first_outside o vars cells start row)
  still-row cells changed start [] h = record { quiet = h; same = refl; passes = refl }
  still-row cells changed start (c ∷ row) h =
      let t = get_or cells start (nothing o) in
      let b = within o c t in
      let next = set cells start (taken_in o widening t c) in
      let rest = still-row next (changed || not b) (start + 1) row h in
      let parts = or_parts changed (not b) rest.quiet in
      let in' : b ≡ true = not-false b parts.1 in
      let back : next ≡ cells = ap (set cells start) (cond-true b t (cond widening (widened o t c) (joined o t c)) in') ∙ set-get_or cells start (nothing o) in
      record {
        quiet = parts.0;
        same = rest.same ∙ back;
        passes = cond-true b (first_outside o vars cells (start + 1) row) (Some start) in' ∙ ap (λ xs. first_outside o vars xs (start + 1) row) (sym back) ∙ rest.passes;
      }

  still-brought : (k : ℕ) (row cells : List (Cell S)) → (brought o widening vars k row cells).changed ≡ false → Still false cells (brought o widening vars k row cells).cells (fails_at o vars cells k row)
  still-brought k row cells h =
      elim (is_unreachable o row) as (λ b. (cond b (unchanged cells) (grown o widening cells false (k * width vars) row)).changed ≡ false → Still false cells (cond b (unchanged cells) (grown o widening cells false (k * width vars) row)).cells (cond b None (first_outside o vars cells (k * width vars) row))) [
        | true ↦ λ e. record { quiet = refl; same = refl; passes = refl }
        | false ↦ λ e. still-row cells false (k * width vars) row e
      ] h

  still-if : (k : ℕ) (row : Option (List (Cell S))) (cells : List (Cell S)) → (brought_if o widening vars k row cells).changed ≡ false → Still false cells (brought_if o widening vars k row cells).cells (fails_if o vars cells k row)
  still-if k (Some row) cells h = still-brought k row cells h
  still-if k None cells h = record { quiet = refl; same = refl; passes = refl }

  still-on : (k : ℕ) (op : Operation) (edge : Edge) (cells : List (Cell S)) → (brought_on o widening vars k op edge cells).changed ≡ false → Still false cells (brought_on o widening vars k op edge cells).cells (fails_on o vars cells k op edge)
  still-on k op edge cells h = still-if (target_of k op edge) (carried o vars (row_at (width vars) cells k) op edge) cells h

  -- two in a row
  still-then : (g : Grown S) (cells : List (Cell S)) (f : List (Cell S) → Grown S) (first second : Option ℕ) → (g.changed ≡ false → Still false cells g.cells first) → ((f cells).changed ≡ false → Still false cells (f cells).cells second) → (and_then g f).changed ≡ false → Still false cells (and_then g f).cells (or_else first second)
  still-then g cells f first second one two h =
      let parts = or_parts g.changed (f g.cells).changed h in
      let a = one parts.0 in
      let b = two (ap (λ xs. (f xs).changed) (sym a.same) ∙ parts.1) in
      record {
        quiet = refl;
        same = ap (λ xs. (f xs).cells) a.same ∙ b.same;
        passes = ap (λ p. or_else p second) a.passes ∙ b.passes;
      }

  still-from : (k : ℕ) (op : Operation) (cells : List (Cell S)) → (brought_from o widening vars k op cells).changed ≡ false → Still false cells (brought_from o widening vars k op cells).cells (fails_from o vars cells k op)
  still-from k op cells h =
      let both = and_then (brought_on o widening vars k op way.Fall cells) (brought_on o widening vars k op way.Jump) in
      let fails = or_else (fails_on o vars cells k op way.Fall) (fails_on o vars cells k op way.Jump) in
      elim (is_unreachable o (row_at (width vars) cells k)) as (λ b. (cond b (unchanged cells) both).changed ≡ false → Still false cells (cond b (unchanged cells) both).cells (cond b None fails)) [
        | true ↦ λ e. record { quiet = refl; same = refl; passes = refl }
        | false ↦ λ e. still-then (brought_on o widening vars k op way.Fall cells) cells (brought_on o widening vars k op way.Jump) _ _ (still-on k op way.Fall cells) (still-on k op way.Jump cells) e
      ] h

  still-among : (g : Grown S) (k : ℕ) (ss : List Statement) → (swept_from o widening vars g k ss).changed ≡ false → Still g.changed g.cells (swept_from o widening vars g k ss).cells (fails_among o vars g.cells k ss)
  still-among g k [] h = record { quiet = h; same = refl; passes = refl }
  still-among g k (s ∷ ss) h =
      let f = brought_from o widening vars k s.operation in
      let rest = still-among (and_then g f) (k + 1) ss h in
      let parts = or_parts g.changed (f g.cells).changed rest.quiet in
      let one = still-from k s.operation g.cells parts.1 in
      record {
        quiet = parts.0;
        same = rest.same ∙ one.same;
        passes = ap (λ p. or_else p (fails_among o vars g.cells (k + 1) ss)) one.passes ∙ ap (λ xs. fails_among o vars xs (k + 1) ss) (sym one.same) ∙ rest.passes;
      }

  pub still-sweep : (ss : List Statement) (cells : List (Cell S)) → (swept_with o widening vars ss cells).changed ≡ false → Still false cells (swept_with o widening vars ss cells).cells (fails_with o vars cells ss)
  still-sweep [] cells h = record { quiet = refl; same = refl; passes = refl }
  still-sweep (s ∷ ss) cells h =
      let start = brought o widening vars 0 (start_row o vars) cells in
      let rest = still-among start 0 (s ∷ ss) h in
      let one = still-brought 0 (start_row o vars) cells rest.quiet in
      record {
        quiet = refl;
        same = rest.same ∙ one.same;
        passes = ap (λ p. or_else p (fails_among o vars cells 0 (s ∷ ss))) one.passes ∙ ap (λ xs. fails_among o vars xs 0 (s ∷ ss)) (sym one.same) ∙ rest.passes;
      }
