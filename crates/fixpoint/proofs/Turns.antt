-- One turn of bringing a row in place, and the rows that changes stand for.
use Rattle.std.proofs.Common.{◌≡◌, ℕ, ◌+◌, ◌*◌, ◌<◌, ◌≤◌, Bool as Truth, true, false, not, ◌||◌, List, [], ◌∷◌, length, get_or, drop, set, Option, sym, refl, ap, ◌∙◌, arith}
use Rattle.std.proofs.lemmas.List.{at_drop_more, at_drop_all, get_or_default}
use Rattle.std.proofs.lemmas.Bool.{cond-true, cond-false}
use Rattle.domain.specs.Domain.{Ops}
use Rattle.syntax.specs.declared.record.Operation.{Operation}
use Rattle.syntax.specs.declared.record.Statement.{Statement}
use Rattle.syntax.specs.declared.record.Variable.{Variable}
use Rattle.cells.specs.declared.cell.Cell.{Cell}
use Rattle.cells.specs.Cells.{nothing, within}
use Rattle.meaning.specs.declared.edge.Edge.{Edge}
use Rattle.meaning.specs.declared.edge.Edge.TheVariants as way
use Rattle.transfer.specs.declared.carry.Carried.{Carried}
use Rattle.transfer.specs.Rows.{width, row_at, is_unreachable, start_row}
use Rattle.transfer.specs.Transfer.{carried, target_of}
use Rattle.transfer.specs.Carrying.{mapped, row_of}
use Rattle.table.specs.Growing.{Grown, unchanged, taken_in, grown}
use Rattle.table.proofs.Turns.{grown-more}
use Rattle.fixpoint.specs.Sweeps.{and_then, brought, brought_if, brought_on, brought_from, swept_from, swept_with}

module _ {S : Type 0} (o : Ops S) (widening : Truth) where
  -- a turn that found a cell at a place, and left `after` there
  pub brought-more : (cells : List (Cell S)) (changed grew : Truth) (start place : ℕ) (row : List (Cell S)) (i : ℕ) (c after x : Cell S) → place ≡ start + i → i < length row → place < length cells → c ≡ get_or row i (nothing o) → after ≡ taken_in o widening (get_or cells place x) c → grew ≡ not (within o c (get_or cells place x))
      → grown o widening (set cells place after) (changed || grew) (start + (i + 1)) (drop (i + 1) row) ≡ grown o widening cells changed (start + i) (drop i row)
  brought-more cells changed grew start place row i c after x pe h l ce ae ge =
      let same : get_or cells place x ≡ get_or cells (start + i) (nothing o) = get_or_default cells place x (nothing o) l ∙ ap (λ (n : ℕ). get_or cells n (nothing o)) pe in
      let written : set cells place after ≡ set cells (start + i) (taken_in o widening (get_or cells (start + i) (nothing o)) c) =
      ap (λ (n : ℕ). set cells n after) pe ∙ ap (set cells (start + i)) (ae ∙ ap (λ t. taken_in o widening t c) same)
      in
      grown-more o widening cells (set cells place after) changed grew start row i (get_or cells (start + i) (nothing o)) c (nothing o) h refl ce written (ge ∙ ap (λ t. not (within o c t)) same)

  -- the last turn
  pub brought-done : (cells before : List (Cell S)) (changed : Truth) (start i : ℕ) (row : List (Cell S)) → length row ≤ i → grown o widening cells changed (start + i) (drop i row) ≡ grown o widening before false start row → ◌≡◌ {A = Grown S} (record { cells = cells; changed = changed }) (grown o widening before false start row)
  brought-done cells before changed start i row h e = sym (at_drop_all (grown o widening cells changed (start + i)) row i h) ∙ e

-- one thing after another, by what each left
pub then-made : {S : Type 0} (f : Grown S) (j : List (Cell S) → Grown S) (mid last : List (Cell S)) (fell jumped : Truth) → f ≡ record { cells = mid; changed = fell } → j mid ≡ record { cells = last; changed = jumped } → and_then f j ≡ record { cells = last; changed = fell || jumped }
then-made {S} f j mid last fell jumped fe je =
    ap (λ g. and_then g j) fe ∙ ap (λ (g : Grown S). record { cells = g.cells; changed = fell || g.changed }) je

-- what was carried from the row that was read
pub carried-read : {S : Type 0} (o : Ops S) (vars : List Variable) (read row : List (Cell S)) (op : Operation) (edge : Edge) (r : Option (Carried S)) → read ≡ row → mapped (row_of o vars read) r ≡ carried o vars read op edge → mapped (row_of o vars row) r ≡ carried o vars row op edge
carried-read o vars read row op edge r e f =
    ap (λ l. mapped (row_of o vars l) r) (sym e) ∙ f ∙ ap (λ l. carried o vars l op edge) e

module _ {S : Type 0} (o : Ops S) (widening : Truth) (vars : List Variable) where
  -- a row that can be reached is brought, another is not
  pub brought-reached : (k : ℕ) (row cells : List (Cell S)) → is_unreachable o row ≡ false → brought o widening vars k row cells ≡ grown o widening cells false (k * width vars) row
  brought-reached k row cells e = cond-false (is_unreachable o row) (unchanged cells) (grown o widening cells false (k * width vars) row) e

  pub brought-unreached : (k : ℕ) (row cells : List (Cell S)) → is_unreachable o row ≡ true → brought o widening vars k row cells ≡ unchanged cells
  brought-unreached k row cells e = cond-true (is_unreachable o row) (unchanged cells) (grown o widening cells false (k * width vars) row) e

  module _ (k : ℕ) (op : Operation) (edge : Edge) (cells : List (Cell S)) where
    -- what is brought on a way on, by what was carried there
    pub brought-by : (r : Option (Carried S)) → mapped (row_of o vars (row_at (width vars) cells k)) r ≡ carried o vars (row_at (width vars) cells k) op edge → brought_on o widening vars k op edge cells ≡ brought_if o widening vars (target_of k op edge) (mapped (row_of o vars (row_at (width vars) cells k)) r) cells
    brought-by r e = ap (λ p. brought_if o widening vars (target_of k op edge) p cells) (sym e)

  -- a row that can be reached goes both ways, another none
  module _ (k : ℕ) (op : Operation) (cells : List (Cell S)) where
    pub from-unreached : is_unreachable o (row_at (width vars) cells k) ≡ true → brought_from o widening vars k op cells ≡ unchanged cells
    from-unreached e = cond-true (is_unreachable o (row_at (width vars) cells k)) (unchanged cells) _ e

    pub from-reached : is_unreachable o (row_at (width vars) cells k) ≡ false → brought_from o widening vars k op cells ≡ and_then (brought_on o widening vars k op way.Fall cells) (brought_on o widening vars k op way.Jump)
    from-reached e = cond-false (is_unreachable o (row_at (width vars) cells k)) (unchanged cells) _ e

  pub swept-more : (cells cells' : List (Cell S)) (changed grew : Truth) (k : ℕ) (ss : List Statement) (d : Statement) → k < length ss → brought_from o widening vars k (get_or ss k d).operation cells ≡ record { cells = cells'; changed = grew }
      → swept_from o widening vars (record { cells = cells'; changed = changed || grew }) (k + 1) (drop (k + 1) ss) ≡ swept_from o widening vars (record { cells = cells; changed = changed }) k (drop k ss)
  swept-more cells cells' changed grew k ss d h e =
      ap (λ (x : Grown S). swept_from o widening vars (record { cells = x.cells; changed = changed || x.changed }) (k + 1) (drop (k + 1) ss)) (sym e)
      ∙ sym (at_drop_more (swept_from o widening vars (record { cells = cells; changed = changed }) k) ss k d h)

  pub swept-done : (g : Grown S) (k : ℕ) (ss : List Statement) → length ss ≤ k → swept_from o widening vars g k (drop k ss) ≡ g
  swept-done g k ss h = at_drop_all (swept_from o widening vars g k) ss k h

  pub swept_none : (ss : List Statement) (cells : List (Cell S)) → length ss ≡ 0 → swept_with o widening vars ss cells ≡ unchanged cells
  swept_none [] cells e = refl
  swept_none (s ∷ ss) cells e = absurd (omega arith)

  pub swept-some : (ss : List Statement) (cells : List (Cell S)) → 0 < length ss → swept_with o widening vars ss cells ≡ swept_from o widening vars (brought o widening vars 0 (start_row o vars) cells) 0 ss
  swept-some [] cells h = absurd (omega arith)
  swept-some (s ∷ ss) cells h = refl
