-- What holds of every state that a program can come to.
use Rattle.std.proofs.Common.{◌≡◌, ℕ, ◌<◌, ◌≤◌, List, ◌∷◌, length, Some, Ok, refl, ap, ◌∙◌, subst, arith}
use Rattle.domain.specs.Domain.{Ops, Lawful}
use Rattle.syntax.specs.declared.record.Operation.{Operation}
use Rattle.syntax.specs.declared.record.Operation.TheVariants.{Return}
use Rattle.reading.specs.Formed.{Formed}
use Rattle.program.specs.Model.{Code}
use Rattle.cells.specs.declared.cell.Cell.{Cell}
use Rattle.meaning.specs.declared.edge.Edge.{Edge}
use Rattle.meaning.specs.declared.edge.Edge.TheVariants as way
use Rattle.meaning.specs.Meaning.{State, perform}
use Rattle.transfer.specs.Rows.{width, row_at, start_row}
use Rattle.transfer.specs.Transfer.{carried, return_row, target_of}
use Rattle.transfer.specs.Soundness.{Sized, CoversState, Before}
use Rattle.transfer.proofs.Simulation.{each_from, carries}
use Rattle.transfer.proofs.Simulates.{simulates}
use Rattle.transfer.proofs.Starts.{simulates-return, starts-covered}
use Rattle.table.specs.Tables.{operation_at}
use Rattle.table_check.specs.Passing.{Passes, TakenIn}
use Rattle.soundness.specs.Reachable.{Reachable, first, next, again, at_start, ReachableCovered}
use Rattle.soundness.proofs.Sizes.{Kept, KeptOk, perform_kept}
use Rattle.soundness.proofs.Targets.{target-inside}
use Rattle.soundness.proofs.Covers.{row-covers, reached}
use Rattle.table_check.proofs.Lengths.{start-length, return-length, carried-length}
use Rattle.soundness.proofs.Lengths.{row-long}

-- a state before a statement: the statement is there, numbers are inside INT, and each variable has a place
pub record Sane (p : Code) (k : ℕ) (s : State) : Type 0 where
  pub inside : k < length p.statements
  pub sized : Sized s
  pub there : length p.variables ≤ length s.values

module _ (p : Code) (formed : Formed p.variables p.statements) where
  abbrev op : ℕ → Operation
  op k = operation_at p.statements k

  next_sane : (k : ℕ) (s : State) (edge : Edge) (t : State) → Sane p k s → (operation_at p.statements k ≡ Return → ⊥) → perform p.variables (operation_at p.statements k) s ≡ Ok (edge, t) → Sane p (target_of k (operation_at p.statements k) edge) t
  next_sane k s edge t b n e =
      let names = formed.whole k b.inside in
      let kept : Kept (length s.values) t = subst (KeptOk (length s.values)) e (perform_kept p.variables p.statements s b.sized (op k) names) in
      record {
        inside = target-inside p.statements k b.inside (length p.variables) names formed.returning n edge;
        sized = kept.sized;
        there = omega (arith, kept.long, b.there);
      }

  pub reach-sane : (k : ℕ) (s : State) → Reachable p k s → Sane p k s
  reach-sane _ _ (first new h g) = record { inside = h; sized = record { cr = refl; values = g.sized }; there = g.there }
  reach-sane _ _ (next k s edge t r n e) = next_sane k s edge t (reach-sane k s r) n e
  reach-sane _ _ (again k s new r e g) =
      let b = reach-sane k s r in record { inside = omega (arith, b.inside); sized = record { cr = refl; values = g.sized }; there = g.there }

  module _ {S : Type 0} (o : Ops S) (law : Lawful o) (table : List (Cell S)) (passes : Passes o p table) where
    abbrev row_of : ℕ → List (Cell S)
    row_of k = row_at (width p.variables) table k

    row-wide : (k : ℕ) → k < length p.statements → length (row_of k) ≡ width p.variables
    row-wide k h = row-long table (length p.statements) (width p.variables) k passes.sized h

    -- the state before a statement, covered by its row
    pub before : (k : ℕ) (s : State) → Sane p k s → CoversState o (row_of k) s → Before o p.variables p.statements (op k) (row_of k) s
    before k s b e = record {
      names = formed.whole k b.inside;
      ordered = formed.ordered;
      long = row-wide k b.inside;
      there = b.there;
      sized = b.sized;
      covered = e;
    }

    -- a row that covers a state, and is taken in where it comes, leaves the state covered there
    taken : (row : List (Cell S)) (k : ℕ) (s : State) → Sane p k s → length row ≡ width p.variables → TakenIn o p table k row → CoversState o row s → CoversState o (row_of k) s
    taken row k s b long t e = row-covers o law row (row_of k) s b.sized (omega (arith, long, row-wide k b.inside)) (t (reached o law row s b.sized e)) e

    from_start : (new : List _) → Reachable p 0 (at_start new) → 0 < length p.statements → CoversState o (start_row o p.variables) (at_start new) → CoversState o (row_of 0) (at_start new)
    from_start new r h e = taken (start_row o p.variables) 0 (at_start new) (reach-sane 0 (at_start new) r) (start-length o p.variables) (passes.starts h) e

    on-next : (k : ℕ) (s : State) (edge : Edge) (t : State) → Sane p k s → CoversState o (row_of k) s → (op k ≡ Return → ⊥) → perform p.variables (op k) s ≡ Ok (edge, t) → CoversState o (row_of (target_of k (op k) edge)) t
    on-next k s edge t b c n e =
        let f = simulates o law p.variables p.statements (op k) (row_of k) s (before k s b c) edge t e n in
        let row = f.0 in
        let live = reached o law (row_of k) s b.sized c in
        taken row (target_of k (op k) edge) t (next_sane k s edge t b n e) (carried-length o p.variables (row_of k) (row-wide k b.inside) (op k) edge row f.1) (passes.carries k b.inside live edge row f.1) f.2

    -- a return carries the row that it leaves
    return-carries : (k : ℕ) (s : State) → Sane p k s → CoversState o (row_of k) s → carried o p.variables (row_of k) Return way.Jump ≡ Some (return_row o p.variables (row_of k))
    return-carries k s b c = carries o law p.variables (row_of k) s (row-wide k b.inside) b.sized formed.ordered (each_from o (row_of k) (s.cr ∷ s.values) c) p.statements Return refl refl way.Jump

    on_return : (k : ℕ) (s : State) → Sane p k s → CoversState o (row_of k) s → op k ≡ Return → TakenIn o p table 0 (return_row o p.variables (row_of k))
    on_return k s b c q =
        let e : carried o p.variables (row_of k) (op k) way.Jump ≡ Some (return_row o p.variables (row_of k)) = ap (λ x. carried o p.variables (row_of k) x way.Jump) q ∙ return-carries k s b c in
        let t = passes.carries k b.inside (reached o law (row_of k) s b.sized c) way.Jump (return_row o p.variables (row_of k)) e in
        subst (λ x. TakenIn o p table (target_of k x way.Jump) (return_row o p.variables (row_of k))) q t

    pub covered : (k : ℕ) (s : State) → Reachable p k s → CoversState o (row_of k) s
    covered _ _ (first new h g) = from_start new (first new h g) h (starts-covered o law p.variables formed.ordered new g.started)
    covered _ _ (next k s edge t r n e) = on-next k s edge t (reach-sane k s r) (covered k s r) n e
    covered _ _ (again k s new r q g) =
        let b = reach-sane k s r in
        let c = covered k s r in
        let e = simulates-return o law p.variables p.statements (row_of k) s (subst (λ x. Before o p.variables p.statements x (row_of k) s) q (before k s b c)) new g.started in
        taken (return_row o p.variables (row_of k)) 0 (at_start new) (reach-sane 0 (at_start new) (again k s new r q g)) (return-length o p.variables (row_of k)) (on_return k s b c q) e

-- for every kind of sets that keeps the laws
pub reachable-covered : {S : Type 0} (o : Ops S) → Lawful o → (p : Code) → Formed p.variables p.statements → ReachableCovered o p
reachable-covered o law p formed table passes k s r = covered p formed o law table passes k s r
