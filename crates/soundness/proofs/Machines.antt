-- Controllers after any calls: where they stand, and what they have counted.
use Rattle.std.proofs.Common.{◌≡◌, ℕ, ◌+◌, ◌<◌, ◌≤◌, Bool as Truth, false, cond, not, eqb, List, [], ◌∷◌, ◌++◌, length, get_or, replicate, ℤ, Some, None, Ok, Err, Option, Result, sym, refl, ap, ◌∙◌, subst, arith}
use lib.ListN.{length-replicate}
use Rattle.std.proofs.lemmas.Bool.{cond_both}
use Rattle.domain.specs.Domain.{Ops, Lawful}
use Rattle.syntax.specs.declared.record.Operation.{Operation}
use Rattle.syntax.specs.declared.record.Operation.TheVariants.{Return, Not, Label, Apply, Store, Jump}
use Rattle.syntax.specs.declared.record.Statement.{Statement}
use Rattle.syntax.specs.Records.{no_variable}
use Rattle.reading.specs.Formed.{Formed}
use Rattle.program.specs.Model.{Code}
use Rattle.cells.specs.declared.value.Value.{Value}
use Rattle.cells.specs.declared.value.Value.TheVariants.{Unset}
use Rattle.cells.specs.declared.cell.Cell.{Cell}
use Rattle.meaning.specs.declared.compute.Cause.{Cause}
use Rattle.meaning.specs.declared.edge.Edge.{Edge}
use Rattle.meaning.specs.declared.edge.Edge.TheVariants as way
use Rattle.meaning.specs.Meaning.{State, perform}
use Rattle.transfer.specs.Rows.{width, row_at}
use Rattle.transfer.specs.Transfer.{target_of}
use Rattle.transfer.specs.Soundness.{StartedAt, initial_values}
use Rattle.transfer.proofs.Simulates.{same-pair}
use Rattle.transfer.proofs.Foresees.{foresees}
use Rattle.table.specs.Tables.{operation_at, table_size}
use Rattle.table_check.specs.Passing.{Passes}
use Rattle.controller.specs.declared.phase.Phase.{Phase}
use Rattle.controller.specs.declared.phase.Phase.TheVariants.{Waiting, Running, Stopped}
use Rattle.controller.specs.declared.fault.CallFault.TheVariants.{WrongSize, StepsFull, BadInput}
use Rattle.controller.specs.declared.call.Sight.{Sight}
use Rattle.controller.specs.Tallies.{Tally, none, is_full, stepped as counted, tallied}
use Rattle.controller.specs.Lists.{input_count, first_bad, given, begun, initially}
use Rattle.controller.specs.Machine.{Machine, refused, done, first_phase, phase_after, advanced, start_with, sight_of, stepped, fresh}
use Rattle.controller.specs.Runs.{CallOf, take_start, take_step, take_restart, take_read, after, after_all}
use Rattle.controller.proofs.Laws.{restarts, read_keeps}
use Rattle.soundness.specs.Reachable.{Given, Reachable, first, next, again, at_start}
use Rattle.soundness.specs.Promise.{StepsStayCovered, StopsAreMarked, RunsReach, CallsAreRuns}
use Rattle.soundness.proofs.Sizes.{AllSized}
use Rattle.soundness.proofs.Targets.{no_return}
use Rattle.soundness.proofs.Reaching.{reach-sane, before, covered}
use Rattle.soundness.proofs.Starting.{given-started, given-length, given-sized, begun-at, begun-length, begun_sized, unset-sized}

-- values from which a scan may start
pub record Ready (p : Code) (values : List Value) : Type 0 where
  pub there : length p.variables ≤ length values
  pub sized : AllSized values
  pub starts : (new : List Value) → Given p values new → Reachable p 0 (at_start new)

-- where a controller stands: waiting with such values, or running where its program can come to
abbrev pub Placed : Code → Phase → ℕ → State → Type 0
Placed p Waiting k s = Ready p s.values
Placed p Running k s = Reachable p k s
Placed p (Stopped c) k s = Unit {0}

abbrev pub Stands : Code → Machine → Type 0
Stands p m = Placed p m.phase m.at m.memory

abbrev made : Phase → ℕ → State → Tally → Machine
made f k s t = record { phase = f; at = k; memory = s; counts = t }

module _ (p : Code) (formed : Formed p.variables p.statements) where
  -- a new controller
  abbrev fresh-values : List Value
  fresh-values = begun p.variables (replicate 64 Unset)

  fresh-long : length fresh-values ≡ 64
  fresh-long = begun-length p.variables (replicate 64 Unset) ∙ length-replicate 64 Unset

  room : length p.variables ≤ length (replicate 64 Unset)
  room = omega (arith, formed.few, length-replicate 64 Unset)

  from-initial : (new : List Value) → Given p fresh-values new → Given p (initial_values p.variables) new
  from-initial new g = record {
    started = λ j h. subst (λ x. StartedAt (get_or p.variables j no_variable).declaration.class (get_or p.variables j no_variable) x (get_or new j Unset)) (begun-at p.variables (replicate 64 Unset) room j h) (g.started j h);
    there = g.there;
    sized = g.sized;
  }

  fresh-by : (ss : List Statement) → ss ≡ p.statements → Placed p (first_phase ss) 0 (initially p.variables)
  fresh-by [] e = tt
  fresh-by (s ∷ ss) e = record {
    there = omega (arith, fresh-long, formed.few);
    sized = begun_sized p.variables (replicate 64 Unset) formed.ordered (unset-sized 64);
    starts = λ new g. first new (subst (λ l. 0 < length l) e (omega arith)) (from-initial new g);
  }

  pub fresh-stands : (t : Tally) → Stands p (fresh p t)
  fresh-stands t = fresh-by p.statements refl

  -- a start
  start-with : (xs : List ℤ) (k : ℕ) (s : State) (t : Tally) → Ready p s.values → (bad : Option ℕ) → first_bad xs 0 p.variables ≡ bad → Stands p (start_with p xs bad (made Waiting k s t)).next
  start-with xs k s t r (Some j) e = r
  start-with xs k s t r None e =
      r.starts (given xs 0 p.variables s.values) (record {
        started = given-started xs 0 p.variables s.values formed.ordered r.there e;
        there = omega (arith, given-length xs 0 p.variables s.values, r.there);
        sized = given-sized xs 0 p.variables s.values r.sized;
      })

  -- a step
  module _ (k : ℕ) (s : State) (r : Reachable p k s) where
    goes : (op : Operation) → op ≡ operation_at p.statements k → (op ≡ Return → ⊥) → (w : Edge × State) → perform p.variables op s ≡ Ok w → Reachable p (target_of k op w.0) w.1
    goes op q n w e = subst (λ x. Reachable p (target_of k x w.0) w.1) (sym q) (next k s w.0 w.1 r (λ h. n (q ∙ h)) (ap (λ x. perform p.variables x s) (sym q) ∙ e))

    returned : (w : Edge × State) → Return ≡ operation_at p.statements k → perform p.variables Return s ≡ Ok w → Ready p w.1.values
    returned w q e =
        let b = reach-sane p formed k s r in
        let same : ◌≡◌ {A = Edge × State} (way.Jump, record { cr = Unset; values = s.values }) w = same-pair (way.Jump, record { cr = Unset; values = s.values }) w e in
        subst (λ (x : Edge × State). Ready p x.1.values) same (record { there = b.there; sized = b.sized.values; starts = λ new g. again k s new r (sym q) g })

    went : (op : Operation) → op ≡ operation_at p.statements k → (w : Edge × State) → perform p.variables op s ≡ Ok w → Placed p (phase_after op) (target_of k op w.0) w.1
    went Return q w e = returned w q e
    went Not q w e = goes Not q (no_return Not refl) w e
    went (Label name) q w e = goes (Label name) q (no_return (Label name) refl) w e
    went (Apply a x) q w e = goes (Apply a x) q (no_return (Apply a x) refl) w e
    went (Store a i) q w e = goes (Store a i) q (no_return (Store a i) refl) w e
    went (Jump j a) q w e = goes (Jump j a) q (no_return (Jump j a) refl) w e

    advances : (sight : Sight) (t : Tally) (want : Result (Edge × State) Cause) → perform p.variables (operation_at p.statements k) s ≡ want → Stands p (advanced sight (operation_at p.statements k) want (made Running k s t))
    advances sight t (Ok w) e = went (operation_at p.statements k) refl w e
    advances sight t (Err c) e = tt

  module _ {S : Type 0} (o : Ops S) (table : List (Cell S)) where
    call-stands : (c : CallOf) (f : Phase) (k : ℕ) (s : State) (t : Tally) → Placed p f k s → Stands p (after o p table c (made f k s t))
    call-stands (take_start xs) Waiting k s t r = cond_both (eqb (length xs) (input_count p.variables)) (start_with p xs (first_bad xs 0 p.variables) (made Waiting k s t)) (refused (BadInput (input_count p.variables)) (made Waiting k s t)) (λ x. Stands p x.next) (λ e. start-with xs k s t r (first_bad xs 0 p.variables) refl) (λ e. r)
    call-stands (take_start xs) Running k s t r = r
    call-stands (take_start xs) (Stopped c) k s t r = r
    call-stands take_step Waiting k s t r = r
    call-stands take_step Running k s t r =
        let m = made Running k s t in
        let sight = sight_of o p table m in
        cond_both (eqb (length table) (table_size p)) (cond (is_full t) (refused (StepsFull k) m) (done (stepped p sight m))) (refused (WrongSize (table_size p)) m) (λ x. Stands p x.next)
        (λ e. cond_both (is_full t) (refused (StepsFull k) m) (done (stepped p sight m)) (λ x. Stands p x.next) (λ f. r) (λ f. advances k s r sight t (perform p.variables (operation_at p.statements k) s) refl)) (λ e. r)
    call-stands take_step (Stopped c) k s t r = r
    call-stands take_restart Waiting k s t r = fresh-stands t
    call-stands take_restart Running k s t r = fresh-stands t
    call-stands take_restart (Stopped c) k s t r = fresh-stands t
    call-stands (take_read n) f k s t r = subst (Stands p) (sym (read_keeps p f n (made f k s t))) r

    after-stands : (c : CallOf) (m : Machine) → Stands p m → Stands p (after o p table c m)
    after-stands c m r = call-stands c m.phase m.at m.memory m.counts r

    all-stand : (cs : List CallOf) (m : Machine) → Stands p m → Stands p (after_all o p table cs m)
    all-stand [] m r = r
    all-stand (c ∷ cs) m r = all-stand cs (after o p table c m) (after-stands c m r)

-- what has been counted: no step outside its row, and no stop without its mark
pub record Clear (t : Tally) : Type 0 where
  pub outside : t.outside ≡ 0
  pub unmarked : t.unmarked ≡ 0

tallied-clear : (a b : Truth) (t : Tally) → a ≡ false → b ≡ false → Clear t → Clear (tallied a b t)
tallied-clear a b t ea eb c = cond_both (is_full t) t (counted a b t) Clear (λ e. c) (λ e. record { outside = ap (λ x. cond x (t.outside + 1) t.outside) ea ∙ c.outside; unmarked = ap (λ x. cond x (t.unmarked + 1) t.unmarked) eb ∙ c.unmarked })

module _ {S : Type 0} (o : Ops S) (law : Lawful o) (p : Code) (formed : Formed p.variables p.statements) (table : List (Cell S)) (passes : Passes o p table) where
  advanced-clear : (k : ℕ) (s : State) (t : Tally) → Reachable p k s → (want : Result (Edge × State) Cause) → perform p.variables (operation_at p.statements k) s ≡ want → Clear t → Clear (advanced (sight_of o p table (made Running k s t)) (operation_at p.statements k) want (made Running k s t)).counts
  advanced-clear k s t r (Ok w) e c =
      let in_row = covered p formed o law table passes k s r in tallied-clear _ false t (ap not in_row) refl c
  advanced-clear k s t r (Err cause) e c =
      let in_row = covered p formed o law table passes k s r in
      let sane = reach-sane p formed k s r in
      let marked = foresees o law p.variables p.statements (operation_at p.statements k) (row_at (width p.variables) table k) s (before p formed o law table passes k s sane in_row) cause e in
      tallied-clear _ _ t (ap not in_row) (ap not marked) c

  call-clear : (c : CallOf) (f : Phase) (k : ℕ) (s : State) (t : Tally) → Placed p f k s → Clear t → Clear (after o p table c (made f k s t)).counts
  call-clear (take_start xs) Waiting k s t r z =
      cond_both (eqb (length xs) (input_count p.variables)) (start_with p xs (first_bad xs 0 p.variables) (made Waiting k s t)) (refused (BadInput (input_count p.variables)) (made Waiting k s t)) (λ x. Clear x.next.counts) (λ e. by (first_bad xs 0 p.variables)) (λ e. z)
    where
      by : (bad : Option ℕ) → Clear (start_with p xs bad (made Waiting k s t)).next.counts
      by (Some j) = z
      by None = z
  call-clear (take_start xs) Running k s t r z = z
  call-clear (take_start xs) (Stopped c) k s t r z = z
  call-clear take_step Waiting k s t r z = z
  call-clear take_step Running k s t r z =
      let m = made Running k s t in
      let sight = sight_of o p table m in
      cond_both (eqb (length table) (table_size p)) (cond (is_full t) (refused (StepsFull k) m) (done (stepped p sight m))) (refused (WrongSize (table_size p)) m) (λ x. Clear x.next.counts)
      (λ e. cond_both (is_full t) (refused (StepsFull k) m) (done (stepped p sight m)) (λ x. Clear x.next.counts) (λ f. z) (λ f. advanced-clear k s t r (perform p.variables (operation_at p.statements k) s) refl z)) (λ e. z)
  call-clear take_step (Stopped c) k s t r z = z
  call-clear take_restart Waiting k s t r z = z
  call-clear take_restart Running k s t r z = z
  call-clear take_restart (Stopped c) k s t r z = z
  call-clear (take_read n) f k s t r z = subst (λ m. Clear m.counts) (sym (read_keeps p f n (made f k s t))) z

  all-clear : (cs : List CallOf) (m : Machine) → Stands p m → Clear m.counts → Clear (after_all o p table cs m).counts
  all-clear [] m r z = z
  all-clear (c ∷ cs) m r z =
      all-clear cs (after o p table c m) (after-stands p formed o table c m r) (call-clear c m.phase m.at m.memory m.counts r z)

  new-clear : (cs : List CallOf) (m : Machine) → after_all o p table cs (fresh p none) ≡ m → Clear m.counts
  new-clear cs m e = subst (λ x. Clear x.counts) e (all-clear cs (fresh p none) (fresh-stands p formed none) (record { outside = refl; unmarked = refl }))

module _ {S : Type 0} (o : Ops S) (p : Code) (formed : Formed p.variables p.statements) where
  pub steps-stay-covered : Lawful o → StepsStayCovered o p
  steps-stay-covered law table passes cs m e = (new-clear o law p formed table passes cs m e).outside

  pub stops-are-marked : Lawful o → StopsAreMarked o p
  stops-are-marked law table passes cs m e = (new-clear o law p formed table passes cs m e).unmarked

  pub runs-reach : RunsReach o p
  runs-reach table cs m e f =
      subst (λ x. Placed p x m.at m.memory) f (subst (Stands p) e (all-stand p formed o table cs (fresh p none) (fresh-stands p formed none)))

all_more : {S : Type 0} (o : Ops S) (p : Code) (table : List (Cell S)) (cs : List CallOf) (c : CallOf) (m : Machine) → after_all o p table (cs ++ c ∷ []) m ≡ after o p table c (after_all o p table cs m)
all_more o p table [] c m = refl
all_more o p table (d ∷ cs) c m = all_more o p table cs c (after o p table d m)

pub calls-are-runs : {S : Type 0} (o : Ops S) (p : Code) → CallsAreRuns o p
calls-are-runs o p = record {
  start = λ table xs m. refl;
  step = λ table m. refl;
  restart = λ table m. restarts p m.phase m;
  reading = λ table n m. read_keeps p m.phase n m;
  none_yet = λ table. refl;
  one_more = λ table cs m c e. all_more o p table cs c (fresh p none) ∙ ap (after o p table c) e;
}
