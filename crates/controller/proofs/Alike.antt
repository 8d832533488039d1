-- Two tables of the right size: the same calls give controllers that are alike.
use Rattle.std.proofs.Common.{◌≡◌, ℕ, ◌+◌, Bool as Truth, true, false, cond, not, eqb, List, [], ◌∷◌, length, ℤ, Some, None, Ok, Err, Option, Result, sym, refl, ap, ◌∙◌, subst}
use Rattle.std.proofs.lemmas.Bool.{eq-eqb}
use Rattle.domain.specs.Domain.{Ops}
use Rattle.syntax.specs.declared.record.Operation.{Operation}
use Rattle.program.specs.Model.{Code}
use Rattle.cells.specs.declared.cell.Cell.{Cell}
use Rattle.meaning.specs.declared.compute.Cause.{Cause}
use Rattle.meaning.specs.declared.edge.Edge.{Edge}
use Rattle.meaning.specs.Meaning.{State, perform}
use Rattle.transfer.specs.Marks.{has_cause}
use Rattle.table.specs.Tables.{operation_at, table_size}
use Rattle.controller.specs.declared.phase.Phase.{Phase}
use Rattle.controller.specs.declared.phase.Phase.TheVariants.{Waiting, Running, Stopped}
use Rattle.controller.specs.declared.fault.CallFault.TheVariants.{WrongSize, StepsFull, BadInput}
use Rattle.controller.specs.declared.call.Sight.{Sight}
use Rattle.controller.specs.Tallies.{Tally, none, is_full, stepped as counted, tallied}
use Rattle.controller.specs.Lists.{input_count, output_count, first_bad}
use Rattle.controller.specs.Machine.{Machine, refused, done, advanced, start_with, sight_of, step_reply, stepped, fresh}
use Rattle.controller.specs.Runs.{CallOf, take_start, take_step, take_restart, take_read, after, after_all, Alike, RunsAlike}

-- what a step makes of the count of steps
next-steps : ℕ → ℕ
next-steps n = cond (eqb n 4294967295) n (n + 1)

steps-after : (a b : Truth) (t : Tally) → (tallied a b t).steps ≡ next-steps t.steps
unfolding next-steps
steps-after a b t = elim (is_full t) as (λ x. (cond x t (counted a b t)).steps ≡ cond x t.steps (t.steps + 1)) [ true ↦ refl | false ↦ refl ]

steps_alike : (a b c d : Truth) (t u : Tally) → t.steps ≡ u.steps → (tallied a b t).steps ≡ (tallied c d u).steps
steps_alike a b c d t u e = steps-after a b t ∙ ap next-steps e ∙ sym (steps-after c d u)

abbrev made : Phase → ℕ → State → Tally → Machine
made f k s t = record { phase = f; at = k; memory = s; counts = t }

module _ (p : Code) (f : Phase) (k : ℕ) (s : State) (t u : Tally) (e : t.steps ≡ u.steps) where
  same : Alike (made f k s t) (made f k s u)
  same = record { phase = refl; at = refl; memory = refl; steps = e }

  advanced-alike : (x y : Sight) (o : Operation) (want : Result (Edge × State) Cause) → Alike (advanced x o want (made f k s t)) (advanced y o want (made f k s u))
  advanced-alike x y o (Ok w) = record { phase = refl; at = refl; memory = refl; steps = steps_alike (not x.covered) false (not y.covered) false t u e }
  advanced-alike x y o (Err c) = record {
    phase = refl;
    at = refl;
    memory = refl;
    steps = steps_alike (not x.covered) (not (has_cause x.marks c)) (not y.covered) (not (has_cause y.marks c)) t u e;
  }

  counted-alike : (x y : Sight) (b c : Truth) → b ≡ c → Alike (cond b (refused (StepsFull k) (made f k s t)) (done (stepped p x (made f k s t)))).next (cond c (refused (StepsFull k) (made f k s u)) (done (stepped p y (made f k s u)))).next
  counted-alike x y true true d = same
  counted-alike x y false false d =
      advanced-alike x y (operation_at p.statements k) (perform p.variables (operation_at p.statements k) s)
  counted-alike x y true false d = absurd cc
  counted-alike x y false true d = absurd cc

  sized : (x : Sight) (m : Machine) → x.size ≡ table_size p → (step_reply p x m).next ≡ (cond (is_full m.counts) (refused (StepsFull m.at) m) (done (stepped p x m))).next
  sized x m h =
      ap (λ (b : Truth). (cond b (cond (is_full m.counts) (refused (StepsFull m.at) m) (done (stepped p x m))) (refused (WrongSize (table_size p)) m)).next) (eq-eqb x.size (table_size p) h)

  step-alike : (x y : Sight) → x.size ≡ table_size p → y.size ≡ table_size p → Alike (step_reply p x (made f k s t)).next (step_reply p y (made f k s u)).next
  step-alike x y hx hy =
      subst (λ (m : Machine). Alike m (step_reply p y (made f k s u)).next) (sym (sized x (made f k s t) hx))
      (subst (λ (n : Machine). Alike (cond (is_full t) (refused (StepsFull k) (made f k s t)) (done (stepped p x (made f k s t)))).next n) (sym (sized y (made f k s u) hy))
      (counted-alike x y (is_full t) (is_full u) (ap (λ (n : ℕ). eqb n 4294967295) e)))

  start-with : (xs : List ℤ) (bad : Option ℕ) → Alike (start_with p xs bad (made f k s t)).next (start_with p xs bad (made f k s u)).next
  start-with xs (Some j) = same
  start-with xs None = record { phase = refl; at = refl; memory = refl; steps = e }

  start-alike : (xs : List ℤ) (b : Truth) → Alike (cond b (start_with p xs (first_bad xs 0 p.variables) (made f k s t)) (refused (BadInput (input_count p.variables)) (made f k s t))).next (cond b (start_with p xs (first_bad xs 0 p.variables) (made f k s u)) (refused (BadInput (input_count p.variables)) (made f k s u))).next
  start-alike xs true = start-with xs (first_bad xs 0 p.variables)
  start-alike xs false = same

  read_alike : (b : Truth) (n : ℕ) → Alike (cond b (done (made f k s t)) (refused (WrongSize n) (made f k s t))).next (cond b (done (made f k s u)) (refused (WrongSize n) (made f k s u))).next
  read_alike true n = same
  read_alike false n = same

module _ {S : Type 0} (o : Ops S) (p : Code) (x y : List (Cell S)) (hx : length x ≡ table_size p) (hy : length y ≡ table_size p) where
  call-made : (c : CallOf) (f : Phase) (k : ℕ) (s : State) (t u : Tally) → t.steps ≡ u.steps → Alike (after o p x c (made f k s t)) (after o p y c (made f k s u))
  call-made (take_start xs) Waiting k s t u e = start-alike p Waiting k s t u e xs (eqb (length xs) (input_count p.variables))
  call-made (take_start xs) Running k s t u e = same p Running k s t u e
  call-made (take_start xs) (Stopped c) k s t u e = same p (Stopped c) k s t u e
  call-made take_step Waiting k s t u e = same p Waiting k s t u e
  call-made take_step Running k s t u e =
      step-alike p Running k s t u e (sight_of o p x (made Running k s t)) (sight_of o p y (made Running k s u)) hx hy
  call-made take_step (Stopped c) k s t u e = same p (Stopped c) k s t u e
  call-made take_restart Waiting k s t u e = record { phase = refl; at = refl; memory = refl; steps = e }
  call-made take_restart Running k s t u e = record { phase = refl; at = refl; memory = refl; steps = e }
  call-made take_restart (Stopped c) k s t u e = record { phase = refl; at = refl; memory = refl; steps = e }
  call-made (take_read n) Waiting k s t u e = read_alike p Waiting k s t u e (eqb n (output_count p.variables)) (output_count p.variables)
  call-made (take_read n) Running k s t u e = same p Running k s t u e
  call-made (take_read n) (Stopped c) k s t u e = same p (Stopped c) k s t u e

  call-alike : (c : CallOf) (m n : Machine) → Alike m n → Alike (after o p x c m) (after o p y c n)
  call-alike c m n a =
      let d : ◌≡◌ {A = Machine} (made m.phase m.at m.memory n.counts) n =
      ap (λ (f : Phase). made f m.at m.memory n.counts) a.phase
      ∙ ap (λ (k : ℕ). made n.phase k m.memory n.counts) a.at
      ∙ ap (λ (s : State). made n.phase n.at s n.counts) a.memory in
      subst (λ (z : Machine). Alike (after o p x c m) (after o p y c z)) d (call-made c m.phase m.at m.memory m.counts n.counts a.steps)

  all_alike : (cs : List CallOf) (m n : Machine) → Alike m n → Alike (after_all o p x cs m) (after_all o p y cs n)
  all_alike [] m n a = a
  all_alike (c ∷ cs) m n a = all_alike cs (after o p x c m) (after o p y c n) (call-alike c m n a)

pub runs-alike : {S : Type 0} (o : Ops S) (p : Code) → RunsAlike o p
runs-alike o p t u ht hu cs =
    all_alike o p t u ht hu cs (fresh p none) (fresh p none) (record { phase = refl; at = refl; memory = refl; steps = refl })
