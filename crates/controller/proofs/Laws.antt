-- The laws of starts, steps, readings and restarts, from their definition.
use Rattle.std.proofs.Common.{◌≡◌, ℕ, ◌+◌, ◌≤◌, Bool as Truth, true, false, cond, not, eqb, List, length, ℤ, Some, None, Ok, Err, Option, Result, sym, refl, ap, ◌∙◌, subst, arith}
use Rattle.std.proofs.lemmas.Bool.{cond_both, true≢false}
use Rattle.syntax.specs.declared.record.Operation.{Operation}
use Rattle.syntax.specs.declared.record.Operation.TheVariants.{Return, Not, Label, Apply, Store, Jump}
use Rattle.program.specs.Model.{Code}
use Rattle.meaning.specs.declared.compute.Cause.{Cause}
use Rattle.meaning.specs.declared.edge.Edge.{Edge}
use Rattle.meaning.specs.Meaning.{State, perform}
use Rattle.transfer.specs.Marks.{has_cause}
use Rattle.table.specs.Tables.{operation_at, table_size}
use Rattle.controller.specs.declared.phase.Phase.{Phase}
use Rattle.controller.specs.declared.phase.Phase.TheVariants.{Waiting, Running, Stopped}
use Rattle.controller.specs.declared.fault.CallFault.{CallFault}
use Rattle.controller.specs.declared.fault.CallFault.TheVariants.{WrongSize, StepsFull, BadInput}
use Rattle.controller.specs.declared.call.Sight.{Sight}
use Rattle.controller.specs.Tallies.{Tally, plus, is_full, stepped as counted, tallied}
use Rattle.controller.specs.Lists.{input_count, output_count, first_bad}
use Rattle.controller.specs.Machine.{Machine, Reply, to_start, to_step, to_restart, to_read, refused, done, fresh, phase_after, advanced, start_with, reply_in, stepped}
use Rattle.controller.specs.Laws.{is_stopped, StartLaws, StepLaws}

abbrev Steps : Machine → Reply → Type 0
Steps m r = StepLaws m r.next r.answer

abbrev Starts : Machine → Reply → Type 0
Starts m r = StartLaws m r.next r.answer

refused-step : (f : CallFault) (m : Machine) → Steps m (refused f m)
refused-step f m = record { refused = λ e. refl; stopped = λ e. refl; steps = omega arith; outside = omega arith; unmarked = omega arith }

refused-start : (f : CallFault) (m : Machine) → Starts m (refused f m)
refused-start f m = record { refused = λ e. refl; counts = refl }

goes_on : (o : Operation) → is_stopped (phase_after o) ≡ false
goes_on Return = refl
goes_on Not = refl
goes_on (Label name) = refl
goes_on (Apply p x) = refl
goes_on (Store s i) = refl
goes_on (Jump j t) = refl

plus-more : (b : Truth) (n : ℕ) → n ≤ plus b n
plus-more true n = omega arith
plus-more false n = omega arith

module _ (a b : Truth) (t : Tally) (e : is_full t ≡ false) where
  counted-once : tallied a b t ≡ counted a b t
  counted-once = ap (λ (x : Truth). cond x t (counted a b t)) e

  outside-more : t.outside ≤ (tallied a b t).outside
  outside-more = subst (λ (x : Tally). t.outside ≤ x.outside) (sym counted-once) (plus-more a t.outside)

  unmarked-more : t.unmarked ≤ (tallied a b t).unmarked
  unmarked-more = subst (λ (x : Tally). t.unmarked ≤ x.unmarked) (sym counted-once) (plus-more b t.unmarked)

  one_more : (tallied a b t).steps ≡ t.steps + 1
  one_more = ap (λ (x : Tally). x.steps) counted-once

done-step : (sight : Sight) (o : Operation) (want : Result (Edge × State) Cause) (m : Machine) → is_full m.counts ≡ false → Steps m (done (advanced sight o want m))
done-step sight o (Ok w) m e = record {
  refused = λ e. absurd (true≢false e);
  stopped = λ s. absurd (true≢false (sym s ∙ goes_on o));
  steps = one_more (not sight.covered) false m.counts e;
  outside = outside-more (not sight.covered) false m.counts e;
  unmarked = unmarked-more (not sight.covered) false m.counts e;
}
done-step sight o (Err c) m e = record {
  refused = λ e. absurd (true≢false e);
  stopped = λ s. refl;
  steps = one_more (not sight.covered) (not (has_cause sight.marks c)) m.counts e;
  outside = outside-more (not sight.covered) (not (has_cause sight.marks c)) m.counts e;
  unmarked = unmarked-more (not sight.covered) (not (has_cause sight.marks c)) m.counts e;
}

counted_step : (p : Code) (sight : Sight) (m : Machine) (b : Truth) → is_full m.counts ≡ b → Steps m (cond b (refused (StepsFull m.at) m) (done (stepped p sight m)))
counted_step p sight m true e = refused-step (StepsFull m.at) m
counted_step p sight m false e =
    done-step sight (operation_at p.statements m.at) (perform p.variables (operation_at p.statements m.at) m.memory) m e

pub step-laws : (p : Code) (f : Phase) (sight : Sight) (m : Machine) → Steps m (reply_in p f (to_step sight) m)
step-laws p Waiting sight m = refused-step _ m
step-laws p Running sight m = cond_both (eqb sight.size (table_size p)) _ _ (Steps m) (λ e. counted_step p sight m (is_full m.counts) refl) (λ e. refused-step (WrongSize (table_size p)) m)
step-laws p (Stopped c) sight m = refused-step _ m

start-with : (p : Code) (xs : List ℤ) (bad : Option ℕ) (m : Machine) → Starts m (start_with p xs bad m)
start-with p xs (Some k) m = refused-start (BadInput k) m
start-with p xs None m = record { refused = λ e. absurd (true≢false e); counts = refl }

-- whatever the phase, the program, the numbers and the machine
pub start-laws : (p : Code) (f : Phase) (xs : List ℤ) (m : Machine) → Starts m (reply_in p f (to_start xs) m)
start-laws p Waiting xs m = cond_both (eqb (length xs) (input_count p.variables)) _ _ (Starts m) (λ e. start-with p xs (first_bad xs 0 p.variables) m) (λ e. refused-start (BadInput (input_count p.variables)) m)
start-laws p Running xs m = refused-start _ m
start-laws p (Stopped c) xs m = refused-start _ m

pub read_keeps : (p : Code) (f : Phase) (n : ℕ) (m : Machine) → (reply_in p f (to_read n) m).next ≡ m
read_keeps p Waiting n m = cond_both (eqb n (output_count p.variables)) _ _ (λ (r : Reply). r.next ≡ m) (λ e. refl) (λ e. refl)
read_keeps p Running n m = refl
read_keeps p (Stopped c) n m = refl

-- what holds of a reply holds of the code that gives it
module _ (want : Reply) (m n : Machine) (r : Result (Unit {0}) CallFault) (ea : r ≡ want.answer) (en : n ≡ want.next) where
  pub step_of : Steps m want → StepLaws m n r
  step_of l = subst (λ (x : Machine). StepLaws m x r) (sym en) (subst (λ (y : Result (Unit {0}) CallFault). StepLaws m want.next y) (sym ea) l)

  pub start_of : Starts m want → StartLaws m n r
  start_of l = subst (λ (x : Machine). StartLaws m x r) (sym en) (subst (λ (y : Result (Unit {0}) CallFault). StartLaws m want.next y) (sym ea) l)

pub restarts : (p : Code) (f : Phase) (m : Machine) → (reply_in p f to_restart m).next ≡ fresh p m.counts
restarts p Waiting m = refl
restarts p Running m = refl
restarts p (Stopped c) m = refl
