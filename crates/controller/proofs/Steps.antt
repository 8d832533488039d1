-- A step from what its parts promise.
use Rattle.std.proofs.Common.{◌≡◌, ℕ, Bool as Truth, false, not, Some, Ok, Err, Result, ap, ◌∙◌}
use Rattle.syntax.specs.declared.record.Operation.{Operation}
use Rattle.meaning.specs.declared.compute.Cause.{Cause}
use Rattle.meaning.specs.declared.edge.Edge.{Edge}
use Rattle.meaning.specs.Meaning.{State}
use Rattle.transfer.specs.Transfer.{target_of}
use Rattle.transfer.specs.Marks.{has_cause}
use Rattle.controller.specs.declared.phase.Phase.{Phase}
use Rattle.controller.specs.declared.phase.Phase.TheVariants.{Stopped}
use Rattle.controller.specs.declared.call.Sight.{Sight}
use Rattle.controller.specs.Tallies.{Tally, tallied}
use Rattle.controller.specs.Registers.{way_of, state_after}
use Rattle.controller.specs.Machine.{Machine, phase_after, advanced}

module _ (sight : Sight) (o : Operation) (m : Machine) where
  pub goes_on : (want : Result (Edge × State) Cause) (edge : Edge) (phase : Phase) (at : ℕ) (memory : State) (counts : Tally) → Ok edge ≡ way_of want → memory ≡ state_after want m.memory → phase ≡ phase_after o → at ≡ target_of m.at o edge → counts ≡ tallied (not sight.covered) false m.counts → ◌≡◌ {A = Machine} (record { phase = phase; at = at; memory = memory; counts = counts }) (advanced sight o want m)
  goes_on (Ok w) edge phase at memory counts e f g h k = let d : edge ≡ w.0 = cc in let t : at ≡ target_of m.at o w.0 = h ∙ ap (target_of m.at o) d in cc
  goes_on (Err c) edge phase at memory counts e f g h k = absurd cc

  pub stops : (want : Result (Edge × State) Cause) (c : Cause) (memory : State) (missed : Truth) (counts : Tally) → Err c ≡ way_of want → memory ≡ state_after want m.memory → missed ≡ has_cause sight.marks c → counts ≡ tallied (not sight.covered) (not missed) m.counts → ◌≡◌ {A = Machine} (record { phase = Stopped (Some c); at = m.at; memory = memory; counts = counts }) (advanced sight o want m)
  stops (Ok w) c memory missed counts e f g h = absurd cc
  stops (Err d) c memory missed counts e f g h =
      let x : c ≡ d = cc in
      let y : missed ≡ has_cause sight.marks d = g ∙ ap (has_cause sight.marks) x in
      let t : counts ≡ tallied (not sight.covered) (not (has_cause sight.marks d)) m.counts = h ∙ ap (λ (b : Truth). tallied (not sight.covered) (not b) m.counts) y in
      cc
