-- One step of a scan.
use Rattle.std.proofs.Common.{◌≡◌, ◌⊎◌, ℕ, zero, suc, ◌+◌, ◌≤◌, List, Ok, Err, Option, sym, ap, ◌∙◌, arith, rules, refl}
use Rattle.domain.specs.Domain.{Ops}
use Rattle.cells.specs.declared.cell.Cell.{Cell}
use Rattle.meaning.specs.declared.compute.Cause.{Cause}
use Rattle.program.specs.Model.{Code}
use Rattle.controller.specs.declared.fault.CallFault.{CallFault}
use Rattle.controller.specs.declared.phase.Phase.{Phase}
use Rattle.controller.specs.declared.phase.Phase.TheVariants.{Waiting, Running, Stopped}
use Rattle.controller.specs.Machine.{Machine}
use Rattle.script.specs.declared.line.Line.TheVariants.{Refused}
use Rattle.script.specs.Lines.{stands_as}
use Rattle.script.specs.Calls.{Told, told, step_replied, further, while_running, steps_told}

module _ {S : Type 0} (o : Ops S) (p : Code) (cells : List (Cell S)) (m : Machine) (w : Told) where
  pub steps-none : (n : ℕ) → steps_told o p cells n m ≡ w → n ≤ 0 → told (stands_as m) m ≡ w
  unfolding steps_told
  steps-none zero e h = e
  steps-none (suc n) e h = absurd (omega arith)

  still : (f : Phase) → (f ≡ Waiting) ⊎ ((c : Option Cause) × f ≡ Stopped c) → (next : Machine → Told) → told (stands_as m) m ≡ while_running o p cells f m next
  still Waiting h next = refl
  still Running h next = absurd (search rules)
  still (Stopped c) h next = refl

  pub steps-still : (n : ℕ) → steps_told o p cells n m ≡ w → (f : Phase) → f ≡ m.phase → (f ≡ Waiting) ⊎ ((c : Option Cause) × f ≡ Stopped c) → told (stands_as m) m ≡ w
  unfolding steps_told
  steps-still zero e f is h = e
  steps-still (suc n) e f is h = still f h (steps_told o p cells n) ∙ ap (λ f. while_running o p cells f m (steps_told o p cells n)) is ∙ e

  module _ (n k : ℕ) (one : n ≡ k + 1) (e : steps_told o p cells n m ≡ w) (r : m.phase ≡ Running) (q : Code) (same : q ≡ p) where
    running : (n : ℕ) → n ≡ k + 1 → steps_told o p cells n m ≡ w → further o p cells (step_replied o p cells m).answer (step_replied o p cells m).next (steps_told o p cells k) ≡ w
    unfolding steps_told
    running zero one e = absurd (omega arith)
    running (suc j) one e =
        let eq : k ≡ j = omega arith in
        ap (λ i. further o p cells (step_replied o p cells m).answer (step_replied o p cells m).next (steps_told o p cells i)) eq
        ∙ sym (ap (λ f. while_running o p cells f m (steps_told o p cells j)) r) ∙ e

    turn : further o p cells (step_replied o q cells m).answer (step_replied o q cells m).next (steps_told o p cells k) ≡ w
    turn = ap (λ c. further o p cells (step_replied o c cells m).answer (step_replied o c cells m).next (steps_told o p cells k)) same ∙ running n one e

    pub steps-more : (next : Machine) (x : Unit {0}) → (step_replied o q cells m).answer ≡ Ok x → next ≡ (step_replied o q cells m).next → steps_told o p cells k next ≡ w
    steps-more next x a is = ap (steps_told o p cells k) is ∙ sym (ap (λ x. further o p cells x (step_replied o q cells m).next (steps_told o p cells k)) a) ∙ turn

    pub steps-refused : (f : CallFault) → (step_replied o q cells m).answer ≡ Err f → told (Refused f) (step_replied o q cells m).next ≡ w
    steps-refused f a = sym (ap (λ x. further o p cells x (step_replied o q cells m).next (steps_told o p cells k)) a) ∙ turn
