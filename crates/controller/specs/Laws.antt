-- What a user may rely on, call by call.
use Rattle.std.specs.Prelude.{◌≡◌, ◌+◌, ◌≤◌, Bool as Truth, true, false, is_ok, Result}
use Rattle.controller.specs.declared.phase.Phase.{Phase}
use Rattle.controller.specs.declared.phase.Phase.TheVariants.{Waiting, Running, Stopped}
use Rattle.controller.specs.declared.fault.CallFault.{CallFault}
use Rattle.controller.specs.Lists.{one}
use Rattle.controller.specs.Machine.{Machine}

abbrev pub is_stopped : Phase → Truth
is_stopped Waiting = false
is_stopped Running = false
is_stopped (Stopped c) = true

-- a refused start changes nothing, and no start changes the counts
pub record StartLaws (before after : Machine) (r : Result (Unit {0}) CallFault) : Type 0 where
  pub refused : is_ok r ≡ false → after ≡ before
  pub counts : after.counts ≡ before.counts

-- a refused step changes nothing, a stop changes no value, each step begun is counted once, and no count falls
pub record StepLaws (before after : Machine) (r : Result (Unit {0}) CallFault) : Type 0 where
  pub refused : is_ok r ≡ false → after ≡ before
  pub stopped : is_stopped after.phase ≡ true → after.memory ≡ before.memory
  pub steps : after.counts.steps ≡ before.counts.steps + one (is_ok r)
  pub outside : before.counts.outside ≤ after.counts.outside
  pub unmarked : before.counts.unmarked ≤ after.counts.unmarked
