-- The numbers and places of refusals.
use Rattle.std.specs.Prelude.{ℕ}
use Rattle.fixpoint.specs.declared.fault.SettleFault.{SettleFault}
use Rattle.fixpoint.specs.declared.fault.SettleFault.TheVariants.{WrongSize, NotSettled}

abbrev pub number_of : SettleFault → ℕ
number_of (WrongSize p) = 21
number_of (NotSettled p) = 25

abbrev pub place_of : SettleFault → ℕ
place_of (WrongSize p) = p
place_of (NotSettled p) = p
