-- The numbers and places of the check's refusals.
use Rattle.std.specs.Prelude.{ℕ}
use Rattle.table_check.specs.declared.fault.CheckFault.{CheckFault}
use Rattle.table_check.specs.declared.fault.CheckFault.TheVariants.{WrongSize, NotWithin}

abbrev pub number_of : CheckFault → ℕ
number_of (WrongSize p) = 21
number_of (NotWithin p) = 15

abbrev pub place_of : CheckFault → ℕ
place_of (WrongSize p) = p
place_of (NotWithin p) = p
