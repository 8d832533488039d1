-- How long the start row is.
use Rattle.std.proofs.Common.{◌≡◌, suc, List, [], ◌∷◌, length, refl, ap}
use Rattle.domain.specs.Domain.{Ops}
use Rattle.syntax.specs.declared.record.Variable.{Variable}
use Rattle.transfer.specs.Rows.{initial_cells}

module _ {S : Type 0} (o : Ops S) where
  pub initial-length : (vars : List Variable) → length (initial_cells o vars) ≡ length vars
  initial-length [] = refl
  initial-length (v ∷ vars) = ap suc (initial-length vars)
