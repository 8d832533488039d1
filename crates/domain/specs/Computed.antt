-- What it means that code computes an operation or a test of two INTs.
use Rattle.std.specs.Prelude.{◌≡◌, ℤ, FitsSigned}
use Rattle.std.specs.Fn.{Shared}
use Rattle.std.specs.Int.{w16}

-- each call of f at two INTs answers what op does
abbrev pub Computes : {F R : Type 0} → Shared F (ℤ × (ℤ × Unit {0})) R → (ℤ → ℤ → R) → F → Type 0
Computes g op f = (a b : ℤ) → FitsSigned w16 a → FitsSigned w16 b → (r : _) → g.post f (a, (b, tt)) r → r ≡ op a b
