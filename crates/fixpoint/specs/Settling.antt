-- Sweeps from a table that allows nothing up to the first in which every cell takes in what comes.
use Rattle.std.specs.Prelude.{◌≡◌, ℕ, zero, suc, ◌+◌, cond, List, length, Ok, Err, Result, ◌==◌}
use Rattle.domain.specs.Domain.{Ops}
use Rattle.program.specs.Model.{Code}
use Rattle.cells.specs.declared.cell.Cell.{Cell}
use Rattle.table.specs.Tables.{table_size}
use Rattle.table.specs.Growing.{Grown, cleared}
use Rattle.table_check.specs.Passing.{Passes}
use Rattle.fixpoint.specs.declared.fault.SettleFault.{SettleFault}
use Rattle.fixpoint.specs.declared.fault.SettleFault.TheVariants.{WrongSize, NotSettled}
use Rattle.fixpoint.specs.Sweeps.{swept}

-- the cells after the sweeps, and how many there were, the one that changed nothing among them
pub record Settlement (S : Type 0) : Type 0 where
  pub cells : List (Cell S)
  pub answer : Result ℕ SettleFault

-- at most n sweeps more after the first k, up to the first that changes nothing
abbrev pub settled_from : {S : Type 0} → (ℕ → List (Cell S) → Grown S) → ℕ → ℕ → List (Cell S) → Settlement S
settled_from sweep k zero cells = record { cells = cells; answer = Err (NotSettled k) }
settled_from sweep k (suc n) cells =
    cond (sweep (k + 1) cells).changed (settled_from sweep (k + 1) n (sweep (k + 1) cells).cells)
    (record { cells = (sweep (k + 1) cells).cells; answer = Ok (k + 1) })

module _ {S : Type 0} (o : Ops S) where
  -- a program's table after so many sweeps at most, from cells that allow nothing
  abbrev pub settled : Code → ℕ → Settlement S
  settled p sweeps = settled_from (swept o p) 0 sweeps (cleared o (table_size p))

  -- the same in cells of any number: those not of the table's size stay as they are
  abbrev pub settled_in : Code → ℕ → List (Cell S) → Settlement S
  settled_in p sweeps cells =
      cond (length cells == table_size p) (settled p sweeps)
      (record { cells = cells; answer = Err (WrongSize (table_size p)) })

  -- settled tables pass: where the sweeps settle, the check passes the table that they leave
  abbrev pub SettledTablesPass : Type 0
  SettledTablesPass = (p : Code) (sweeps n : ℕ) → (settled p sweeps).answer ≡ Ok n → Passes o p (settled p sweeps).cells
