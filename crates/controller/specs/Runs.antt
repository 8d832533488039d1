-- Lists of calls: a new controller beside one table, each call finding it as the earlier ones left it.
use Rattle.std.specs.Prelude.{◌≡◌, ℕ, List, [], ◌∷◌, length, ℤ}
use Rattle.domain.specs.Domain.{Ops}
use Rattle.program.specs.Model.{Code}
use Rattle.cells.specs.declared.cell.Cell.{Cell}
use Rattle.table.specs.Tables.{table_size}
use Rattle.controller.specs.Tallies.{none}
use Rattle.controller.specs.Machine.{Machine, Request, to_start, to_step, to_restart, to_read, sight_of, fresh, reply}

-- a call by any user: a start with any numbers, a step, a restart, a reading into a list of any length
pub data CallOf : Type 0 where
  take_start : List ℤ → CallOf
  take_step : CallOf
  take_restart : CallOf
  take_read : ℕ → CallOf

module _ {S : Type 0} (o : Ops S) (p : Code) (table : List (Cell S)) where
  -- a step is given the table
  abbrev pub asked : CallOf → Machine → Request
  asked (take_start xs) m = to_start xs
  asked take_step m = to_step (sight_of o p table m)
  asked take_restart m = to_restart
  asked (take_read n) m = to_read n

  -- the controller after a call, good or refused
  abbrev pub after : CallOf → Machine → Machine
  after c m = (reply p (asked c m) m).next

  abbrev pub after_all : List CallOf → Machine → Machine
  after_all [] m = m
  after_all (c ∷ cs) m = after_all cs (after c m)

  -- a new controller after a list of calls
  abbrev pub Runs : List CallOf → Machine → Type 0
  Runs cs m = after_all cs (fresh p none) ≡ m

-- two controllers that differ at most in the counts of what their tables did not foresee
pub record Alike (m n : Machine) : Type 0 where
  pub phase : m.phase ≡ n.phase
  pub at : m.at ≡ n.at
  pub memory : m.memory ≡ n.memory
  pub steps : m.counts.steps ≡ n.counts.steps

-- beside any two tables of the right size the same calls leave such controllers
abbrev pub RunsAlike : {S : Type 0} → Ops S → Code → Type 0
RunsAlike {S} o p = (t u : List (Cell S)) → length t ≡ table_size p → length u ≡ table_size p → (cs : List CallOf) → Alike (after_all o p t cs (fresh p none)) (after_all o p u cs (fresh p none))
