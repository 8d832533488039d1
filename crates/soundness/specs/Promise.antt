-- What a table that passes promises of every controller that runs beside it.
use Rattle.std.specs.Prelude.{◌≡◌, ℕ, List, [], ◌∷◌, ◌++◌, ℤ}
use Rattle.domain.specs.Domain.{Ops}
use Rattle.program.specs.Model.{Code}
use Rattle.cells.specs.declared.cell.Cell.{Cell}
use Rattle.table_check.specs.Passing.{Passes}
use Rattle.controller.specs.declared.phase.Phase.TheVariants.{Running}
use Rattle.controller.specs.Tallies.{none}
use Rattle.controller.specs.Machine.{Machine, to_start, to_step, sight_of, fresh, reply}
use Rattle.controller.specs.Runs.{CallOf, take_start, take_step, take_restart, take_read, after, Runs}
use Rattle.soundness.specs.Reachable.{Reachable}

module _ {S : Type 0} (o : Ops S) (p : Code) where
  -- after any list of calls, good or refused, no step has begun outside its row
  abbrev pub StepsStayCovered : Type 0
  StepsStayCovered = (table : List (Cell S)) → Passes o p table → (cs : List CallOf) (m : Machine) → Runs o p table cs m → m.counts.outside ≡ 0

  -- and no step has stopped for a cause that its line is not marked with
  abbrev pub StopsAreMarked : Type 0
  StopsAreMarked = (table : List (Cell S)) → Passes o p table → (cs : List CallOf) (m : Machine) → Runs o p table cs m → m.counts.unmarked ≡ 0

  -- a controller that runs, after any calls and beside any table, is where the program can come to
  abbrev pub RunsReach : Type 0
  RunsReach = (table : List (Cell S)) (cs : List CallOf) (m : Machine) → Runs o p table cs m → m.phase ≡ Running → Reachable p m.at m.memory

  -- each call in a list does what the controller's own call of that name does; a new controller has had no call, and a call more is one more in the list
  pub record CallsAreRuns : Type 0 where
    pub start : (table : List (Cell S)) (xs : List ℤ) (m : Machine) → after o p table (take_start xs) m ≡ (reply p (to_start xs) m).next
    pub step : (table : List (Cell S)) (m : Machine) → after o p table take_step m ≡ (reply p (to_step (sight_of o p table m)) m).next
    pub restart : (table : List (Cell S)) (m : Machine) → after o p table take_restart m ≡ fresh p m.counts
    pub reading : (table : List (Cell S)) (n : ℕ) (m : Machine) → after o p table (take_read n) m ≡ m
    pub none_yet : (table : List (Cell S)) → Runs o p table [] (fresh p none)
    pub one_more : (table : List (Cell S)) (cs : List CallOf) (m : Machine) (c : CallOf) → Runs o p table cs m → Runs o p table (cs ++ c ∷ []) (after o p table c m)
