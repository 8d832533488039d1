-- What each call of a script does to a controller, and the line that tells it.
use Rattle.std.specs.Prelude.{◌≡◌, ℕ, zero, suc, List, length, replicate, ℤ, pos, Ok, Err, Result}
use Rattle.domain.specs.Domain.{Ops}
use Rattle.cells.specs.declared.cell.Cell.{Cell}
use Rattle.program.specs.Model.{Code}
use Rattle.controller.specs.declared.controller.Controller.{Controller}
use Rattle.controller.specs.declared.fault.CallFault.{CallFault}
use Rattle.controller.specs.declared.phase.Phase.{Phase}
use Rattle.controller.specs.declared.phase.Phase.TheVariants.{Waiting, Running, Stopped}
use Rattle.controller.specs.Machine.{Machine, machine, code_of, fresh, sight_of, to_start, to_step, to_read, Reply, reply, output}
use Rattle.script.specs.declared.line.Line.{Line}
use Rattle.script.specs.declared.line.Line.TheVariants.{Started, Restarted, Refused}
use Rattle.script.specs.Lines.{stands_as, line_for, line_text, outputs_text}

-- the line that tells what a call came to, and the controller after it
pub record Told : Type 0 where
  pub line : Line
  pub next : Machine

abbrev pub told : Line → Machine → Told
told line m = record { line = line; next = m }

-- a start
abbrev pub start_told : Code → List ℤ → Machine → Told
start_told p xs m = told (line_for (reply p (to_start xs) m).answer Started) (reply p (to_start xs) m).next

-- a restart is never refused
abbrev pub restart_told : Code → Machine → Told
restart_told p m = told Restarted (fresh p m.counts)

abbrev pub read_as : Result (Unit {0}) CallFault → List ℤ → List ℕ
read_as (Ok x) outputs = outputs_text outputs
read_as (Err f) outputs = line_text (Refused f)

-- the line of a reading into a list of numbers
abbrev pub read_with : Code → List ℤ → Machine → List ℕ
read_with p out m = read_as (reply p (to_read (length out)) m).answer (output p (to_read (length out)) m out)

-- the line of a reading into so many numbers
abbrev pub read_text : Code → ℕ → Machine → List ℕ
read_text p n m = read_with p (replicate n (pos 0)) m

module _ {S : Type 0} (o : Ops S) (p : Code) (cells : List (Cell S)) where
  abbrev pub step_replied : Machine → Reply
  step_replied m = reply p (to_step (sight_of o p cells m)) m

  -- a step beside a table
  abbrev pub step_told : Machine → Told
  step_told m = told (line_for (step_replied m).answer (stands_as (step_replied m).next)) (step_replied m).next

  abbrev pub further : Result (Unit {0}) CallFault → Machine → (Machine → Told) → Told
  further (Ok x) m next = next m
  further (Err f) m next = told (Refused f) m

  abbrev pub while_running : Phase → Machine → (Machine → Told) → Told
  while_running Waiting m next = told (stands_as m) m
  while_running Running m next = further (step_replied m).answer (step_replied m).next next
  while_running (Stopped c) m next = told (stands_as m) m

  -- so many steps, or fewer where the controller runs no more or a step is refused
  unfoldable pub steps_told : ℕ → Machine → Told
  steps_told zero m = told (stands_as m) m
  steps_told (suc n) m = while_running m.phase m (steps_told n)

  -- a start, then at most 65,535 steps; a refused start is all
  abbrev pub scan_told : List ℤ → Machine → Told
  scan_told xs m = further (reply p (to_start xs) m).answer (reply p (to_start xs) m).next (steps_told 65535)

-- the code's line and the controller after it are those of a call, and its program stays
pub record ToldAs (want : Told) (k k' : Controller) (line : Line) : Type 0 where
  pub line_is : line ≡ want.line
  pub next : machine k' ≡ want.next
  pub same : code_of k' ≡ code_of k
