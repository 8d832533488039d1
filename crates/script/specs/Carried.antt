-- The calls of a script carried out: the controller after each, and the text with its line.
use Rattle.std.specs.Prelude.{ℕ, List, ◌++◌, ℤ, Some, None, Option}
use Rattle.domain.specs.Domain.{Ops}
use Rattle.cells.specs.declared.cell.Cell.{Cell}
use Rattle.program.specs.Model.{Code}
use Rattle.controller.specs.Machine.{Machine}
use Rattle.script.specs.declared.order.Order.{Order}
use Rattle.script.specs.declared.order.Order.TheVariants as order
use Rattle.script.specs.declared.pending.Pending.{Pending}
use Rattle.script.specs.declared.pending.Pending.TheVariants.{Ranges, Nothing, Start, Scan}
use Rattle.script.specs.Lines.{line_text}
use Rattle.script.specs.Calls.{Told, start_told, step_told, scan_told, restart_told, read_text}

-- a text with the line of a call, if there was one
abbrev pub text_after : List ℕ → Option Told → List ℕ
text_after text None = text
text_after text (Some t) = text ++ line_text t.line

-- the controller after a call, if there was one
abbrev pub machine_after : Machine → Option Told → Machine
machine_after m None = m
machine_after m (Some t) = t.next

module _ {S : Type 0} (o : Ops S) (p : Code) (cells : List (Cell S)) where
  -- a start or a scan is carried out when its list has ended
  abbrev pub pending_told : Pending → List ℤ → Machine → Option Told
  pending_told Ranges xs m = None
  pending_told Nothing xs m = None
  pending_told Start xs m = Some (start_told p xs m)
  pending_told Scan xs m = Some (scan_told o p cells xs m)

  -- the other calls are carried out at their name; a reading is into so many numbers
  abbrev pub order_text : ℕ → Order → Machine → List ℕ → List ℕ
  order_text n order.Start m text = text
  order_text n order.Scan m text = text
  order_text n order.Step m text = text ++ line_text (step_told o p cells m).line
  order_text n order.Restart m text = text ++ line_text (restart_told p m).line
  order_text n order.Read m text = text ++ read_text p n m

  abbrev pub order_machine : Order → Machine → Machine
  order_machine order.Start m = m
  order_machine order.Scan m = m
  order_machine order.Step m = (step_told o p cells m).next
  order_machine order.Restart m = (restart_told p m).next
  order_machine order.Read m = m
