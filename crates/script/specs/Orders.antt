-- The calls that a script can name.
use Rattle.std.specs.Prelude.{ℕ, cond, List, Some, None, codes, Option}
use Rattle.std.specs.Str.{bytes_eq}
use Rattle.script.specs.declared.order.Order.{Order}
use Rattle.script.specs.declared.order.Order.TheVariants.{Start, Scan, Step, Restart, Read}

-- a call by its name
abbrev pub order_named : List ℕ → Option Order
order_named word =
    cond (bytes_eq word (codes "start")) (Some Start)
    (cond (bytes_eq word (codes "scan")) (Some Scan)
    (cond (bytes_eq word (codes "step")) (Some Step)
    (cond (bytes_eq word (codes "restart")) (Some Restart)
    (cond (bytes_eq word (codes "read")) (Some Read) None))))
