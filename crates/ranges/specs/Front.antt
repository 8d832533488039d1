-- What the ranges at the front of a script set: they end where its first name stands.
use Rattle.std.specs.Prelude.{ℕ, List}
use Rattle.program.specs.Model.{Memory}
use Rattle.ranges.specs.declared.text.Until.TheVariants.{Name}
use Rattle.ranges.specs.Ranges.{Outcome, setting_until}

-- what the front of a script does: a script above 65,535 bytes sets no range
abbrev pub setting_front : List ℕ → Memory → Outcome (Unit {0})
setting_front text m = setting_until Name text m
