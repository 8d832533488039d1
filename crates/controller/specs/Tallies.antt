-- Counts as plain numbers.
use Rattle.std.specs.Prelude.{ℕ, ◌+◌, Bool, cond, ◌==◌}
use Rattle.controller.specs.declared.counts.Counts.{Counts}

pub record Tally : Type 0 where
  pub steps : ℕ
  pub outside : ℕ
  pub unmarked : ℕ

abbrev pub tally : Counts → Tally
tally c = record { steps = c.steps; outside = c.outside; unmarked = c.unmarked }

abbrev pub none : Tally
none = record { steps = 0; outside = 0; unmarked = 0 }

abbrev pub plus : Bool → ℕ → ℕ
plus b n = cond b (n + 1) n

-- no step more can be counted
abbrev pub is_full : Tally → Bool
is_full t = t.steps == 4294967295

-- one step more, outside its row or not, stopped for an unmarked cause or not
abbrev pub stepped : Bool → Bool → Tally → Tally
stepped out missed t = record { steps = t.steps + 1; outside = plus out t.outside; unmarked = plus missed t.unmarked }

-- full counts stay
abbrev pub tallied : Bool → Bool → Tally → Tally
tallied out missed t = cond (is_full t) t (stepped out missed t)
