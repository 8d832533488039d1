-- Each row of a table has the table's width.
use Rattle.std.proofs.Common.{◌≡◌, ℕ, ◌+◌, ◌*◌, ◌<◌, ◌≤◌, List, length, drop, ◌∙◌, mul-le-mul_right, arith, length-drop, length-take}
use Rattle.transfer.specs.Rows.{row_at}

more_rows : (n w k : ℕ) → k < n → k * w + w ≤ n * w
more_rows n w k h = let m : (k + 1) * w ≤ n * w = mul-le-mul_right w (omega arith) in omega arith

pub row-long : {X : Type 0} (table : List X) (n w k : ℕ) → length table ≡ n * w → k < n → length (row_at w table k) ≡ w
row-long table n w k e h =
    let room = more_rows n w k h in
    let d = length-drop (k * w) table in
    length-take w (drop (k * w) table) ∙ (omega arith)
