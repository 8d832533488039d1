use Rattle.std.proofs.Common.{◌≡◌, ◌+◌, ◌||◌, false, take, drop, sym, ap, ◌∙◌, rules}
use Rattle.std.specs.List.{list_any}
use Rattle.std.proofs.Math.Seq.{take-length}
use Rattle.std.proofs.lemmas.List.{length-drop}
use Rattle.cells.specs.Cells.{is_vacant}
use Rattle.transfer.specs.Rows.{is_unreachable}
use Rattle.transfer.proofs.Vacant.{any-changed}
use Rattle.transfer.proofs.carry.is_changed_unreachable.Goals as goal
use Rattle.transfer.proofs.carry.is_changed_unreachable.Goals.{then-is_unreachable, else-is_unreachable}

pub returns-then-is_vacant : goal.returns-then-is_vacant
returns-then-is_vacant g c =
    let o = g.D.Domain.ops in
    let parts = any-changed (is_vacant o) c.args.cells.now c.args.index c.args.changed c.if-index-cells.true in
    search (rules, parts)

pub returns-else-is_vacant : goal.returns-else-is_vacant
returns-else-is_vacant g c =
    let o = g.D.Domain.ops in
    let n = c.args.index + 1 in
    let behind = drop n c.args.cells.now in
    let all = ap (λ k. take k behind) (sym (length-drop n c.args.cells.now)) ∙ take-length behind in
    let parts = any-changed (is_vacant o) c.args.cells.now c.args.index c.args.changed c.if-index-cells.true in
    elim c.if-is_unreachable.branch [
      | then-is_unreachable w ↦ search (rules, w, c.if-is_vacant.false)
      | else-is_unreachable w ↦
          let before : list_any (is_vacant o) (take c.args.index c.args.cells.now) ≡ false = search (rules, w) in
          let here : is_vacant o c.args.changed ≡ false = search (rules, w) in
          c.is_unreachable-else-is_vacant.ensures
          ∙ ap (is_unreachable o) all
          ∙ sym (parts ∙ ap (λ b. b || (is_vacant o c.args.changed || list_any (is_vacant o) behind)) before ∙ ap (λ b. b || list_any (is_vacant o) behind) here)
    ]
