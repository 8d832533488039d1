use Rattle.std.proofs.Common.{◌+◌, ◌*◌, not, length, get_or, set, refl, ap, ◌∙◌, inl, inr, arith}
use Rattle.std.proofs.lemmas.Bool.{cases_lt}
use Rattle.cells.specs.Cells.{nothing, within}
use Rattle.table.specs.Growing.{taken_in}
use Rattle.table.proofs.Turns.{Alike, read_alike, write-alike, grown-more}
use Rattle.table.proofs.growing.take_in_row.Goals as goal

pub loop-i-preserved : goal.loop-i-preserved
loop-i-preserved g c =
    let o = g.D.Domain.ops in
    let start = c.args.index * c.args.width in
    let i = c.loop-i.i in
    let cells = c.loop-i.cells in
    let place = c.saturating_add.result in
    let x = c.index-brought-i.result in
    let alike : Alike cells place (start + i) = elim (cases_lt (start + i) (length cells)) [ inl h ↦ inl (omega arith) | inr h ↦ inr (omega arith, h) ] in
    let t = get_or cells (start + i) (nothing o) in
    let same = read_alike cells place (start + i) (nothing o) alike in
    let written = c.take_in_at-changed.ensures.cells ∙ write-alike cells place (start + i) _ alike ∙ ap (λ u. set cells (start + i) (taken_in o c.args.widening u x)) same in
    let grew = c.take_in_at-changed.ensures.changed ∙ ap (λ u. not (within o x u)) same in
    grown-more o c.args.widening cells c.take_in_at-changed.new.cells c.loop-i.changed c.take_in_at-changed.result start _ i t x x (omega arith) refl c.index-brought-i.is written grew
    ∙ c.loop-i.invariant
