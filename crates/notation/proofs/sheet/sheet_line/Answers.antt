use Rattle.std.proofs.Common.{◌≡◌, take, string_bytes, fold, sym, ap, ◌∙◌, rules}
use Rattle.std.proofs.lemmas.List.{take_all}
use Rattle.std.proofs.lemmas.List.Sums.{fold_more}
use Rattle.notation.specs.Cells.{line_head, with_cell}
use Rattle.notation.proofs.sheet.sheet_line.Goals as goal

pub loop-cell-preserved : goal.loop-cell-preserved
loop-cell-preserved g c =
    let row = c.args.row.now in
    let i = c.loop-cell.cell-index in
    c.in_ok-push_cell.ensures
    ∙ ap (λ t. with_cell g.D.Domain.ops g.D.Notation.written t c.cell-item.result) c.loop-cell.invariant
    ∙ ap (with_cell g.D.Domain.ops g.D.Notation.written (fold (with_cell g.D.Domain.ops g.D.Notation.written) (string_bytes c.in_ok-out.out) (take i row))) c.cell-item.is
    ∙ sym (fold_more (with_cell g.D.Domain.ops g.D.Notation.written) (string_bytes c.in_ok-out.out) row i c.cell-item.result c.loop-cell-test.true)

pub returns : goal.returns
returns g c =
    let row = c.args.row.now in
    let e : string_bytes c.loop-cell.out ≡ fold (with_cell g.D.Domain.ops g.D.Notation.written) (line_head c.args.number c.args.marks) row = c.loop-cell.invariant ∙ ap (fold (with_cell g.D.Domain.ops g.D.Notation.written) (string_bytes c.in_ok-out.out)) (take_all _ row c.loop-cell-test.false) ∙ ap (λ t. fold (with_cell g.D.Domain.ops g.D.Notation.written) t row) c.in_ok-out.ensures in
    search rules
