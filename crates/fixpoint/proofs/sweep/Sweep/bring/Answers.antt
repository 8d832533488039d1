use Rattle.std.proofs.Common.{◌≡◌, ◌+◌, ◌*◌, ◌<◌, length, get_or, sym, refl, ◌∙◌, subst, arith, rules}
use borrow.Author.Rules.{scaled_Fits}
use Rattle.std.proofs.lemmas.List.{get_or_read}
use Rattle.cells.specs.declared.cell.Cell.{Cell}
use Rattle.cells.specs.Cells.{nothing}
use Rattle.transfer.specs.Rows.{width, row_at}
use Rattle.fixpoint.proofs.Places.{row_fits, row-cell, kept_more}
use Rattle.fixpoint.proofs.Turns.{brought-more}
use Rattle.fixpoint.proofs.sweep.Sweep.bring.Goals as goal

pub offset_bounds-cells-source : goal.offset_bounds-cells-source
offset_bounds-cells-source g c =
    let own = c.args.self.now in
    let fits = row_fits (length own.statements.now) (width own.variables.now) c.args.from c.requires.inside.0 in
    scaled_Fits (c.args.from * (width own.variables.now) + c.loop-i.i) (length c.args.cells.now) _ (omega arith) (search rules)

pub offset_bounds-cells-target : goal.offset_bounds-cells-target
offset_bounds-cells-target g c =
    let own = c.args.self.now in
    let fits = row_fits (length own.statements.now) (width own.variables.now) c.args.to c.requires.inside.1 in
    scaled_Fits (c.args.to * (width own.variables.now) + c.loop-i.i) (length c.args.cells.now) _ (omega arith) (search rules)

pub loop-i-preserved : goal.loop-i-preserved
loop-i-preserved g c =
    let o = g.D.Domain.ops in
    let d = nothing o in
    let own = c.args.self.now in
    let n = length own.statements.now in
    let w = width own.variables.now in
    let k = c.args.from in
    let i = c.loop-i.i in
    let cells = c.loop-i.cells in
    let before = c.args.cells.now in
    let source = row_at w before k in
    let from = row_fits n w k c.requires.inside.0 in
    let to = row_fits n w c.args.to c.requires.inside.1 in
    let there : c.args.to * w + i < length cells = omega arith in
    let read : c.index-cells-source.result ≡ get_or source i d =
    get_or_read cells (k * w + i) c.index-cells-source.result (omega arith) c.index-cells-source.is d
    ∙ c.loop-i.invariant.2 i (omega arith) c.loop-i-test.true
    ∙ sym (row-cell before w k (omega arith) i d c.loop-i-test.true)
    in (
      c.loop-i.invariant.0,
      λ row long gives.
          let given : c.given-cell.result ≡ get_or row i d =
          gives i c.given-cell.result (omega arith) (subst (λ (x : Cell g.row.D.Denot). goal.G-post g c.args.given i x c.given-cell.result) read c.given-cell.ensures)
          in
          brought-more o own.widening cells c.loop-i.changed c.take_in-changed.result (c.args.to * w) (c.args.to * w + i) row i c.given-cell.result c.take_in-changed.new.target c.index-cells-target.result refl (omega arith) there given c.take_in-changed.ensures.cell c.take_in-changed.ensures.changed
          ∙ c.loop-i.invariant.1 row long gives,
      kept_more d before cells _ w k c.args.to i c.take_in-changed.new.target c.loop-i-test.true refl c.loop-i.invariant.2,
    )
