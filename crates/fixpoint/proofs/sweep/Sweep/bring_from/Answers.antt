use Rattle.std.proofs.Common.{◌≡◌, sym, ap, ◌∙◌}
use Rattle.syntax.specs.declared.record.Operation.{Operation}
use Rattle.meaning.specs.declared.edge.Edge.TheVariants as way
use Rattle.transfer.specs.Rows.{width, row_at, is_unreachable}
use Rattle.table.specs.Growing.{Grown}
use Rattle.table.specs.Tables.{operation_at}
use Rattle.fixpoint.specs.Sweeps.{brought_on, brought_from}
use Rattle.fixpoint.proofs.Reached.{fall-keeps}
use Rattle.fixpoint.proofs.Turns.{from-unreached, from-reached, then-made}
use Rattle.fixpoint.proofs.sweep.Sweep.bring_from.Goals as goal

pub returns-then-is_unreachable : goal.returns-then-is_unreachable
returns-then-is_unreachable g c =
    let o = g.D.Domain.ops in
    let own = c.args.self.now in
    let b = ap (is_unreachable o) (sym c.row_at.ensures) ∙ sym c.if-is_unreachable.ensures in
    from-unreached o own.widening own.variables.now c.args.number (operation_at own.statements.now c.args.number) c.args.cells.now b

pub bring_on-fell-requires : goal.bring_on-fell-requires
bring_on-fell-requires g c =
    record {
      sized = c.requires.sized;
      inside = c.requires.inside;
      read = c.operation_at-operation.ensures;
      reached = ap (is_unreachable g.D.Domain.ops) (sym c.row_at.ensures) ∙ sym c.if-is_unreachable.ensures;
    }

pub bring_on-jumped-requires : goal.bring_on-jumped-requires
bring_on-jumped-requires g c =
    let o = g.D.Domain.ops in
    let own = c.args.self.now in
    let vars = own.variables.now in
    let k = c.args.number in
    let w = width vars in
    let mid = c.bring_on-fell.new.cells in
    let kept : row_at w mid k ≡ row_at w c.args.cells.now k =
    ap (λ (x : Grown g.row.D.Denot). row_at w x.cells k) (sym c.bring_on-fell.ensures) ∙ fall-keeps o own.widening vars k c.operation_at-operation.result c.args.cells.now
    in
    record {
      sized = c.bring_on-fell.auto.cells ∙ c.requires.sized;
      inside = c.requires.inside;
      read = c.operation_at-operation.ensures;
      reached = ap (is_unreachable o) (kept ∙ sym c.row_at.ensures) ∙ sym c.if-is_unreachable.ensures;
    }

pub returns : goal.returns
returns g c =
    let o = g.D.Domain.ops in
    let own = c.args.self.now in
    let vars = own.variables.now in
    let k = c.args.number in
    let op = c.operation_at-operation.result in
    let cells = c.args.cells.now in
    let b = ap (is_unreachable o) (sym c.row_at.ensures) ∙ sym c.if-is_unreachable.ensures in
    ap (λ (p : Operation). brought_from o own.widening vars k p cells) (sym c.operation_at-operation.ensures)
    ∙ from-reached o own.widening vars k op cells b
    ∙ then-made (brought_on o own.widening vars k op way.Fall cells) (brought_on o own.widening vars k op way.Jump) c.bring_on-fell.new.cells c.bring_on-jumped.new.cells c.bring_on-fell.result c.bring_on-jumped.result c.bring_on-fell.ensures c.bring_on-jumped.ensures
