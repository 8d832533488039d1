use Rattle.std.proofs.Common.{ℕ, ◌*◌, false, List, length, Some, None, sym, ap, ◌∙◌, arith}
use Rattle.cells.specs.declared.cell.Cell.{Cell}
use Rattle.transfer.specs.Rows.{width, row_at, is_unreachable}
use Rattle.transfer.specs.Transfer.{target_of}
use Rattle.transfer.specs.Carrying.{row_of}
use Rattle.table.specs.Growing.{grown}
use Rattle.fixpoint.proofs.Places.{row_fits, row-length}
use Rattle.fixpoint.proofs.Targets.{target_inside}
use Rattle.fixpoint.proofs.Turns.{carried-read, brought-by, brought-reached, brought-unreached}
use Rattle.fixpoint.proofs.sweep.Sweep.bring_on.Goals as goal

pub is_new_unreachable-requires : goal.is_new_unreachable-requires
is_new_unreachable-requires g c =
    let o = g.D.Domain.ops in
    let own = c.args.self.now in
    let w = width own.variables.now in
    let fits = row_fits (length own.statements.now) w c.args.number c.requires.inside in
    let long = row-length c.args.cells.now w c.args.number (omega arith) in
    let same = ap (λ (l : List (Cell g.row.D.Denot)). length l) c.row_at-row.ensures in
    record {
      some = omega (arith, long, same);
      reached = ap (is_unreachable o) c.row_at-row.ensures ∙ c.requires.reached;
    }

pub bring_carried-requires : goal.bring_carried-requires
bring_carried-requires g c =
    let o = g.D.Domain.ops in
    let own = c.args.self.now in
    let vars = own.variables.now in
    let ss = own.statements.now in
    let row = row_at (width vars) c.args.cells.now c.args.number in
    let is = carried-read o vars c.row_at-row.result.now row c.args.operation c.args.edge (Some c.in-Some.carried) c.row_at-row.ensures c.in-Some.ensures in
    let there = target_inside o vars ss own.formed c.args.number c.requires.inside row (row_of o vars row c.in-Some.carried) c.args.operation c.requires.read c.args.edge (sym is) in
    record { sized = c.requires.sized; inside = (c.requires.inside, omega (arith, there, c.target.ensures.is (omega (arith, own.formed.short)))) }

pub returns-then-is_new_unreachable : goal.returns-then-is_new_unreachable
returns-then-is_new_unreachable g c =
    let o = g.D.Domain.ops in
    let own = c.args.self.now in
    let vars = own.variables.now in
    let k = c.args.number in
    let cells = c.args.cells.now in
    let row = row_at (width vars) cells k in
    let is = carried-read o vars c.row_at-row.result.now row c.args.operation c.args.edge (Some c.in-Some.carried) c.row_at-row.ensures c.in-Some.ensures in
    let none = ap (λ (l : List (Cell g.row.D.Denot)). is_unreachable o (row_of o vars l c.in-Some.carried)) (sym c.row_at-row.ensures) ∙ sym c.if-is_new_unreachable.ensures in
    brought-by o own.widening vars k c.args.operation c.args.edge cells (Some c.in-Some.carried) is
    ∙ brought-unreached o own.widening vars (target_of k c.args.operation c.args.edge) (row_of o vars row c.in-Some.carried) cells none

pub returns-else-is_new_unreachable : goal.returns-else-is_new_unreachable
returns-else-is_new_unreachable g c =
    let o = g.D.Domain.ops in
    let own = c.args.self.now in
    let vars = own.variables.now in
    let k = c.args.number in
    let cells = c.args.cells.now in
    let b = own.widening in
    let row = row_at (width vars) cells k in
    let next = row_of o vars row c.in-Some.carried in
    let is = carried-read o vars c.row_at-row.result.now row c.args.operation c.args.edge (Some c.in-Some.carried) c.row_at-row.ensures c.in-Some.ensures in
    let some = ap (λ (l : List (Cell g.row.D.Denot)). is_unreachable o (row_of o vars l c.in-Some.carried)) (sym c.row_at-row.ensures) ∙ sym c.if-is_new_unreachable.ensures in
    let to = ap (λ (n : ℕ). grown o b cells false (n * width vars) next) (c.target.ensures.is (omega (arith, c.requires.inside, own.formed.short))) in
    brought-by o b vars k c.args.operation c.args.edge cells (Some c.in-Some.carried) is
    ∙ brought-reached o b vars (target_of k c.args.operation c.args.edge) next cells some
    ∙ sym to
    ∙ c.bring_carried.ensures

pub returns-in-None : goal.returns-in-None
returns-in-None g c =
    let o = g.D.Domain.ops in
    let own = c.args.self.now in
    let vars = own.variables.now in
    let k = c.args.number in
    let cells = c.args.cells.now in
    let is = carried-read o vars c.row_at-row.result.now (row_at (width vars) cells k) c.args.operation c.args.edge None c.row_at-row.ensures c.in-None.ensures in
    brought-by o own.widening vars k c.args.operation c.args.edge cells None is
