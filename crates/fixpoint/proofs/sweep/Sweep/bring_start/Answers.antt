use Rattle.std.proofs.Common.{sym, ◌∙◌, arith, rules}
use Rattle.transfer.specs.Rows.{start_row}
use Rattle.table.proofs.Starting.{initial-length}
use Rattle.fixpoint.proofs.Turns.{brought-unreached, brought-reached}
use Rattle.fixpoint.proofs.sweep.Sweep.bring_start.Goals as goal

pub returns-then-is_start_unreachable : goal.returns-then-is_start_unreachable
returns-then-is_start_unreachable g c =
    let own = c.args.self.now in
    brought-unreached g.D.Domain.ops own.widening own.variables.now 0 (start_row g.D.Domain.ops own.variables.now) c.args.cells.now (sym c.if-is_start_unreachable.ensures)

pub returns : goal.returns
returns g c =
    let o = g.D.Domain.ops in
    let own = c.args.self.now in
    let vars = own.variables.now in
    let row = start_row o vars in
    let long = initial-length o vars in
    brought-reached o own.widening vars 0 row c.args.cells.now (sym c.if-is_start_unreachable.ensures)
    ∙ c.bring.ensures row (omega arith) (λ i cell h post. search rules)
