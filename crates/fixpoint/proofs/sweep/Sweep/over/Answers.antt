use Rattle.std.proofs.Common.{◌<◌, length, sym, ap, ◌∙◌, arith}
use Rattle.std.proofs.lemmas.Bool.{eqb-false}
use Rattle.syntax.specs.Records.{no_statement}
use Rattle.table.specs.Growing.{Grown}
use Rattle.fixpoint.specs.Sweeps.{swept_from}
use Rattle.fixpoint.proofs.Turns.{swept-more, swept-done, swept-some}
use Rattle.fixpoint.proofs.sweep.Sweep.over.Goals as goal

pub loop-number-preserved : goal.loop-number-preserved
loop-number-preserved g c =
    let own = c.args.self.now in
    swept-more g.D.Domain.ops own.widening own.variables.now c.loop-number.cells c.bring_from-changed.new.cells c.loop-number.changed c.bring_from-changed.result c.loop-number.number own.statements.now no_statement c.loop-number-test.true c.bring_from-changed.ensures
    ∙ c.loop-number.invariant

pub returns : goal.returns
returns g c =
    let o = g.D.Domain.ops in
    let own = c.args.self.now in
    let b = own.widening in
    let vars = own.variables.now in
    let ss = own.statements.now in
    let some : 0 < length ss = omega (arith, eqb-false (length ss) 0 (sym c.is_empty.ensures ∙ c.if-is_empty.false)) in
    swept-some o b vars ss c.args.cells.now some
    ∙ ap (λ (s : Grown g.row.D.Denot). swept_from o b vars s 0 ss) c.bring_start-changed.ensures
    ∙ sym c.loop-number.invariant
    ∙ swept-done o b vars (record { cells = c.loop-number.cells; changed = c.loop-number.changed }) c.loop-number.number ss c.loop-number-test.false
