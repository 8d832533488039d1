use Rattle.std.proofs.Common.{◌≡◌, ℕ, ◌+◌, ◌-◌, Bool as Truth, true, false, Err, sym, ap, ◌∙◌, arith}
use Rattle.table.specs.Growing.{Grown}
use Rattle.fixpoint.specs.declared.fault.SettleFault.TheVariants.{NotSettled}
use Rattle.fixpoint.specs.Sweeps.{swept_with, swept}
use Rattle.fixpoint.specs.Settling.{settled_from}
use Rattle.fixpoint.proofs.Passed.{settled-more, settled-stops, settled-ends}
use Rattle.fixpoint.proofs.settling.settle_cells.Goals as goal

pub loop-done-preserved : goal.loop-done-preserved
loop-done-preserved g c =
    let o = g.D.Domain.ops in
    let vars = c.args.variables.now in
    let ss = c.args.statements.now in
    let cells = c.loop-done.cells in
    let k = c.loop-done.done in
    let step = swept o (record { variables = vars; statements = ss }) in
    let swept-so = ap (λ (b : Truth). swept_with o b vars ss cells) (sym c.widens.ensures) ∙ c.over.ensures in
    let changed : (step (k + 1) cells).changed ≡ true = ap (λ (r : Grown g.row.D.Denot). r.changed) swept-so ∙ c.if-not-over.false in
    ap (λ (r : Grown g.row.D.Denot). settled_from step (k + 1) (c.args.sweeps - (k + 1)) r.cells) (sym swept-so)
    ∙ settled-more step c.args.sweeps k cells c.loop-done-test.true changed
    ∙ c.loop-done.invariant

pub returns-then-not-over : goal.returns-then-not-over
returns-then-not-over g c =
    let o = g.D.Domain.ops in
    let vars = c.args.variables.now in
    let ss = c.args.statements.now in
    let cells = c.loop-done.cells in
    let k = c.loop-done.done in
    let step = swept o (record { variables = vars; statements = ss }) in
    let swept-so = ap (λ (b : Truth). swept_with o b vars ss cells) (sym c.widens.ensures) ∙ c.over.ensures in
    let changed : (step (k + 1) cells).changed ≡ false = ap (λ (r : Grown g.row.D.Denot). r.changed) swept-so ∙ c.if-not-over.true in
    let stops = sym (settled-stops step c.args.sweeps k cells c.loop-done-test.true changed) ∙ c.loop-done.invariant in
    record { cells = ap (λ (r : Grown g.row.D.Denot). r.cells) (sym swept-so) ∙ ap (λ r. r.cells) stops; answer = ap (λ r. r.answer) stops }

pub returns : goal.returns
returns g c =
    let o = g.D.Domain.ops in
    let step = swept o (record { variables = c.args.variables.now; statements = c.args.statements.now }) in
    let k = c.loop-done.done in
    let all : c.args.sweeps ≡ k = omega (arith, c.loop-done-test.false, c.loop-done.auto.done-end) in
    let ends = sym (settled-ends step c.args.sweeps k c.loop-done.cells c.loop-done-test.false) ∙ c.loop-done.invariant in
    record { cells = ap (λ r. r.cells) ends; answer = ap (λ (n : ℕ). Err (NotSettled n)) all ∙ ap (λ r. r.answer) ends }
