use Rattle.std.proofs.Common.{ℕ, ◌+◌, drop, Some, Option, sym, ap, ◌∙◌}
use Rattle.table_check.specs.Failures.{or_else, fails_among}
use Rattle.table_check.proofs.Turns.{among-more, among-all}
use Rattle.table_check.proofs.judged.Judged.fails_among.Goals as goal

pub returns-in-Some : goal.returns-in-Some
returns-in-Some g c =
    let o = g.D.Domain.ops in
    let own = c.args.self.now in
    let k = c.loop-k.k in
    let turn = among-more o own.variables.now own.cells.now k own.statements.now (Some c.in-Some.place) c.loop-k-test.true (sym c.in-Some.is ∙ c.fails_from.ensures) in
    sym turn ∙ c.loop-k.invariant

pub loop-k-preserved : goal.loop-k-preserved
loop-k-preserved g c =
    let o = g.D.Domain.ops in
    let own = c.args.self.now in
    let k = c.loop-k.k in
    let turn = among-more o own.variables.now own.cells.now k own.statements.now c.fails_from.result c.loop-k-test.true c.fails_from.ensures in
    sym (turn ∙ ap (λ (x : Option ℕ). or_else x (fails_among o own.variables.now own.cells.now (k + 1) (drop (k + 1) own.statements.now))) c.in_default.is) ∙ c.loop-k.invariant

pub returns : goal.returns
returns g c =
    let own = c.args.self.now in
    sym (among-all g.D.Domain.ops own.variables.now own.cells.now c.loop-k.k own.statements.now c.loop-k-test.false) ∙ c.loop-k.invariant
