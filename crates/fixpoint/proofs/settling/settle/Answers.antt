use Rattle.std.proofs.Common.{List, sym, ap, ◌∙◌, subst}
use Rattle.program.specs.Model.{code}
use Rattle.cells.specs.declared.cell.Cell.{Cell}
use Rattle.table_check.specs.Passing.{Passes}
use Rattle.fixpoint.proofs.Passed.{formed-same, settled-in-size, settled-not-in-size, passes-in}
use Rattle.fixpoint.proofs.settling.settle.Goals as goal

pub settle_cells-requires : goal.settle_cells-requires
settle_cells-requires g c =
    record {
      formed = formed-same c.variables-variables.result.now _ c.statements-statements.result.now _ c.variables-variables.ensures.value c.statements-statements.ensures.value c.statements-statements.ensures.formed;
      size = c.clear.auto.cells ∙ c.if-cells-size.false;
    }

pub returns-then-cells-size : goal.returns-then-cells-size
returns-then-cells-size g c =
    let o = g.D.Domain.ops in
    let p = code c.args.program.now in
    let cells = c.args.cells.now in
    let is = settled-not-in-size o p c.variables-variables.result.now c.statements-statements.result.now c.variables-variables.ensures.value c.statements-statements.ensures.value c.args.sweeps cells c.if-cells-size.true in
    record {
      cells = ap (λ r. r.cells) is;
      answer = ap (λ r. r.answer) is;
      settled_tables_pass = λ n e. absurd cc;
    }

pub returns : goal.returns
returns g c =
    let o = g.D.Domain.ops in
    let p = code c.args.program.now in
    let before = c.args.cells.now in
    let is = settled-in-size o p c.variables-variables.result.now c.statements-statements.result.now c.variables-variables.ensures.value c.statements-statements.ensures.value c.args.sweeps before c.clear.new.cells c.if-cells-size.false c.clear.ensures in
    let cells = c.settle_cells.ensures.cells ∙ ap (λ r. r.cells) is in
    let answer = c.settle_cells.ensures.answer ∙ ap (λ r. r.answer) is in
    record {
      cells = cells;
      answer = answer;
      settled_tables_pass = λ n e. subst (λ (l : List (Cell g.row.D.Denot)). Passes o p l) (sym cells) (passes-in o p c.args.sweeps before n (sym answer ∙ e));
    }
