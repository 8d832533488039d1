use Rattle.std.proofs.Common.{◌||◌, sym, ap, ◌∙◌, arith}
use Rattle.cells.specs.Cells.{is_vacant}
use Rattle.transfer.specs.Rows.{is_unreachable}
use Rattle.transfer.specs.Carrying.{changed_row}
use Rattle.fixpoint.proofs.Reached.{result-vacant, variable-vacant, variable-beyond}
use Rattle.fixpoint.proofs.changes.is_new_unreachable.Goals as goal

pub returns-in-Nothing : goal.returns-in-Nothing
returns-in-Nothing g c =
    let o = g.D.Domain.ops in
    let row = c.args.row.now in
    let cr = c.args.carried.cr in
    c.is_vacant.ensures
    ∙ result-vacant o row cr c.requires.some c.requires.reached
    ∙ ap (λ x. is_unreachable o (changed_row o c.args.variables.now row cr x)) (sym c.in-Nothing.is)

pub returns-then-variable-row : goal.returns-then-variable-row
returns-then-variable-row g c =
    let o = g.D.Domain.ops in
    let row = c.args.row.now in
    let cr = c.args.carried.cr in
    let v = c.in-Variable.variable in
    let cell = c.in-Variable.cell in
    ap (λ b. b || c.is_vacant-then-variable-row.result) c.is_vacant-vacant.ensures
    ∙ ap (λ b. is_vacant o cr || b) c.is_vacant-then-variable-row.ensures
    ∙ variable-vacant o row cr v cell (omega arith) c.requires.reached
    ∙ ap (λ x. is_unreachable o (changed_row o c.args.variables.now row cr x)) (sym c.in-Variable.is)

pub returns-else-variable-row : goal.returns-else-variable-row
returns-else-variable-row g c =
    let o = g.D.Domain.ops in
    let row = c.args.row.now in
    let cr = c.args.carried.cr in
    c.is_vacant-vacant.ensures
    ∙ variable-beyond o row cr c.in-Variable.variable c.in-Variable.cell c.requires.some (omega arith) c.requires.reached
    ∙ ap (λ x. is_unreachable o (changed_row o c.args.variables.now row cr x)) (sym c.in-Variable.is)
