use Rattle.std.proofs.Common.{◌≡◌, ◌*◌, false, cond, eqb, length, get_or, ap, ◌∙◌, arith, rules, length-set}
use Rattle.cells.specs.Cells.{nothing}
use Rattle.transfer.specs.Rows.{width, row_at}
use Rattle.transfer.specs.Transfer.{return_row, with_result, with_variable}
use Rattle.transfer.specs.Carrying.{changed_row}
use Rattle.table.specs.Growing.{grown}
use Rattle.fixpoint.specs.Bringing.{changed_at, restarted_at}
use Rattle.fixpoint.proofs.Places.{row_fits, row-length, result-cell, variable-length, variable-cell, restarted-length, restarted-cell}
use Rattle.fixpoint.proofs.sweep.Sweep.bring_carried.Goals as goal

pub returns-in-Nothing : goal.returns-in-Nothing
returns-in-Nothing g c =
    let o = g.D.Domain.ops in
    let own = c.args.self.now in
    let w = width own.variables.now in
    let cr = c.args.carried.cr in
    let fits = row_fits (length own.statements.now) w c.args.from c.requires.inside.0 in
    let source = row_at w c.args.cells.now c.args.from in
    let long : length source ≡ w = row-length c.args.cells.now w c.args.from (omega arith) in
    let whole : length (with_result o source cr) ≡ w = length-set source 0 cr ∙ long in
    ap (λ x. grown o own.widening c.args.cells.now false (c.args.to * w) (changed_row o own.variables.now source cr x)) c.in-Nothing.is
    ∙ c.bring.ensures (with_result o source cr) whole
    (λ i cell h post.
    let is : cell ≡ cond (eqb i 0) cr (get_or source i (nothing o)) = search rules in
    is ∙ result-cell o source cr i (nothing o) (omega arith))

pub returns-in-Variable : goal.returns-in-Variable
returns-in-Variable g c =
    let o = g.D.Domain.ops in
    let own = c.args.self.now in
    let w = width own.variables.now in
    let cr = c.args.carried.cr in
    let v = c.in-Variable.variable in
    let new = c.in-Variable.cell in
    let fits = row_fits (length own.statements.now) w c.args.from c.requires.inside.0 in
    let source = row_at w c.args.cells.now c.args.from in
    let long : length source ≡ w = row-length c.args.cells.now w c.args.from (omega arith) in
    let whole : length (with_variable o source cr v new) ≡ w = variable-length o source cr v new ∙ long in
    ap (λ x. grown o own.widening c.args.cells.now false (c.args.to * w) (changed_row o own.variables.now source cr x)) c.in-Variable.is
    ∙ c.bring-in-Variable.ensures (with_variable o source cr v new) whole
    (λ i cell h post.
    let is : cell ≡ changed_at o cr v new i (get_or source i (nothing o)) = search rules in
    is ∙ variable-cell o source cr v new i (nothing o) (omega arith))

pub returns-in-Inputs : goal.returns-in-Inputs
returns-in-Inputs g c =
    let o = g.D.Domain.ops in
    let own = c.args.self.now in
    let vars = own.variables.now in
    let w = width vars in
    let fits = row_fits (length own.statements.now) w c.args.from c.requires.inside.0 in
    let source = row_at w c.args.cells.now c.args.from in
    let long : length source ≡ w = row-length c.args.cells.now w c.args.from (omega arith) in
    let whole : length (return_row o vars source) ≡ w = restarted-length o vars source in
    ap (λ x. grown o own.widening c.args.cells.now false (c.args.to * w) (changed_row o vars source c.args.carried.cr x)) c.in-Inputs.is
    ∙ c.bring-in-Inputs.ensures (return_row o vars source) whole
    (λ i cell h post.
    let is : cell ≡ restarted_at o vars i (get_or source i (nothing o)) = search rules in
    is ∙ restarted-cell o vars source i (nothing o) (omega arith) long)
