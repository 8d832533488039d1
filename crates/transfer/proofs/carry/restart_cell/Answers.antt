use Rattle.std.proofs.Common.{◌+◌, ◌<◌, ◌≤◌, length, sym, ◌∙◌, rules, tests}
use Rattle.syntax.specs.Records.{no_variable}
use Rattle.cells.specs.Cells.{nothing}
use Rattle.transfer.proofs.Changes.{restart-within, restart-beyond, restart-past}
use Rattle.transfer.proofs.carry.restart_cell.Goals as goal

pub returns-in_default : goal.returns-in_default
returns-in_default g c =
    let past : length c.args.variables.now ≤ c.args.index = search (rules, tests) in
    c.nothing.ensures ∙ sym (restart-past g.D.Domain.ops c.args.variables.now c.args.row.now c.args.index (nothing g.D.Domain.ops) past)

pub returns-in-Some-get : goal.returns-in-Some-get
returns-in-Some-get g c =
    let h : c.args.index < length c.args.variables.now = search (rules, tests) in
    let l : c.args.index + 1 < length c.args.row.now = search (rules, tests) in
    let e = restart-within g.D.Domain.ops c.args.variables.now c.args.row.now c.args.index no_variable (nothing g.D.Domain.ops) h l in
    search rules

pub returns-in-None : goal.returns-in-None
returns-in-None g c =
    let h : c.args.index < length c.args.variables.now = search (rules, tests) in
    let l : length c.args.row.now ≤ c.args.index + 1 = search (rules, tests) in
    let e = restart-beyond g.D.Domain.ops c.args.variables.now c.args.row.now c.args.index no_variable (nothing g.D.Domain.ops) h l in
    search rules
