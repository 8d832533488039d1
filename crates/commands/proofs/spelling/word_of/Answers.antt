use Rattle.std.proofs.Common.{sym, ap, ◌∙◌}
use Rattle.commands.specs.Spelling.{spelling}
use Rattle.commands.proofs.Readback.{told}
use Rattle.commands.proofs.spelling.word_of.Goals as goal

pub returns-in-Apply : goal.returns-in-Apply
returns-in-Apply c =
    let e = c.operator_word.ensures ∙ ap spelling (sym c.in-Apply.is) in
    record { is = e; reads_back = told c.args.command _ e }

pub returns-in-Store : goal.returns-in-Store
returns-in-Store c =
    let e = c.store_word.ensures ∙ ap spelling (sym c.in-Store.is) in
    record { is = e; reads_back = told c.args.command _ e }

pub returns-in-Jump : goal.returns-in-Jump
returns-in-Jump c =
    let e = c.jump_word.ensures ∙ ap spelling (sym c.in-Jump.is) in
    record { is = e; reads_back = told c.args.command _ e }
