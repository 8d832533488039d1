use Rattle.std.proofs.Common.{◌≡◌, ℕ, ◌+◌, ◌<◌, length, get_or, set, sym, subst, arith}
use Rattle.std.proofs.lemmas.List.Edits.{fill_by_more}
use Rattle.std.proofs.lemmas.List.FromFn.{fill_by_all}
use Rattle.program.specs.Model.{Code}
use Rattle.transfer.specs.declared.marks.Marks.{Marks}
use Rattle.table_check.specs.Sheets.{no_marks, marks_at}
use Rattle.table_check.proofs.judged.Judged.write_marks.Goals as goal

pub loop-k-preserved : goal.loop-k-preserved
loop-k-preserved g c =
    let p : Code = record { variables = c.args.self.now.variables.now; statements = c.args.self.now.statements.now } in
    let f = marks_at g.D.Domain.ops p c.args.self.now.cells.now in
    subst (λ (m : Marks). (j : ℕ) → j < c.loop-k.k + 1 → get_or (set c.loop-k.marks c.loop-k.k m) j no_marks ≡ f j) (sym c.marks_at.ensures)
    (fill_by_more f c.loop-k.marks c.loop-k.k no_marks (omega arith) c.loop-k.invariant)

pub returns : goal.returns
returns g c =
    let p : Code = record { variables = c.args.self.now.variables.now; statements = c.args.self.now.statements.now } in
    let f = marks_at g.D.Domain.ops p c.args.self.now.cells.now in
    fill_by_all f c.loop-k.marks (length c.args.self.now.statements.now) no_marks (omega arith) (λ j h. c.loop-k.invariant j (omega arith))
