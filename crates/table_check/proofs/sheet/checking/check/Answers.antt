use Rattle.std.proofs.Common.{length}
use Rattle.program.specs.Model.{code}
use Rattle.table_check.proofs.Judging.{only-passing, each-passing}
use Rattle.table_check.proofs.sheet.checking.check.Goals as goal

pub returns : goal.returns
returns g c =
    let o = g.D.Domain.ops in
    let p = code c.args.program.now in
    let table = c.args.cells.now in
    let m = length c.args.marks.now in
    record {
      answer = c.judge.ensures.answer;
      marks = c.judge.ensures.marks;
      only_passing = only-passing o p table m c.judge.result c.judge.ensures.answer;
      each_passing = each-passing o p table m c.judge.result c.judge.ensures.answer;
    }
