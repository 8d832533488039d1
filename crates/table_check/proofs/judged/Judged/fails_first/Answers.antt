use Rattle.std.proofs.Common.{[], length, ap, ◌∙◌, arith}
use Rattle.transfer.specs.declared.carry.Carried.{Carried}
use Rattle.transfer.specs.Carrying.{row_of}
use Rattle.table_check.specs.Failures.{fails_at}
use Rattle.table_check.proofs.Lengths.{return-length, return-starts}
use Rattle.table_check.proofs.judged.Judged.fails_first.Goals as goal

pub fails_at-requires : goal.fails_at-requires
fails_at-requires g c =
    let o = g.D.Domain.ops in
    let vars = c.args.self.now.variables.now in
    record {
      wide = ap (λ (x : Carried g.row.D.Denot). length (row_of o vars [] x)) c.starting.ensures ∙ return-length o vars [];
      near = omega arith;
    }

pub returns : goal.returns
returns g c =
    let o = g.D.Domain.ops in
    let vars = c.args.self.now.variables.now in
    let is = ap (λ (x : Carried g.row.D.Denot). row_of o vars [] x) c.starting.ensures ∙ return-starts o vars in
    c.fails_at.ensures ∙ ap (fails_at o vars c.args.self.now.cells.now 0) is
