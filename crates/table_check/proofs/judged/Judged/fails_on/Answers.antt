use Rattle.std.proofs.Common.{length, ap, ◌∙◌, arith}
use Rattle.transfer.specs.Rows.{width}
use Rattle.table_check.proofs.Lengths.{changed-length}
use Rattle.table_check.proofs.Passing.{row-length}
use Rattle.table_check.proofs.judged.Judged.fails_on.Goals as goal

pub fails_at-requires : goal.fails_at-requires
fails_at-requires g c =
    let o = g.D.Domain.ops in
    let own = c.args.self.now in
    let vars = own.variables.now in
    let long = ap length c.row-row.ensures ∙ row-length (width vars) (length own.statements.now) c.args.from own.cells.now own.sized c.requires.inside in
    record {
      wide = changed-length o vars c.row-row.result.now long c.in_ok-carried.carried.cr c.in_ok-carried.carried.change;
      near = omega (arith, c.target.ensures.is (omega arith));
    }
