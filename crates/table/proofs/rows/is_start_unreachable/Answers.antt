use Rattle.std.proofs.Common.{rules, tests}
use Rattle.std.proofs.lemmas.Iterator.{YieldsList-from_slice, YieldsList-from_map}
use Rattle.std.proofs.lemmas.Iterator.Search.{any_from_yields_List}
use Rattle.cells.specs.Cells.{is_vacant}
use Rattle.transfer.specs.Rows.{initial_cell}
use Rattle.table.proofs.rows.is_start_unreachable.Goals as goal

pub returns : goal.returns
returns g c =
    let o = g.D.Domain.ops in
    any_from_yields_List (is_vacant o) _ _ c.any.result c.any.ensures.ran (YieldsList-from_map _ (initial_cell o) (YieldsList-from_slice c.args.variables.now (search rules)) (search rules) (λ x r q k. search rules)) (λ x b q k. search (rules, tests))
