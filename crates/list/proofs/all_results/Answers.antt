use Rattle.std.proofs.Common.{[], ◌∙◌}
use Rattle.list.specs.InsertionLemmas.{put-many}
use Rattle.list.specs.Numbers.{pairs}
use Rattle.list.proofs.all_results.Goals as goal

pub returns : goal.returns
returns g c op is = c.put_pairs.ensures op is ∙ put-many [] (pairs op c.args.xs.now c.args.ys.now)
