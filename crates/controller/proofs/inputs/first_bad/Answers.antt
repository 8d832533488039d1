use Rattle.std.proofs.Common.{zip, rules, tests, ◌∙◌, arith}
use Rattle.std.proofs.lemmas.Iterator.{YieldsList-from_slice, YieldsList-from_zip}
use Rattle.std.proofs.lemmas.Iterator.Consumers.{YieldsList-at, YieldsList-from_filter}
use Rattle.std.proofs.lemmas.Iterator.Search.{position_from_yields_List}
use Rattle.std.proofs.lemmas.Iterator.Adapters.{position_from-zero}
use Rattle.controller.specs.Lists.{is_input}
use Rattle.controller.proofs.Classed.{inputs, untaken, bad-at}
use Rattle.controller.proofs.inputs.first_bad.Goals as goal

pub returns : goal.returns
returns c =
    let vs = c.args.variables.now in
    let xs = c.args.numbers.now in
    position_from_yields_List untaken c.position.new.self _ c.position.result c.position.ensures.ran
    (YieldsList-from_zip (YieldsList-at c.zip.ensures.first (YieldsList-from_filter _ (λ v. is_input v.declaration.class) (YieldsList-from_slice vs cc) c.filter-inputs.ensures.closure (λ x r q k. search (rules, tests)))) (YieldsList-from_slice xs cc))
    (λ x b q k. search (rules, tests))
    ∙ position_from-zero untaken (zip (inputs vs) xs)
    ∙ bad-at xs vs 0 (omega arith)
