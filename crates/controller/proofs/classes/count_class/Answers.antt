use Rattle.std.proofs.Common.{◌≡◌, count_by, rules, ◌∙◌}
use Rattle.controller.specs.Lists.{same_class}
use Rattle.controller.proofs.Classed.{counted}
use Rattle.controller.proofs.classes.count_class.Goals as goal

pub returns : goal.returns
returns c =
    let e : c.count.result ≡ count_by (λ v. same_class c.args.class v.declaration.class) c.args.variables.now = search rules in
    e ∙ counted c.args.class c.args.variables.now
