use Rattle.std.proofs.Common.{◌∷◌, ◌∙◌}
use Rattle.controller.proofs.Covers.{covers-listed}
use Rattle.controller.specs.Registers.{values_in}
use Rattle.controller.proofs.registers.Registers.is_covered.Goals as goal

pub returns : goal.returns
returns g c =
    let k = c.args.self.now in
    c.covers_row.ensures ∙ covers-listed g.D.Domain.ops (k.cr ∷ values_in k.slots) c.args.row.now 0
