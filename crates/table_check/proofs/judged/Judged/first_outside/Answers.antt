use Rattle.std.proofs.Common.{◌≡◌, ℕ, ◌+◌, Bool as Truth, true, false, get_or, sym, ◌∙◌, rules}
use Rattle.std.proofs.lemmas.Iterator.{first_from_Range}
use Rattle.cells.specs.Cells.{nothing, within}
use Rattle.transfer.specs.Carrying.{row_of}
use Rattle.table_check.proofs.Turns.{outside-found}
use Rattle.table_check.proofs.judged.Judged.first_outside.Goals as goal

pub returns : goal.returns
returns g c =
    let o = g.D.Domain.ops in
    let own = c.args.self.now in
    let start = c.args.start in
    let row = row_of o own.variables.now c.args.row.now c.args.carried in
    let test : ℕ → Truth = λ i. within o (get_or row i (nothing o)) (get_or own.cells.now (start + i) (nothing o)) in
    let first = first_from_Range _ _ _ c.find.result (λ i. test i ≡ false) (λ i. test i ≡ true) c.find.ensures.ran (λ x q k. search rules) (λ x q k. search rules) in
    outside-found o own.variables.now own.cells.now start _ row c.find.result c.map.result (c.requires.wide ∙ sym c.width.ensures) first (search rules)
