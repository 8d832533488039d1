use Rattle.std.proofs.Common.{◌≡◌, ℕ, ◌+◌, ◌-◌, ◌*◌, List, [], ◌++◌, length, take, replicate, ap, ◌∙◌, zero-le, arith}
use Rattle.std.proofs.lemmas.List.{take_all}
use Rattle.program.specs.Model.{code}
use Rattle.syntax.specs.declared.record.Statement.{Statement}
use Rattle.syntax.specs.declared.record.Variable.{Variable}
use Rattle.cells.specs.Cells.{nothing}
use Rattle.commands.proofs.checking.blank_cells.Goals as goal

-- a new vector that grew to n places
grown : {X : Type 0} (new : List X) (n l : ℕ) (x : X) → new ≡ [] → l ≡ 0 → take n new ++ replicate (n - l) x ≡ replicate n x
grown new n l x en el =
    let e : n - l ≡ n = omega arith in
    ap (λ xs. take n xs ++ replicate (n - l) x) en ∙ ap (λ xs. xs ++ replicate (n - l) x) (take_all n [] zero-le) ∙ ap (λ (m : ℕ). replicate m x) e

pub returns : goal.returns
returns g c =
    let a = c.in_ok-resize.ensures in
    let ss = (code c.args.program.now).statements in
    let x = c.nothing.result in
    let none = nothing g.D.Domain.ops in
    a.items ∙ grown _ _ _ x c.new-cells.ensures.items c.new-cells.ensures.len
    ∙ ap (λ (xs : List Statement). replicate (length xs * (length c.variables.result.now + 1)) x) c.statements.ensures.value
    ∙ ap (λ (xs : List Variable). replicate (length ss * (length xs + 1)) x) c.variables.ensures.value
    ∙ ap (replicate (length ss * (length (code c.args.program.now).variables + 1))) c.nothing.ensures
