use Rattle.std.proofs.Common.{◌≡◌, ℕ, ◌-◌, List, ◌∷◌, ◌++◌, length, take, drop, set, ℤ, ap, ◌∙◌, arith, w16, SFits, rules}
use Rattle.std.proofs.lemmas.Int.{to_z-of_z}
use Rattle.list.proofs.Shifts.{shift_in}
use Rattle.list.proofs.numbers_of.shifted.Goals as goal

pub returns : goal.returns
returns c =
    let fits : SFits w16 c.args.n = search rules in
    let eight : length c.args.numbers ≡ 8 = search rules in
    let written = ap (λ (xs : List ℤ). set xs c.args.at c.args.n) c.copy_within.ensures.after in
    let wide : 7 - c.args.at ≡ length c.args.numbers - 1 - c.args.at = omega arith in
    simp to_z-of_z (written ∙ shift_in c.args.numbers 7 c.args.at c.args.n (omega arith) eight ∙ ap (λ (k : ℕ). take c.args.at c.args.numbers ++ (c.args.n ∷ take k (drop c.args.at c.args.numbers))) wide)
