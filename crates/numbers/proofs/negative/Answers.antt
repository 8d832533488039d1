use Rattle.std.proofs.Common.{◌≡◌, ℕ, ◌-◌, min, length, take, drop, pos, ◌-ℤ◌, neg_ℤ, sym, ap, ◌∙◌, arith, w32, to_z, of_z}
use Rattle.std.proofs.lemmas.Int.{ints}
use Rattle.numbers.specs.Int.{in_int}
use Rattle.numbers.specs.Number.{decimal}
use Rattle.numbers.proofs.Numbers.{capped-under, written-minus}
use Rattle.numbers.proofs.negative.Goals as goal

pub returns : goal.returns
returns c =
    let d : ℕ = decimal (take (length c.args.word.now - 1) (drop 1 c.args.word.now)) in
    let passed : to_z w32 (of_z w32 (pos 0 -ℤ to_z w32 (of_z w32 c.magnitude.result))) ≡ neg_ℤ (pos (min d 32769)) = omega (arith, ints) in
    c.fit.ensures ∙ ap in_int passed ∙ capped-under d ∙ ap in_int (sym (written-minus c.args.word.now c.requires.1))
