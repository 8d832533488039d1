use Rattle.std.proofs.Common.{List, [], get_or, ℤ, pos, string_bytes, sym, ap, ◌∙◌, arith, w16, SFits, rules}
use Rattle.std.proofs.lemmas.List.{take_all}
use Rattle.std.proofs.lemmas.Int.{to_z-of_z}
use Rattle.std.proofs.lemmas.List.Sums.{fold_more}
use Rattle.notation.specs.Lists.{with_number}
use Rattle.notation.proofs.lists.numbers_text.Goals as goal

pub loop-number-preserved : goal.loop-number-preserved
loop-number-preserved c =
    let ns : List ℤ = c.args.numbers.now in
    let i = c.loop-number.number-index in
    let fits : SFits w16 (get_or ns i (pos 0)) = search rules in
    c.in_ok-push_number.ensures
    ∙ ap (with_number (string_bytes c.loop-number.out)) (to_z-of_z w16 _ fits)
    ∙ ap (λ t. with_number t (get_or ns i (pos 0))) c.loop-number.invariant
    ∙ sym (fold_more with_number [] ns i (pos 0) c.loop-number-test.true)

pub returns : goal.returns
returns c = grind (arith, take_all)
