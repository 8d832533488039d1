use Rattle.std.proofs.Common.{◌≡◌, List, [], get_or, ℤ, pos, Some, None, Option, fold, sym, refl, ap, ◌∙◌, w16, SFits, rules}
use Rattle.std.proofs.lemmas.List.{at_drop_all}
use Rattle.std.proofs.lemmas.Int.{to_z-of_z}
use Rattle.list.specs.Insertion.{put_in}
use Rattle.list.specs.Numbers.{if_any, row}
use Rattle.list.specs.Loops.{passed, fold_step}
use Rattle.list.proofs.NumberList.put_row.Goals as goal
use Rattle.list.proofs.NumberList.put_row.Goals.{in-Some, in_default}

no_number : (o : Option ℤ) → ((n : ℤ) → o ≡ Some n → ⊥) → [] ≡ if_any o
no_number None h = refl
no_number (Some n) h = absurd (h n refl)

pub loop-b-preserved : goal.loop-b-preserved
loop-b-preserved g c op is =
    let ns : List ℤ = c.args.numbers.now in
    let i = c.loop-b.b-index in
    let a = passed c.args.a in
    let fits : SFits w16 (get_or ns i (pos 0)) = search rules in
    let gives : c.operation.result ≡ op a (get_or ns i (pos 0)) = is _ _ (search rules) (search rules) _ c.operation.ensures ∙ ap (op a) (to_z-of_z w16 _ fits) in
    let put : c.match-operation.set ≡ fold put_in c.loop-b.set (if_any c.operation.result) =
    elim c.match-operation.branch [
      | in-Some w ↦ search rules
      | in_default w ↦ w.set-is ∙ ap (fold put_in c.loop-b.set) (no_number c.operation.result (search rules))
    ] in
    let one = put ∙ ap (λ n. fold put_in c.loop-b.set (if_any n)) gives in
    fold_step put_in (row op a) (λ b. if_any (op a b)) (λ _ _. refl) ns i c.loop-b.set c.match-operation.set (fold put_in c.args.self (row op a ns)) c.loop-b-test.true one (c.loop-b.invariant op is)

pub returns : goal.returns
returns g c op is =
    let ns : List ℤ = c.args.numbers.now in
    let fits : SFits w16 c.args.a = search rules in
    sym (at_drop_all (λ xs. fold put_in c.loop-b.set (row op (passed c.args.a) xs)) ns c.loop-b.b-index c.loop-b-test.false) ∙ c.loop-b.invariant op is ∙ ap (λ z. fold put_in c.args.self (row op z ns)) (to_z-of_z w16 _ fits)
