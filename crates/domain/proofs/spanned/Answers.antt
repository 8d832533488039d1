use Rattle.std.proofs.Common.{◌≡◌, true, List, [], ◌∷◌, ◌++◌, ℤ, pos, Option, sym, ap, ◌∙◌, subst, arith, w16, SFits, rules}
use Rattle.std.specs.Fn.{Called, Mut}
use Rattle.std.specs.Iterator.{Drains}
use Rattle.std.specs.List.{FoldsTo}
use Rattle.std.proofs.ByRecursion.{All-push}
use Rattle.std.proofs.lemmas.Fn.{fold_over}
use Rattle.std.proofs.lemmas.Iterator.{YieldsList, YieldsList-from_slice}
use Rattle.std.proofs.lemmas.List.Sums.{fold-append}
use Rattle.std.proofs.lemmas.Int.{ints}
use Rattle.std.proofs.lemmas.Bool.Decides.{nat_tests}
use Rattle.numbers.specs.Int.{is_int}
use Rattle.domain.specs.Domain.{joined_spans, HoldsEach, LeastOver}
use Rattle.domain.proofs.Spans.{All-ints, spans-hold-each, spans-are-least}
use Rattle.domain.proofs.spanned.Goals as goal

-- what holds of no items, and after each call of its closure of one item more, holds at the end of a fold over the items of a chain
folded : {S A B C F : Type 0} {steps : S → Option A → S → Type 0} {v : A → B} {g : Mut F (C × (A × Unit {0})) C} {s : S} {all : List B} {f : F} {a r : C} (J : List B → C → Type 0) → (xs : List A) × (f' : F) × Drains steps s xs × FoldsTo {P = F × C} (λ p x q. Called g p.0 (p.1, (x, tt)) q.1 q.0) (f, a) xs (f', r) → YieldsList steps v s all → J [] a → ((ys : List B) (b : C) (x : A) (d : C) (f' : F) → J ys b → Called g f (b, (x, tt)) d f' → J (ys ++ (v x ∷ [])) d × (f' ≡ f)) → J all r
folded {steps = steps} {v = v} {g = g} {s = s} {all = all} {f = f} {a = a} {r = r} J ran chain none step = fold_over steps v g J f step s all a r chain.runs none ran

pub returns : goal.returns
returns g c =
    let o = g.D.Domain.ops in
    let l = g.met.D.Domain.lawful in
    let ns : List ℤ = c.args.numbers.now in
    let both : (c.fold.result ≡ joined_spans o ns) × All-ints o l ns = folded (λ ys s. (s ≡ joined_spans o ys) × All-ints o l ys) c.fold.ensures.ran (YieldsList-from_slice ns (cc)) (search rules, tt)
    (λ ys b x d f' j k.
    let fits : SFits w16 x.now = search rules in
    let int : is_int x.now ≡ true = grind (arith, ints, nat_tests) in
    let step : d ≡ o.join b (o.span x.now x.now) = search rules in
    ((step ∙ ap (λ s. o.join s (o.span x.now x.now)) j.0 ∙ sym (fold-append (λ s n. o.join s (o.span n n)) (o.span (pos 1) (pos 0)) ys (x.now ∷ [])), All-push (λ n. is_int n ≡ true) ys x.now j.1 int), search rules)) in
    record {
      is = both.0;
      holds_each = subst (λ s. HoldsEach o s ns) (sym both.0) (spans-hold-each o l ns both.1);
      least = subst (λ s. LeastOver o s ns) (sym both.0) (spans-are-least o l ns);
    }
