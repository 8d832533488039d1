-- Variables of a class, and the inputs beside their numbers.
use Rattle.std.proofs.Common.{◌≡◌, ℕ, ◌+◌, ◌≤◌, Bool as Truth, true, false, cond, not, ◌&&◌, List, [], ◌∷◌, length, get_or, drop, filter, zip, count_by, ℤ, pos, Some, Option, refl, ap, ◌∙◌, arith}
use Rattle.std.specs.List.{position_from}
use Rattle.std.proofs.lemmas.List.{drop_more}
use Rattle.std.proofs.lemmas.List.Sums.{sum_by-cons}
use Rattle.syntax.specs.declared.record.Class.{Class}
use Rattle.syntax.specs.declared.record.Variable.{Variable}
use Rattle.controller.specs.Lists.{is_input, same_class, one, class_count, input_count, takes, first_bad}

pub counted : (c : Class) (vs : List Variable) → count_by (λ (v : Variable). same_class c v.declaration.class) vs ≡ class_count c vs
counted c [] = refl
counted c (v ∷ vs) =
    sum_by-cons (λ (x : Variable). one (same_class c x.declaration.class)) v vs
    ∙ ap (λ (n : ℕ). one (same_class c v.declaration.class) + n) (counted c vs)

abbrev pub inputs : List Variable → List Variable
inputs vs = filter (λ (v : Variable). is_input v.declaration.class) vs

-- an input beside a number that it does not take
abbrev pub untaken : Variable × ℤ → Truth
untaken p = not (takes p.0.declaration.initial p.0 p.1)

module _ (xs : List ℤ) (k : ℕ) (v : Variable) (vs : List Variable) where
  bad-by : (b : Truth) → k + (one b + input_count vs) ≤ length xs → ((n : ℕ) → n + input_count vs ≤ length xs → position_from untaken n (zip (inputs vs) (drop n xs)) ≡ first_bad xs n vs) → position_from untaken k (zip (cond b (v ∷ inputs vs) (inputs vs)) (drop k xs)) ≡ cond (b && not (takes v.declaration.initial v (get_or xs k (pos 0)))) (Some k) (first_bad xs (k + one b) vs)
  bad-by true h next =
      ap (λ (l : List ℤ). position_from untaken k (zip (v ∷ inputs vs) l)) (drop_more xs k (pos 0) (omega arith))
      ∙ ap (λ (o : Option ℕ). cond (not (takes v.declaration.initial v (get_or xs k (pos 0)))) (Some k) o) (next (k + 1) (omega arith))
  bad-by false h next =
      let e : k ≡ k + 0 = omega arith in
      next k (omega arith) ∙ ap (λ (n : ℕ). first_bad xs n vs) e

-- the first of the inputs that does not take its number
pub bad-at : (xs : List ℤ) (vs : List Variable) (k : ℕ) → k + input_count vs ≤ length xs → position_from untaken k (zip (inputs vs) (drop k xs)) ≡ first_bad xs k vs
bad-at xs [] k h = refl
bad-at xs (v ∷ vs) k h = bad-by xs k v vs (is_input v.declaration.class) h (bad-at xs vs)

pub one-most : (b : Truth) → one b ≤ 1
one-most true = omega arith
one-most false = omega arith
