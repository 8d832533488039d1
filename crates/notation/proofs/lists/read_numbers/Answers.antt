use Rattle.std.proofs.Common.{◌≡◌, ℕ, ◌+◌, ◌<◌, eqb, List, [], ◌∷◌, length, get_or, drop, Some, None, Option, fold, refl, sym, ap, ◌∙◌, arith, rules, tests}
use Rattle.std.specs.List.{slice_split}
use Rattle.std.specs.Iterator.{Yields}
use Rattle.std.proofs.lemmas.Iterator.{YieldsList}
use Rattle.std.proofs.lemmas.Iterator.Consumers.{YieldsList-at, YieldsList-turn, YieldsList-end}
use Rattle.std.proofs.lemmas.Iterator.Splits.{YieldsList-from_slice_split}
use Rattle.std.proofs.lemmas.List.{at_drop_more, at_drop_all, length_push}
use Rattle.list.specs.declared.NumberList.{NumberList}
use Rattle.notation.specs.Lists.{with_numeral}
use Rattle.notation.proofs.lists.read_numbers.Goals as goal

-- `YieldsList-turn` and `YieldsList-end`, with the chain as their last argument
turn : {S A B : Type 0} {steps : S → Option A → S → Type 0} {v : A → B} {s : S} {all : List B} (xs : List A) (t : S) → Yields steps s xs t → (r : Option A) (u : S) (x : A) → r ≡ Some x → steps t r u → YieldsList steps v s all → (length xs < length all) × (v x ≡ get_or all (length xs) (v x))
turn xs t y r u x i h e = YieldsList-turn e xs t y r u x i h

ended : {S A B : Type 0} {steps : S → Option A → S → Type 0} {v : A → B} {s : S} {all : List B} (xs : List A) (t : S) → Yields steps s xs t → (r : Option A) (u : S) → r ≡ None → steps t r u → YieldsList steps v s all → length xs ≡ length all
ended xs t y r u i h e = (YieldsList-end e xs t y r u i h).1

-- one word more
taken : (words : List (List ℕ)) (k : ℕ) (w : List ℕ) (x : NumberList) (o : Option NumberList) → (k < length words) × (w ≡ get_or words k w) → o ≡ with_numeral (Some x) w → fold with_numeral (Some x) (drop k words) ≡ fold with_numeral o (drop (k + 1) words)
taken words k w x o h e =
    at_drop_more (fold with_numeral (Some x)) words k w h.0
    ∙ ap (λ v. fold with_numeral (with_numeral (Some x) v) (drop (k + 1) words)) (sym h.1)
    ∙ ap (λ p. fold with_numeral p (drop (k + 1) words)) (sym e)

-- after a word that gives no list none comes
refused : (words : List (List ℕ)) → fold with_numeral None words ≡ None
refused [] = refl
refused (w ∷ words) = refused words

pub returns-in_err-list : goal.returns-in_err-list
returns-in_err-list c =
    let words = slice_split (λ b. eqb b 44) c.args.bytes.now in
    let t = turn c.loop-word.yielded _ c.loop-word.yielded_by _ _ c.in-Some.word c.in-Some.is c.next.ensures.steps (YieldsList-at c.into_iter-word-iterator.ensures.into_iter_gives (YieldsList-from_slice_split _ (λ b. eqb b 44) c.args.bytes.now c.split-word-items.ensures.rest c.split-word-items.ensures.done c.split-word-items.ensures.closure (λ x b q k. search (rules, tests)))) in
    let none : c.append_numeral.result ≡ None = search rules in
    let answer : c.from_residual.result ≡ None = search rules in
    answer ∙ sym (refused (drop (length c.loop-word.yielded + 1) words)) ∙ sym (taken words (length c.loop-word.yielded) c.in-Some.word.now c.loop-word.list None t (sym none ∙ c.append_numeral.ensures)) ∙ c.loop-word.invariant.2

pub loop-word-preserved : goal.loop-word-preserved
loop-word-preserved c =
    let words = slice_split (λ b. eqb b 44) c.args.bytes.now in
    let t = turn c.loop-word.yielded _ c.loop-word.yielded_by _ _ c.in-Some.word c.in-Some.is c.next.ensures.steps (YieldsList-at c.into_iter-word-iterator.ensures.into_iter_gives (YieldsList-from_slice_split _ (λ b. eqb b 44) c.args.bytes.now c.split-word-items.ensures.rest c.split-word-items.ensures.done c.split-word-items.ensures.closure (λ x b q k. search (rules, tests)))) in
    let some : c.append_numeral.result ≡ Some c.in_ok-list.list = search rules in
    let one = taken words (length c.loop-word.yielded) c.in-Some.word.now c.loop-word.list (Some c.in_ok-list.list) t (sym some ∙ c.append_numeral.ensures) in
    let n = length_push c.loop-word.yielded c.in-Some.word in
    (search rules, search rules, ap (λ k. fold with_numeral (Some c.in_ok-list.list) (drop k words)) n ∙ sym one ∙ c.loop-word.invariant.2)

pub returns : goal.returns
returns c =
    let words = slice_split (λ b. eqb b 44) c.args.bytes.now in
    let t = ended c.loop-word.yielded _ c.loop-word.yielded_by _ _ c.in-None.is c.next.ensures.steps (YieldsList-at c.into_iter-word-iterator.ensures.into_iter_gives (YieldsList-from_slice_split _ (λ b. eqb b 44) c.args.bytes.now c.split-word-items.ensures.rest c.split-word-items.ensures.done c.split-word-items.ensures.closure (λ x b q k. search (rules, tests)))) in
    sym (at_drop_all (fold with_numeral (Some c.loop-word.list)) words (length c.loop-word.yielded) (omega (arith, t))) ∙ c.loop-word.invariant.2
