use Rattle.std.proofs.Common.{◌≡◌, zero, suc, ◌-◌, Bool, true, false, ℤ, pos, negsuc, ◌+ℤ◌, ◌<ℤ◌, fold, sym, ap, ◌∙◌, subst, arith, w16, SFits, of_z, rules}
use lib.IntN.{+ℤ_one}
use lib.Signed.{lt_z}
use Rattle.std.proofs.lemmas.Int.{ints, to_z-of_z}
use Rattle.std.proofs.lemmas.Bool.Decides.{nat_tests}
use Rattle.list.specs.Insertion.{put_in}
use Rattle.list.specs.Numbers.{counted}
use Rattle.list.specs.Loops.{passed, same_bits, counted_none, counted-more, counted-last}
use Rattle.list.proofs.+count_up.Goals as goal
use Rattle.list.proofs.+count_up.Goals.{then-places-eq0-via-then-places-eq0, then-places-eq0-via-else-places-eq0+then-low-high}

-- a test of two numbers, as the code passes them
read : (a b : ℤ) (t : Bool) → SFits w16 a → SFits w16 b → lt_z (passed b) (passed a) ≡ t → lt_z b a ≡ t
read a b t f g e = ap (λ z. lt_z z a) (sym (to_z-of_z w16 b g)) ∙ ap (lt_z (passed b)) (sym (to_z-of_z w16 a f)) ∙ e

-- a number below another has a next one
next-is : (a b : ℤ) → SFits w16 a → SFits w16 b → lt_z b a ≡ false → (of_z w16 a ≡ of_z w16 b → ⊥) → passed (passed a +ℤ pos 1) ≡ a +ℤ pos 1
next-is a b f g h ne = ap (λ z. passed (z +ℤ pos 1)) (to_z-of_z w16 a f) ∙ to_z-of_z w16 (a +ℤ pos 1) (fit a b f g (strictly a b h (λ e. ne (ap (of_z w16) e))))
  where
    strictly : (a b : ℤ) → lt_z b a ≡ false → (a ≡ b → ⊥) → a <ℤ b
    strictly a b h ne = grind (arith, ints, nat_tests)

    fit : (a b : ℤ) → SFits w16 a → SFits w16 b → a <ℤ b → SFits w16 (a +ℤ pos 1)
    fit (pos a) (pos b) f g l = record { sfits = omega (arith, ints, g.sfits) }
    fit (pos a) (negsuc b) f g l = absurd (omega (arith, ints))
    fit (negsuc zero) b f g l = record { sfits = omega arith }
    fit (negsuc (suc a)) b f g l = subst (SFits w16) (sym (+ℤ_one (negsuc (suc a)))) record { sfits = omega (arith, f.sfits) }

pub returns-then-places-eq0 : goal.returns-then-places-eq0
returns-then-places-eq0 t c =
    let low : SFits w16 c.args.low = search rules in
    let high : SFits w16 c.args.high = search rules in
    let into = fold put_in c.args.set in
    elim c.then-places-eq0.branch [
      | then-places-eq0-via-then-places-eq0 w ↦ ap (λ k. into (counted k c.args.low c.args.high)) (sym w.if-places-eq0.true)
      | then-places-eq0-via-else-places-eq0+then-low-high w ↦ ap into (sym (counted_none c.args.places c.args.low c.args.high (read _ _ true low high w.if-low-high.true)))
    ]

pub returns-then-low-high-2 : goal.returns-then-low-high-2
returns-then-low-high-2 t c =
    let low : SFits w16 c.args.low = search rules in
    let high : SFits w16 c.args.high = search rules in
    let same : c.args.low ≡ c.args.high = same_bits c.args.low c.args.high low c.if-low-high-2.true ∙ to_z-of_z w16 _ high in
    c.put-set.ensures ∙ ap (put_in c.args.set) (to_z-of_z w16 _ low) ∙ ap (fold put_in c.args.set) (sym (counted-last c.args.places _ _ c.if-places-eq0.false same))

pub returns : goal.returns
returns t c =
    let a = c.args.low in
    let b = c.args.high in
    let k = c.args.places in
    let low : SFits w16 a = search rules in
    let high : SFits w16 b = search rules in
    let put : c.put-set.result ≡ put_in c.args.set a = c.put-set.ensures ∙ ap (put_in c.args.set) (to_z-of_z w16 _ low) in
    let next : passed (passed a +ℤ pos 1) ≡ a +ℤ pos 1 = next-is a b low high (read a b false low high c.if-low-high.false) c.if-low-high-2.false in
    c.count_up.ensures
    ∙ ap (λ s. fold put_in s (counted (k - 1) (passed (passed a +ℤ pos 1)) (passed b))) put
    ∙ ap (λ z. fold put_in (put_in c.args.set a) (counted (k - 1) z (passed b))) next
    ∙ ap (λ z. fold put_in (put_in c.args.set a) (counted (k - 1) (a +ℤ pos 1) z)) (to_z-of_z w16 _ high)
    ∙ ap (fold put_in c.args.set) (sym (counted-more k a b c.if-places-eq0.false (read _ _ false low high c.if-low-high.false)))
