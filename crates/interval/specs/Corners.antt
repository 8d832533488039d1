-- Results of the ends, for ends that are in order.
use Rattle.std.specs.Prelude.{◌≡◌, ℤ, ◌≤ℤ◌, FitsSigned}
use Rattle.std.proofs.Common.{sym, ◌∙◌}
use Rattle.std.specs.Int.{w16}
use Rattle.std.proofs.lemmas.Bool.{and_from, cond-true}
use Rattle.numbers.proofs.Comparisons.{le_test}
use Rattle.numbers.proofs.Widening.{wide, passed, Fit, passed_is}
use Rattle.interval.specs.Ends.{least_to_greatest, results, from_to}
use Rattle.interval.specs.declared.ends.Ends.{Ends}

-- where both sides are in order, the results are those of the ends
pub results-ordered : (op : ℤ → ℤ → ℤ) (x y : Ends) → x.low ≤ℤ x.high → y.low ≤ℤ y.high → results op x y ≡ least_to_greatest (op x.low y.low) (op x.low y.high) (op x.high y.low) (op x.high y.high)
results-ordered op x y h k = cond-true _ _ _ (and_from _ _ (le_test _ _ h) (le_test _ _ k))

-- the results of ends in order, as the code passes them on, spread over the results
pub spread-is : (op : ℤ → ℤ → ℤ) → Fit op → (a b c d : ℤ) {e : Ends} → FitsSigned w16 a → FitsSigned w16 b → FitsSigned w16 c → FitsSigned w16 d → a ≤ℤ b → c ≤ℤ d → e ≡ least_to_greatest (passed (op (wide a) (wide c))) (passed (op (wide a) (wide d))) (passed (op (wide b) (wide c))) (passed (op (wide b) (wide d))) → e ≡ results op (from_to a b) (from_to c d)
spread-is op fit a b c d i j k l h m is =
    let ac = passed_is op fit a c i k in
    let ad = passed_is op fit a d i l in
    let bc = passed_is op fit b c j k in
    let bd = passed_is op fit b d j l in
    let same : least_to_greatest (passed (op (wide a) (wide c))) (passed (op (wide a) (wide d))) (passed (op (wide b) (wide c))) (passed (op (wide b) (wide d))) ≡ least_to_greatest (op a c) (op a d) (op b c) (op b d) = simp (ac, ad, bc, bd) in
    is ∙ same ∙ sym (results-ordered op (from_to a b) (from_to c d) h m)
