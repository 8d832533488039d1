use Rattle.std.proofs.Common.{◌≡◌, ◌≤ℤ◌, sym, ◌∙◌, w16, w32, SFits, rules}
use Rattle.std.proofs.lemmas.Int.{to_z-of_z}
use Rattle.interval.specs.Ends.{least_to_greatest}
use Rattle.interval.specs.Corners.{results-ordered}
use Rattle.interval.specs.Interval.{ends}
use Rattle.interval.proofs.ends.results.Goals as goal

pub returns-then-y : goal.returns-then-y
returns-then-y g c op is =
    let x = c.args.x in
    let y = c.args.y in
    let a : SFits w16 x.low = search rules in
    let b : SFits w16 x.high = search rules in
    let d : SFits w16 y.low = search rules in
    let e : SFits w16 y.high = search rules in
    let ll : c.operation.result ≡ op x.low y.low = simp to_z-of_z at (is _ _ (search rules) (search rules) _ c.operation.ensures) in
    let lh : c.operation-then-y.result ≡ op x.low y.high = simp to_z-of_z at (is _ _ (search rules) (search rules) _ c.operation-then-y.ensures) in
    let hl : c.operation-then-y-2.result ≡ op x.high y.low = simp to_z-of_z at (is _ _ (search rules) (search rules) _ c.operation-then-y-2.ensures) in
    let hh : c.operation-then-y-3.result ≡ op x.high y.high = simp to_z-of_z at (is _ _ (search rules) (search rules) _ c.operation-then-y-3.ensures) in
    let p : SFits w32 c.operation.result = search rules in
    let q : SFits w32 c.operation-then-y.result = search rules in
    let r : SFits w32 c.operation-then-y-2.result = search rules in
    let s : SFits w32 c.operation-then-y-3.result = search rules in
    let four : c.spread.result ≡ least_to_greatest c.operation.result c.operation-then-y.result c.operation-then-y-2.result c.operation-then-y-3.result = simp to_z-of_z at c.spread.ensures in
    let same : least_to_greatest c.operation.result c.operation-then-y.result c.operation-then-y-2.result c.operation-then-y-3.result ≡ least_to_greatest (op x.low y.low) (op x.low y.high) (op x.high y.low) (op x.high y.high) = simp (ll, lh, hl, hh) in
    let ordered-x : x.low ≤ℤ x.high = search rules in
    let ordered-y : y.low ≤ℤ y.high = search rules in
    four ∙ same ∙ sym (results-ordered op (ends x) (ends y) ordered-x ordered-y)
