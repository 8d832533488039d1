use Rattle.std.proofs.Common.{w32, SFits, rules}
use Rattle.std.proofs.lemmas.Int.{to_z-of_z}
use Rattle.interval.proofs.ends.spread.Goals as goal

pub returns : goal.returns
returns c =
    let p : SFits w32 c.args.p = search rules in
    let q : SFits w32 c.args.q = search rules in
    let r : SFits w32 c.args.r = search rules in
    let s : SFits w32 c.args.s = search rules in
    let a : SFits w32 c.min.result = search rules in
    let b : SFits w32 c.min-2.result = search rules in
    let d : SFits w32 c.min-3.result = search rules in
    let e : SFits w32 c.max.result = search rules in
    let f : SFits w32 c.max-2.result = search rules in
    let g : SFits w32 c.max-3.result = search rules in
    let m = simp to_z-of_z at c.min.ensures in
    let n = simp to_z-of_z at c.min-2.ensures in
    let o = simp to_z-of_z at c.min-3.ensures in
    let x = simp to_z-of_z at c.max.ensures in
    let y = simp to_z-of_z at c.max-2.ensures in
    let z = simp to_z-of_z at c.max-3.ensures in
    simp to_z-of_z (cc)
