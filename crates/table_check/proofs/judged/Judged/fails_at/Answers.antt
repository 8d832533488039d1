use Rattle.std.proofs.Common.{ℕ, ◌≡◌, ◌*◌, ap, arith}
use Rattle.std.proofs.lemmas.Nat.{mul-le}
use Rattle.transfer.specs.Rows.{width}
use Rattle.table_check.proofs.judged.Judged.fails_at.Goals as goal

pub first_outside-requires : goal.first_outside-requires
first_outside-requires g c =
    let w = width c.args.self.now.variables.now in
    let at : c.args.to * c.width.result ≡ c.args.to * w = ap (λ (n : ℕ). c.args.to * n) c.width.ensures in
    record {
      wide = c.requires.wide;
      near = omega (arith, mul-le c.args.to w 1024 65 c.requires.near (omega arith));
    }
