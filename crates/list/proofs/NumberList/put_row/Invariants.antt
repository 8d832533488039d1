use Rattle.std.proofs.Common.{◌≡◌, drop, ℤ, fold, Option}
use Rattle.list.specs.Insertion.{put_in}
use Rattle.list.specs.Numbers.{row}
use Rattle.domain.specs.Computed.{Computes}
use Rattle.list.proofs.NumberList.put_row.Given as goal

abbrev pub invariant-loop-b : goal.invariant-loop-b
invariant-loop-b g l = (op : ℤ → ℤ → Option ℤ) → Computes g.F.Fn op l.operation → fold put_in l.set (row op l.a (drop l.b-index l.numbers)) ≡ fold put_in l.initial.set (row op l.a l.numbers)
