use Rattle.std.proofs.Common.{◌≡◌, drop, ℤ, fold, Option}
use Rattle.list.specs.Insertion.{put_in}
use Rattle.list.specs.Numbers.{pairs}
use Rattle.domain.specs.Computed.{Computes}
use Rattle.list.proofs.NumberList.put_pairs.Given as goal

abbrev pub invariant-loop-a : goal.invariant-loop-a
invariant-loop-a g l = (op : ℤ → ℤ → Option ℤ) → Computes g.F.Fn op l.operation → fold put_in l.set (pairs op (drop l.a-index l.xs) l.ys) ≡ fold put_in l.initial.set (pairs op l.xs l.ys)
