use Rattle.std.proofs.Common.{◌≡◌, ℕ, ◌-◌, ◌≤◌, min, List, length, take, arith, rules}
use Rattle.std.proofs.lemmas.List.{places, same_lists, length-take}
use Rattle.commands.proofs.position.bytes_before.Goals as goal

clipped : (xs : List ℕ) (n e : ℕ) → e ≡ min n (length xs) → take (e - 0) xs ≡ take n xs
clipped xs n e h = same_lists _ _ (search (rules, places)) (λ i d l. grind (arith, places))

few : (xs : List ℕ) (n m e : ℕ) → e ≡ min n (length xs) → n ≡ min m 65535 → length (take (e - 0) xs) ≤ 65535
few xs n m e h k = let long = length-take (e - 0) xs in omega arith

pub returns : goal.returns
returns c = record {
  is = clipped c.args.text.now _ c.min-end.result (search rules);
  few = few c.args.text.now c.min.result c.args.place c.min-end.result c.min-end.ensures c.min.ensures;
}
