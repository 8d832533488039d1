-- A number put in at its place, in lists of any length.
use Rattle.std.proofs.Common.{◌≡◌, ℕ, ◌+◌, ◌-◌, ◌≤◌, List, [], ◌∷◌, ◌++◌, length, get_or, take, drop, set, ℤ, ap, ◌∙◌, arith}
use lib.Seq.{paste}
use Rattle.std.proofs.lemmas.List.{set_at, drop_all, take_more, append-nil, append_assoc, length-take-le}

-- what a copy by one place and a write leave
pub shift_in : (xs : List ℤ) (k p : ℕ) (n : ℤ) → p ≤ k → length xs ≡ k + 1 → set (paste xs (p + 1) (drop p xs) (k - p)) p n ≡ take p xs ++ (n ∷ take (k - p) (drop p xs))
shift_in xs k p n h l =
    let moved = take (k - p) (drop p xs) in
    let none : drop (p + 1 + (k - p)) xs ≡ [] = drop_all _ xs (omega arith) in
    let front : take (p + 1) xs ≡ take p xs ++ (get_or xs p n ∷ []) = take_more xs p n (omega arith) in
    let whole : paste xs (p + 1) (drop p xs) (k - p) ≡ take p xs ++ (get_or xs p n ∷ moved) =
    ap (λ (d : List ℤ). (take (p + 1) xs ++ moved) ++ d) none ∙ append-nil (take (p + 1) xs ++ moved) ∙ ap (λ (f : List ℤ). f ++ moved) front ∙ append_assoc (take p xs) (get_or xs p n ∷ []) moved in
    ap (λ (ys : List ℤ). set ys p n) whole ∙ set_at (take p xs) (get_or xs p n) moved n p (length-take-le p xs (omega arith))
