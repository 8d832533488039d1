-- A search for a vacant cell: by its index, and among cells of which one is changed.
use Rattle.std.proofs.Common.{◌≡◌, ℕ, suc, ◌+◌, ◌<◌, Bool, ◌||◌, List, [], ◌∷◌, length, get_or, take, drop, set, sym, refl, ap, ◌∙◌, zero-add, add-zero, add-one, arith}
use Rattle.std.specs.List.{list_any, range_with_len}
use Rattle.std.proofs.lemmas.List.{set_split}
use Rattle.std.proofs.lemmas.List.Folds.{list_any-append}

module _ {X : Type 0} (p : X → Bool) (d : X) where
  from : (f : ℕ → Bool) (xs : List X) (a : ℕ) → ((i : ℕ) → i < length xs → f (a + i) ≡ p (get_or xs i d)) → list_any f (range_with_len a (length xs)) ≡ list_any p xs
  from f [] a h = refl
  from f (x ∷ xs) a h =
      let here : f a ≡ p x = ap f (sym (add-zero a)) ∙ h 0 (omega arith) in
      let rest : list_any f (range_with_len (a + 1) (length xs)) ≡ list_any p xs = from f xs (a + 1) (λ i l. ap f (omega arith) ∙ h (suc i) (omega arith)) in
      ap (λ b. b || list_any f (range_with_len (a + 1) (length xs))) here ∙ ap (λ b. p x || b) rest

  -- a test of the item at each index is one of each item
  pub any-by_index : (xs : List X) (n : ℕ) → n ≡ length xs → list_any (λ i. p (get_or xs i d)) (range_with_len 0 n) ≡ list_any p xs
  any-by_index xs n e =
      ap (λ k. list_any (λ i. p (get_or xs i d)) (range_with_len 0 k)) e ∙ from (λ i. p (get_or xs i d)) xs 0 (λ i l. ap (λ k. p (get_or xs k d)) (zero-add i))

module _ {X : Type 0} (p : X → Bool) where
  -- where one item is changed, the test is one of those before it, of the new one, and of those behind
  pub any-changed : (xs : List X) (i : ℕ) (x : X) → i < length xs → list_any p (set xs i x) ≡ (list_any p (take i xs) || (p x || list_any p (drop (i + 1) xs)))
  any-changed xs i x h =
      ap (list_any p) (set_split xs i x h)
      ∙ list_any-append p (take i xs) (x ∷ drop (suc i) xs)
      ∙ ap (λ (n : ℕ). list_any p (take i xs) || (p x || list_any p (drop n xs))) (sym (add-one i))
