-- What the laws alone give of the join of one-number spans.
use Rattle.std.proofs.Common.{◌≡◌, true, List, [], ◌∷◌, ℤ, pos, fold, refl}
use lib.Signed.{≤ℤ_refl, lt_z_yes}
use Rattle.std.specs.List.{AllByRecursion}
use Rattle.numbers.specs.Int.{is_int}
use Rattle.domain.specs.Domain.{Ops, Lawful, holds, joined_spans, HoldsEach, LeastOver}

module _ {S : Type 0} (o : Ops S) (l : Lawful o) where
  -- a set joined with the one-number span of n
  abbrev with-span : S → ℤ → S
  with-span s n = o.join s (o.span n n)

  -- the numbers are INTs
  abbrev pub All-ints : List ℤ → Type 0
  All-ints ns = AllByRecursion (λ n. is_int n ≡ true) ns

  grows : (s : S) (ns : List ℤ) → o.within s (fold with-span s ns) ≡ true
  grows s [] = l.within_refl s
  grows s (n ∷ ns) = l.within_trans _ _ _ (l.join_left s (o.span n n)) (grows (with-span s n) ns)

  one : (s : S) (n : ℤ) → is_int n ≡ true → o.within (o.span n n) s ≡ true → holds o s n ≡ true
  one s n i w = l.within_holds _ _ n w (l.span_holds n n n i i (≤ℤ_refl n) (≤ℤ_refl n))

  each : (s : S) (ns : List ℤ) → All-ints ns → HoldsEach o (fold with-span s ns) ns
  each s [] i = tt
  each s (n ∷ ns) i =
      (one _ n i.0 (l.within_trans _ _ _ (l.join_right s (o.span n n)) (grows (with-span s n) ns)), each (with-span s n) ns i.1)

  least : (s : S) (ns : List ℤ) (t : S) → o.within s t ≡ true → AllByRecursion (λ n. o.within (o.span n n) t ≡ true) ns → o.within (fold with-span s ns) t ≡ true
  least s [] t w a = w
  least s (n ∷ ns) t w a = least (with-span s n) ns t (l.join_least s (o.span n n) t w a.0) a.1

  pub spans-hold-each : (ns : List ℤ) → All-ints ns → HoldsEach o (joined_spans o ns) ns
  spans-hold-each ns i = each (o.span (pos 1) (pos 0)) ns i

  pub spans-are-least : (ns : List ℤ) → LeastOver o (joined_spans o ns) ns
  spans-are-least ns t a = least (o.span (pos 1) (pos 0)) ns t (l.empty_span_within (pos 1) (pos 0) t refl refl (lt_z_yes tt)) a
