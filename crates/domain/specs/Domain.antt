-- A numeric domain: sets of INTs behind one interface, what its functions mean, and the laws that they keep.
use Rattle.std.specs.Prelude.{◌≡◌, Bool, true, false, ◌&&◌, List, ℤ, pos, ◌+ℤ◌, ◌-ℤ◌, ◌*ℤ◌, ◌≤ℤ◌, ◌<ℤ◌, fold, ◌≢◌, int_div, int_lt}
use Rattle.std.specs.List.{AllByRecursion}
use Rattle.numbers.specs.Arithmetic.{eq_z}
use Rattle.numbers.specs.Int.{is_int}
use Rattle.domain.specs.declared.Truth.{Truth}

-- the functions of a domain, over its sets S
pub record Ops (S : Type 0) : Type 0 where
  pub span : ℤ → ℤ → S
  pub contains : S → ℤ → Bool
  pub within : S → S → Bool
  pub is_empty : S → Bool
  pub add : S → S → S
  pub sub : S → S → S
  pub mul : S → S → S
  pub div : S → S → S
  pub add_overflows : S → S → Bool
  pub sub_overflows : S → S → Bool
  pub mul_overflows : S → S → Bool
  pub less : S → S → Truth
  pub equal : S → S → Truth
  pub join : S → S → S
  pub widen : S → S → S

-- the flag of a truth value
abbrev pub allows : Truth → Bool → Bool
allows t true = t.can_be_true
allows t false = t.can_be_false

module _ {S : Type 0} (o : Ops S) where
  -- the meaning of a set: the INTs that it holds, those for which `contains` says yes
  abbrev pub holds : S → ℤ → Bool
  holds s n = is_int n && o.contains s n

  -- sets that hold every result inside INT of one number from each side
  abbrev pub HoldsResults : (S → S → S) → (ℤ → ℤ → ℤ) → Type 0
  HoldsResults f op = (s t : S) (a b : ℤ) → holds s a ≡ true → holds t b ≡ true → is_int (op a b) ≡ true → holds (f s t) (op a b) ≡ true

  -- a question that says no only if no pair of numbers, one from each side, has its result outside INT
  abbrev pub AsksOverflow : (S → S → Bool) → (ℤ → ℤ → ℤ) → Type 0
  AsksOverflow asks op = (s t : S) (a b : ℤ) → holds s a ≡ true → holds t b ≡ true → is_int (op a b) ≡ false → asks s t ≡ true

  -- flags of which one is off only if no pair of numbers, one from each side, gives that truth
  abbrev pub FlagsTruth : (S → S → Truth) → (ℤ → ℤ → Bool) → Type 0
  FlagsTruth flags test = (s t : S) (a b : ℤ) → holds s a ≡ true → holds t b ≡ true → allows (flags s t) (test a b) ≡ true

  -- the join of the one-number spans of a list of numbers, begun from the empty span
  abbrev pub joined_spans : List ℤ → S
  joined_spans ns = fold (λ s n. o.join s (o.span n n)) (o.span (pos 1) (pos 0)) ns

  -- a set holds each of the numbers
  abbrev pub HoldsEach : S → List ℤ → Type 0
  HoldsEach s ns = AllByRecursion (λ n. holds s n ≡ true) ns

  -- a set is within every set that the one-number spans of the numbers are all within
  abbrev pub LeastOver : S → List ℤ → Type 0
  LeastOver s ns = (t : S) → AllByRecursion (λ n. o.within (o.span n n) t ≡ true) ns → o.within s t ≡ true

-- what the functions mean, and the laws that they keep: all that a domain owes
pub record Lawful {S : Type 0} (o : Ops S) : Type 0 where
  -- the span from a to b holds every number from a to b
  pub span_holds : (a b n : ℤ) → is_int a ≡ true → is_int b ≡ true → a ≤ℤ n → n ≤ℤ b → holds o (o.span a b) n ≡ true
  -- and none if a is above b
  pub span_holds_none : (a b n : ℤ) → is_int a ≡ true → is_int b ≡ true → b <ℤ a → holds o (o.span a b) n ≡ false
  -- `within` says yes only if the second holds all that the first holds
  pub within_holds : (s t : S) (n : ℤ) → o.within s t ≡ true → holds o s n ≡ true → holds o t n ≡ true
  -- `is_empty` says yes only if nothing is held
  pub empty_holds : (s : S) (n : ℤ) → o.is_empty s ≡ true → holds o s n ≡ false
  -- sum, difference and product hold every result inside INT of one number from each side
  pub add_holds : HoldsResults o o.add ◌+ℤ◌
  pub sub_holds : HoldsResults o o.sub ◌-ℤ◌
  pub mul_holds : HoldsResults o o.mul ◌*ℤ◌
  -- so does the quotient, which drops its fraction; a divisor 0 gives no result
  pub div_holds : (s t : S) (a b : ℤ) → holds o s a ≡ true → holds o t b ≡ true → (b ≢ pos 0) → is_int (int_div a b) ≡ true → holds o (o.div s t) (int_div a b) ≡ true
  -- the overflow question says no only if no such pair leaves INT
  pub add_asks : AsksOverflow o o.add_overflows ◌+ℤ◌
  pub sub_asks : AsksOverflow o o.sub_overflows ◌-ℤ◌
  pub mul_asks : AsksOverflow o o.mul_overflows ◌*ℤ◌
  -- a flag of less-than or equality is off only if no pair gives that truth
  pub less_flags : FlagsTruth o o.less int_lt
  pub equal_flags : FlagsTruth o o.equal eq_z
  -- an empty span is empty, and within every set
  pub empty_span : (a b : ℤ) → is_int a ≡ true → is_int b ≡ true → b <ℤ a → o.is_empty (o.span a b) ≡ true
  pub empty_span_within : (a b : ℤ) (s : S) → is_int a ≡ true → is_int b ≡ true → b <ℤ a → o.within (o.span a b) s ≡ true
  -- `within` is reflexive and transitive
  pub within_refl : (s : S) → o.within s s ≡ true
  pub within_trans : (s t u : S) → o.within s t ≡ true → o.within t u ≡ true → o.within s u ≡ true
  -- each side is within the join
  pub join_left : (s t : S) → o.within s (o.join s t) ≡ true
  pub join_right : (s t : S) → o.within t (o.join s t) ≡ true
  -- the join is within every set that both sides are within
  pub join_least : (s t u : S) → o.within s u ≡ true → o.within t u ≡ true → o.within (o.join s t) u ≡ true
  -- the join is within its widening
  pub join_widen : (s t : S) → o.within (o.join s t) (o.widen s (o.join s t)) ≡ true
  -- what is within an empty set is empty
  pub within_empty : (s t : S) → o.within s t ≡ true → o.is_empty t ≡ true → o.is_empty s ≡ true
