-- A start that is not refused gives the inputs values inside their ranges, and leaves the others.
use Rattle.std.proofs.Common.{◌≡◌, ℕ, zero, suc, ◌+◌, ◌<◌, ◌≤◌, Bool as Truth, true, false, cond, not, ◌&&◌, List, [], ◌∷◌, length, get_or, replicate, ℤ, pos, ◌≤ℤ◌, Some, None, Option, sym, refl, ap, subst, arith}
use lib.Signed.{le_z}
use Rattle.std.proofs.lemmas.Int.{ints}
use Rattle.std.proofs.lemmas.Bool.{cond_both, and_parts, true≢false}
use Rattle.std.proofs.lemmas.Bool.Decides.{nat_tests}
use Rattle.numbers.specs.Int.{is_int}
use Rattle.numbers.proofs.Comparisons.{int-between}
use Rattle.syntax.specs.declared.record.Class.{Class}
use Rattle.syntax.specs.declared.record.Class.TheVariants.{Local, Input, Output}
use Rattle.syntax.specs.declared.record.Constant.{Constant}
use Rattle.syntax.specs.declared.record.Constant.TheVariants as constant
use Rattle.syntax.specs.declared.record.Variable.{Variable}
use Rattle.reading.specs.Formed.{is_proper, in_order, Ordered}
use Rattle.cells.specs.declared.value.Value.{Value}
use Rattle.cells.specs.declared.value.Value.TheVariants.{Unset, Int}
use Rattle.cells.specs.Values.{is_sized}
use Rattle.transfer.specs.Soundness.{GivenBy, StartedAt, Started, initial_values}
use Rattle.transfer.proofs.Covering.{proper-sized}
use Rattle.controller.specs.Lists.{is_input, one, takes, value_for, refuses, first_bad, entered, given, begun}
use Rattle.soundness.proofs.Sizes.{AllSized}

pub none-bad : (b : Truth) (k : ℕ) (rest : Option ℕ) → cond b (Some k) rest ≡ None → (b ≡ false) × (rest ≡ None)
none-bad true k rest e = absurd cc
none-bad false k rest e = (refl, e)

le-told : (a b : ℤ) → le_z a b ≡ true → a ≤ℤ b
le-told a b e = grind (arith, ints, nat_tests)

range-ints : (v : Variable) → in_order v ≡ true → (is_int v.range.low ≡ true) × (is_int v.range.high ≡ true)
range-ints v e =
    let a = (and_parts (le_z v.range.low v.range.high) _ e).1 in
    let b = and_parts (is_int v.range.low) _ a in
    (b.0, (and_parts (is_int v.range.high) (is_proper v.declaration.initial) b.1).0)

initial-proper : (v : Variable) → in_order v ≡ true → is_proper v.declaration.initial ≡ true
initial-proper v e =
    let a = (and_parts (le_z v.range.low v.range.high) _ e).1 in
    (and_parts (is_int v.range.high) (is_proper v.declaration.initial) (and_parts (is_int v.range.low) _ a).1).1

taken : (k : Constant) (v : Variable) (x : ℤ) → in_order v ≡ true → takes k v x ≡ true → GivenBy k v (value_for k x)
taken (constant.Bool b) v x i t = tt
taken (constant.Int n) v x i t =
    let r = range-ints v i in
    let a = and_parts (le_z v.range.low x) (le_z x v.range.high) t in
    let l = le-told v.range.low x a.0 in
    let h = le-told x v.range.high a.1 in
    subst (λ b. GivenBy (constant.Int n) v (cond b (Int x) Unset)) (sym (int-between v.range.low v.range.high x r.0 r.1 l h)) (l, h)

not-not : (b : Truth) → not b ≡ false → b ≡ true
not-not true e = refl
not-not false e = absurd (true≢false e)

entered-as : (class : Class) (v : Variable) (x : ℤ) (w : Value) → in_order v ≡ true → (is_input class && not (takes v.declaration.initial v x)) ≡ false → StartedAt class v w (cond (is_input class) (value_for v.declaration.initial x) w)
entered-as Local v x w i e = refl
entered-as Input v x w i e = taken v.declaration.initial v x i (not-not (takes v.declaration.initial v x) e)
entered-as Output v x w i e = refl

pub given-started : (xs : List ℤ) (k : ℕ) (vars : List Variable) (ws : List Value) → Ordered vars → length vars ≤ length ws → first_bad xs k vars ≡ None → Started vars ws (given xs k vars ws)
given-started xs k [] ws o l e j h = absurd (omega arith)
given-started xs k (v ∷ vars) [] o l e j h = absurd (omega arith)
given-started xs k (v ∷ vars) (w ∷ ws) o l e zero h = entered-as v.declaration.class v (get_or xs k (pos 0)) w (o 0 h) (none-bad (refuses v (get_or xs k (pos 0))) k _ e).0
given-started xs k (v ∷ vars) (w ∷ ws) o l e (suc j) h = given-started xs (k + one (is_input v.declaration.class)) vars ws (λ i m. o (suc i) (omega arith)) (omega arith) (none-bad (refuses v (get_or xs k (pos 0))) k _ e).1 j (omega arith)

pub given-length : (xs : List ℤ) (k : ℕ) (vars : List Variable) (ws : List Value) → length (given xs k vars ws) ≡ length ws
given-length xs k [] ws = refl
given-length xs k (v ∷ vars) [] = refl
given-length xs k (v ∷ vars) (w ∷ ws) = ap suc (given-length xs (k + one (is_input v.declaration.class)) vars ws)

for-sized : (k : Constant) (x : ℤ) → is_sized (value_for k x) ≡ true
for-sized (constant.Bool b) x = refl
for-sized (constant.Int n) x = cond_both (is_int x) (Int x) Unset (λ v. is_sized v ≡ true) (λ e. e) (λ e. refl)

entered-sized : (v : Variable) (x : ℤ) (w : Value) → is_sized w ≡ true → is_sized (entered v x w) ≡ true
entered-sized v x w e = cond_both (is_input v.declaration.class) (value_for v.declaration.initial x) w (λ y. is_sized y ≡ true) (λ q. for-sized v.declaration.initial x) (λ q. e)

pub given-sized : (xs : List ℤ) (k : ℕ) (vars : List Variable) (ws : List Value) → AllSized ws → AllSized (given xs k vars ws)
given-sized xs k [] ws f j = f j
given-sized xs k (v ∷ vars) [] f j = f j
given-sized xs k (v ∷ vars) (w ∷ ws) f zero = entered-sized v (get_or xs k (pos 0)) w (f 0)
given-sized xs k (v ∷ vars) (w ∷ ws) f (suc j) = given-sized xs (k + one (is_input v.declaration.class)) vars ws (λ i. f (suc i)) j

-- the values of a new controller
pub begun-at : (vars : List Variable) (ws : List Value) → length vars ≤ length ws → (j : ℕ) → j < length vars → get_or (begun vars ws) j Unset ≡ get_or (initial_values vars) j Unset
begun-at [] ws l j h = absurd (omega arith)
begun-at (v ∷ vars) [] l j h = absurd (omega arith)
begun-at (v ∷ vars) (w ∷ ws) l zero h = refl
begun-at (v ∷ vars) (w ∷ ws) l (suc j) h = begun-at vars ws (omega arith) j (omega arith)

pub begun-length : (vars : List Variable) (ws : List Value) → length (begun vars ws) ≡ length ws
begun-length [] ws = refl
begun-length (v ∷ vars) [] = refl
begun-length (v ∷ vars) (w ∷ ws) = ap suc (begun-length vars ws)

pub begun_sized : (vars : List Variable) (ws : List Value) → Ordered vars → AllSized ws → AllSized (begun vars ws)
begun_sized [] ws o f j = f j
begun_sized (v ∷ vars) [] o f j = f j
begun_sized (v ∷ vars) (w ∷ ws) o f zero = proper-sized v.declaration.initial (initial-proper v (o 0 (omega arith)))
begun_sized (v ∷ vars) (w ∷ ws) o f (suc j) = begun_sized vars ws (λ i m. o (suc i) (omega arith)) (λ i. f (suc i)) j

pub unset-sized : (n : ℕ) → AllSized (replicate n Unset)
unset-sized zero j = refl
unset-sized (suc n) zero = refl
unset-sized (suc n) (suc j) = unset-sized n j
