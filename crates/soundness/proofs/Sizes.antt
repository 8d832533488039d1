-- A statement keeps a place for each value, and every number inside INT.
use Rattle.std.proofs.Common.{◌≡◌, ℕ, zero, suc, true, false, List, [], ◌∷◌, length, get_or, set, ℤ, pos, ◌+ℤ◌, ◌-ℤ◌, ◌*ℤ◌, Ok, Err, Result, refl, length-set}
use lib.Signed.{quot_z}
use Rattle.std.proofs.lemmas.Bool.{cond_both}
use Rattle.numbers.specs.Int.{is_int}
use Rattle.numbers.specs.Arithmetic.{eq_z}
use Rattle.syntax.specs.declared.operator.Operator.{Operator}
use Rattle.syntax.specs.declared.operator.Operator.TheVariants.{Ld, Ldn, And, Andn, Or, Orn, Xor, Xorn, Add, Sub, Mul, Div, Gt, Ge, Lt, Le, Eq, Ne}
use Rattle.syntax.specs.declared.operator.Store.{Store}
use Rattle.syntax.specs.declared.operator.Store.TheVariants.{St, Stn, Set, Reset}
use Rattle.syntax.specs.declared.record.Operand.{Operand}
use Rattle.syntax.specs.declared.record.Operand.TheVariants.{Constant, Variable as variable}
use Rattle.syntax.specs.declared.record.Operation.{Operation}
use Rattle.syntax.specs.declared.record.Operation.TheVariants as operation
use Rattle.syntax.specs.declared.record.Statement.{Statement}
use Rattle.syntax.specs.declared.record.Variable.{Variable}
use Rattle.reading.specs.Formed.{names_only, operand_in}
use Rattle.cells.specs.declared.value.Value.{Value}
use Rattle.cells.specs.declared.value.Value.TheVariants.{Unset, Bool, Int}
use Rattle.cells.specs.Values.{sort_of, is_sized}
use Rattle.meaning.specs.declared.compute.Cause.{Cause}
use Rattle.meaning.specs.declared.compute.Cause.TheVariants.{Kind, ZeroDivisor, Overflow}
use Rattle.meaning.specs.declared.edge.Edge.{Edge}
use Rattle.meaning.specs.Meaning.{State, accepted, truth_of, number_of, opposite, sized, quotient, computed, operand_of, operand, stored, with_result, performed, perform}
use Rattle.transfer.specs.Soundness.{Sized}
use Rattle.transfer.proofs.Covering.{proper-sized}

-- a result, where there is one, is inside INT
abbrev SizedOk : Result Value Cause → Type 0
SizedOk (Ok v) = is_sized v ≡ true
SizedOk (Err c) = Unit {0}

sized-ok : (z : ℤ) → SizedOk (sized z)
sized-ok z = cond_both (is_int z) (Ok (Int z)) (Err Overflow) SizedOk (λ e. e) (λ e. tt)

quotient-ok : (a b : ℤ) → SizedOk (quotient a b)
quotient-ok a b = cond_both (eq_z b (pos 0)) (Err ZeroDivisor) (sized (quot_z a b)) SizedOk (λ e. tt) (λ e. sized-ok (quot_z a b))

computed-ok : (q : Operator) (a b : Value) → is_sized b ≡ true → SizedOk (computed q a b)
computed-ok Ld a b z = z
computed-ok Ldn a b z = refl
computed-ok And a b z = refl
computed-ok Andn a b z = refl
computed-ok Or a b z = refl
computed-ok Orn a b z = refl
computed-ok Xor a b z = refl
computed-ok Xorn a b z = refl
computed-ok Add a b z = sized-ok (number_of a +ℤ number_of b)
computed-ok Sub a b z = sized-ok (number_of a -ℤ number_of b)
computed-ok Mul a b z = sized-ok (number_of a *ℤ number_of b)
computed-ok Div a b z = quotient-ok (number_of a) (number_of b)
computed-ok Gt a b z = refl
computed-ok Ge a b z = refl
computed-ok Lt a b z = refl
computed-ok Le a b z = refl
computed-ok Eq a b z = refl
computed-ok Ne a b z = refl

-- values that are all inside INT
abbrev pub AllSized : List Value → Type 0
AllSized values = (j : ℕ) → is_sized (get_or values j Unset) ≡ true

set-sized : (values : List Value) (i : ℕ) (w : Value) → AllSized values → is_sized w ≡ true → AllSized (set values i w)
set-sized [] i w f e j = f j
set-sized (v ∷ vs) zero w f e zero = e
set-sized (v ∷ vs) zero w f e (suc j) = f (suc j)
set-sized (v ∷ vs) (suc i) w f e zero = f 0
set-sized (v ∷ vs) (suc i) w f e (suc j) = set-sized vs i w (λ k. f (suc k)) e j

operand-sized : (v : ℕ) (values : List Value) → AllSized values → (x : Operand) → operand_in v x ≡ true → is_sized (operand_of values x) ≡ true
operand-sized v values f (Constant k) n = proper-sized k n
operand-sized v values f (variable i) n = f i

-- so many values as before, and all inside INT
pub record KeptBy (n : ℕ) (values : List Value) : Type 0 where
  pub long : length values ≡ n
  pub sized : AllSized values

set-kept : (values : List Value) (i : ℕ) (w : Value) → AllSized values → is_sized w ≡ true → KeptBy (length values) (set values i w)
set-kept values i w f e = record { long = length-set values i w; sized = set-sized values i w f e }

stored-kept : (t : Store) (i : ℕ) (s : State) → Sized s → KeptBy (length s.values) (stored t i s)
stored-kept St i s z = set-kept s.values i s.cr z.values z.cr
stored-kept Stn i s z = set-kept s.values i (opposite s.cr) z.values refl
stored-kept Set i s z = cond_both (truth_of s.cr) (set s.values i (Bool true)) s.values (KeptBy (length s.values)) (λ e. set-kept s.values i (Bool true) z.values refl) (λ e. record { long = refl; sized = z.values })
stored-kept Reset i s z = cond_both (truth_of s.cr) (set s.values i (Bool false)) s.values (KeptBy (length s.values)) (λ e. set-kept s.values i (Bool false) z.values refl) (λ e. record { long = refl; sized = z.values })

-- a new state, where there is one, has a current result inside INT and as many values as before
pub record Kept (n : ℕ) (t : State) : Type 0 where
  pub sized : Sized t
  pub long : length t.values ≡ n

abbrev pub KeptOk : ℕ → Result (Edge × State) Cause → Type 0
KeptOk n (Ok w) = Kept n w.1
KeptOk n (Err c) = Unit {0}

with-kept : (s : State) → Sized s → (r : Result Value Cause) → SizedOk r → KeptOk (length s.values) (with_result s r)
with-kept s z (Ok v) k = record { sized = record { cr = k; values = z.values }; long = refl }
with-kept s z (Err c) k = tt

module _ (vars : List Variable) (ss : List Statement) (s : State) (z : Sized s) where
  performed-kept : (op : Operation) → names_only (length vars) ss op ≡ true → KeptOk (length s.values) (performed op (operand vars s.values op) s)
  performed-kept operation.Return n = record { sized = record { cr = refl; values = z.values }; long = refl }
  performed-kept operation.Not n = record { sized = record { cr = refl; values = z.values }; long = refl }
  performed-kept (operation.Label name) n = record { sized = z; long = refl }
  performed-kept (operation.Apply q x) n = with-kept s z (computed q s.cr (operand_of s.values x)) (computed-ok q s.cr (operand_of s.values x) (operand-sized (length vars) s.values z.values x n))
  performed-kept (operation.Store t i) n = let k = stored-kept t i s z in record { sized = record { cr = z.cr; values = k.sized }; long = k.long }
  performed-kept (operation.Jump j t) n = record { sized = z; long = refl }

  pub perform_kept : (op : Operation) → names_only (length vars) ss op ≡ true → KeptOk (length s.values) (perform vars op s)
  perform_kept op n = cond_both (accepted op (sort_of s.cr) (sort_of (operand vars s.values op))) (performed op (operand vars s.values op) s) (Err Kind) (KeptOk (length s.values)) (λ e. performed-kept op n) (λ e. tt)
