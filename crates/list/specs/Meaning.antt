-- What the list domain's functions mean, and the laws that it keeps.
use Rattle.std.specs.Prelude.{◌≡◌, Bool, true, false, not, ◌||◌, [], ◌++◌, ℤ, pos, ◌+ℤ◌, ◌-ℤ◌, ◌*ℤ◌, ◌≤ℤ◌, ◌<ℤ◌, Some, Option, ◌≢◌, int_div, int_le, int_lt, refl}
use Rattle.std.proofs.Common.{sym, ap, subst, ◌∙◌, ⊎_elim, arith}
use Rattle.std.proofs.lemmas.Int.{ints}
use Rattle.std.proofs.lemmas.Bool.{and_parts, and_from, and_right, or_cases, or_left, or_right, or_parts, false≢true, cond-true, cond-false, cond_both, not_from_false, cases_Bool}
use Rattle.std.proofs.lemmas.Bool.Decides.{nat_tests}
use Rattle.numbers.specs.Arithmetic.{eq_z}
use Rattle.numbers.specs.Int.{is_int, in_int}
use Rattle.domain.specs.Domain.{Lawful, holds, allows}
use Rattle.list.specs.NumberList.{is_everything, listed, packed, smallest, is_empty, is_within, results, some, list_ops}
use Rattle.list.specs.Numbers.{member, counted, pairs, some_pair}
use Rattle.list.specs.Operations.{sum, difference, product, quotient, leaves}
use Rattle.list.specs.declared.NumberList.{NumberList}
use Rattle.list.specs.declared.NumberList.TheVariants.{Everything}
use Rattle.numbers.proofs.Comparisons.{below-test, eq_z-other, int-between}
use Rattle.list.specs.Loops.{counted_none}
use Rattle.list.specs.Members.{member-left, member_right, member-append, counted_has, pairs-has, some-has}
use Rattle.list.specs.Sets as sets
use Rattle.list.specs.Sets.{has}

-- what a set holds it contains
held : (x : NumberList) (a : ℤ) → holds list_ops x a ≡ true → has x a ≡ true
held x a h = (and_parts _ _ h).1

member_of : (x : NumberList) (a : ℤ) → is_everything x ≡ false → has x a ≡ true → member a (listed x) ≡ true
member_of x a e h = ⊎_elim (λ t. absurd (false≢true (sym e ∙ t))) (λ m. m) (or_cases _ _ h)

-- a span of more than eight numbers is everything, any other lists them
span-has : (a b n : ℤ) → a ≤ℤ n → n ≤ℤ b → has (list_ops.span a b) n ≡ true
span-has a b n h k =
    cond_both (int_lt (a +ℤ pos 7) b) Everything (smallest (counted 8 a b)) (λ x. has x n ≡ true)
    (λ _. refl)
    (λ near. sets.smallest-has (counted 8 a b) n (counted_has 8 a b n h k (close a b n k near)))
  where
    close : (a b n : ℤ) → n ≤ℤ b → int_lt (a +ℤ pos 7) b ≡ false → n <ℤ (a +ℤ pos 8)
    close a b n k near = grind (arith, ints, nat_tests)

span_none : (a b : ℤ) → b <ℤ a → list_ops.span a b ≡ packed []
span_none a b h = cond-false _ _ _ (near a b h) ∙ ap smallest (counted_none 8 a b (below-test b a h))
  where
    near : (a b : ℤ) → b <ℤ a → int_lt (a +ℤ pos 7) b ≡ false
    near a b h = grind (arith, ints, nat_tests)

none_within : (s : NumberList) → is_within (packed []) s ≡ true
none_within s = or_right _ _ refl

-- a result of numbers that the sides contain is in the results
results-have : (op : ℤ → ℤ → Option ℤ) (x y : NumberList) (a b c : ℤ) → has x a ≡ true → has y b ≡ true → op a b ≡ Some c → has (results op x y) c ≡ true
results-have op x y a b c h k e =
    subst (λ s. has s c ≡ true) (sym (sets.sides x y a b (packed []) Everything (smallest (pairs op (listed x) (listed y))) h k))
    (cond_both (is_everything x || is_everything y) Everything (smallest (pairs op (listed x) (listed y))) (λ s. has s c ≡ true)
    (λ _. refl)
    (λ f. let p = or_parts (is_everything x) (is_everything y) f in sets.smallest-has (pairs op (listed x) (listed y)) c (pairs-has op (listed x) (listed y) a b c (member_of x a p.0 h) (member_of y b p.1 k) e)))

-- a test that a pair passes is answered with yes
some-says : (test : ℤ → ℤ → Bool) (x y : NumberList) (a b : ℤ) → has x a ≡ true → has y b ≡ true → test a b ≡ true → some test x y ≡ true
some-says test x y a b h k e =
    sets.sides x y a b false true (some_pair test (listed x) (listed y)) h k
    ∙ cond_both (is_everything x || is_everything y) true (some_pair test (listed x) (listed y)) (λ r. r ≡ true)
    (λ _. refl)
    (λ f. let p = or_parts (is_everything x) (is_everything y) f in some-has test (listed x) (listed y) a b (member_of x a p.0 h) (member_of y b p.1 k) e)

-- of two tests that are each other's opposite the flags follow from one fact
flags-say : (if_true if_false : ℤ → ℤ → Bool) (x y : NumberList) (a b : ℤ) → has x a ≡ true → has y b ≡ true → (t : Bool) → if_true a b ≡ t → if_false a b ≡ not t → allows record { can_be_true = some if_true x y; can_be_false = some if_false x y } t ≡ true
flags-say if_true if_false x y a b h k true e f = some-says if_true x y a b h k e
flags-say if_true if_false x y a b h k false e f = some-says if_false x y a b h k f

not-below : (a b : ℤ) → int_le b a ≡ not (int_lt a b)
not-below a b = grind (arith, ints, nat_tests)

fits : (z : ℤ) → is_int z ≡ true → in_int z ≡ Some z
fits z i = cond-true _ _ _ i

divides : (a b : ℤ) → (b ≢ pos 0) → is_int (int_div a b) ≡ true → quotient a b ≡ Some (int_div a b)
divides a b nz i = cond-false _ _ _ (eq_z-other b (pos 0) nz) ∙ fits (int_div a b) i

join-within : (x y : NumberList) (z : NumberList) → ((n : ℤ) → member n (listed z) ≡ true → member n (listed x ++ listed y) ≡ true) → (is_everything z ≡ true → (is_everything x || is_everything y) ≡ true) → is_within z (list_ops.join x y) ≡ true
join-within x y z f g =
    cond_both (is_everything x || is_everything y) Everything (smallest (listed x ++ listed y)) (λ s. is_within z s ≡ true)
    (λ _. refl)
    (λ e. sets.within-from z (smallest (listed x ++ listed y)) (⊎_elim (λ t. absurd (false≢true (sym e ∙ g t))) (λ n. n) (cases_Bool (is_everything z))) (λ n m. sets.smallest-has (listed x ++ listed y) n (f n m)))

join_least : (x y z : NumberList) → is_within x z ≡ true → is_within y z ≡ true → is_within (list_ops.join x y) z ≡ true
join_least x y z h k =
    cond_both (is_everything x || is_everything y) Everything (smallest (listed x ++ listed y)) (λ s. is_within s z ≡ true)
    (λ e. ⊎_elim (λ t. whole x h t) (λ t. whole y k t) (or_cases _ _ e))
    (λ _. sets.smallest-least (listed x ++ listed y) z (λ n m. ⊎_elim (λ i. sets.within_has x z n h (or_right _ _ i)) (λ i. sets.within_has y z n k (or_right _ _ i)) (member-append (listed x) (listed y) n m)))
  where
    -- what everything is within is everything
    whole : (x : NumberList) → is_within x z ≡ true → is_everything x ≡ true → is_within Everything z ≡ true
    whole x h t = sets.within-everything Everything z (⊎_elim (λ e. e) (λ w. absurd (false≢true (sym (ap not t) ∙ (and_parts _ _ w).0))) (or_cases _ _ h))

widen-within : (old new : NumberList) → is_within new (list_ops.widen old new) ≡ true
widen-within old new = cond_both (is_empty old || is_within new old) new Everything (λ s. is_within new s ≡ true) (λ _. sets.within_refl new) (λ _. refl)

pub lawful : Lawful list_ops
lawful = record {
  span_holds = λ a b n i j h k. and_from _ _ (int-between a b n i j h k) (span-has a b n h k);
  span_holds_none = λ a b n i j h. and_right _ _ (ap (λ s. has s n) (span_none a b h));
  within_holds = λ s t n w h. and_from _ _ (and_parts _ _ h).0 (sets.within_has s t n w (held s n h));
  empty_holds = λ s n e. and_right _ _ (sets.empty-has s n e);
  add_holds = λ s t a b h k i. and_from _ _ i (results-have sum s t a b (a +ℤ b) (held s a h) (held t b k) (fits _ i));
  sub_holds = λ s t a b h k i. and_from _ _ i (results-have difference s t a b (a -ℤ b) (held s a h) (held t b k) (fits _ i));
  mul_holds = λ s t a b h k i. and_from _ _ i (results-have product s t a b (a *ℤ b) (held s a h) (held t b k) (fits _ i));
  div_holds = λ s t a b h k nz i. and_from _ _ i (results-have quotient s t a b (int_div a b) (held s a h) (held t b k) (divides a b nz i));
  add_asks = λ s t a b h k i. some-says (leaves ◌+ℤ◌) s t a b (held s a h) (held t b k) (not_from_false _ i);
  sub_asks = λ s t a b h k i. some-says (leaves ◌-ℤ◌) s t a b (held s a h) (held t b k) (not_from_false _ i);
  mul_asks = λ s t a b h k i. some-says (leaves ◌*ℤ◌) s t a b (held s a h) (held t b k) (not_from_false _ i);
  less_flags = λ s t a b h k. flags-say int_lt (λ a b. int_le b a) s t a b (held s a h) (held t b k) (int_lt a b) refl (not-below a b);
  equal_flags = λ s t a b h k. flags-say eq_z (λ a b. not (eq_z a b)) s t a b (held s a h) (held t b k) (eq_z a b) refl refl;
  empty_span = λ a b i j h. ap is_empty (span_none a b h);
  empty_span_within = λ a b s i j h. ap (λ x. is_within x s) (span_none a b h) ∙ none_within s;
  within_refl = sets.within_refl;
  within_trans = sets.within_trans;
  join_left = λ s t. join-within s t s (member-left (listed s) (listed t)) (or_left _ _);
  join_right = λ s t. join-within s t t (member_right (listed s) (listed t)) (or_right _ _);
  join_least = join_least;
  join_widen = λ s t. widen-within s (list_ops.join s t);
  within_empty = sets.empty-within;
}
