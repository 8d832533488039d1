-- Ranges stay in order where one variable is given another that is.
use Rattle.std.proofs.Common.{◌≡◌, ℕ, ◌<◌, min, true, List, length, get_or, take, set, sym, ap, ◌∙◌, subst, ⊎_elim, arith}
use lib.Signed.{le_z}
use Rattle.std.proofs.lemmas.List.{length-take, length-set, get_or-take, get_or-set_same, get_or-set_other}
use Rattle.std.proofs.lemmas.Bool.{cases_eq, and_from, and_parts}
use Rattle.numbers.specs.Int.{is_int}
use Rattle.syntax.specs.declared.record.Variable.{Variable}
use Rattle.syntax.specs.Records.{no_variable}
use Rattle.syntax.specs.declared.record.Statement.{Statement}
use Rattle.reading.specs.declared.draft.Extent.{Extent}
use Rattle.reading.specs.Formed.{in_order, is_proper, Whole, Ordered, Filled}

pub ordered-set : (vs : List Variable) (n i : ℕ) (v : Variable) → in_order v ≡ true → Ordered (take n vs) → Ordered (take n (set vs i v))
ordered-set vs n i v e o j l =
    let longs = length-take n (set vs i v) in
    let long = length-take n vs in
    let same = length-set vs i v in
    let lt : j < n = omega arith in
    let in-vs : j < length vs = omega arith in
    let P : Variable → Type 0 = λ x. in_order x ≡ true in
    subst P (sym (get_or-take n (set vs i v) j no_variable lt))
    (⊎_elim (λ q. subst P (sym (ap (λ k. get_or (set vs i v) k no_variable) q ∙ get_or-set_same vs i v no_variable (omega arith))) e)
    (λ q. subst P (sym (get_or-set_other vs i j v no_variable q ∙ sym (get_or-take n vs j no_variable lt))) (o j (omega arith)))
    (cases_eq j i))

-- the initial value of a variable in order is proper
pub proper-initial : (v : Variable) → in_order v ≡ true → is_proper v.declaration.initial ≡ true
proper-initial v o =
    (and_parts (is_int v.range.high) (is_proper v.declaration.initial) (and_parts (is_int v.range.low) _ (and_parts (le_z v.range.low v.range.high) _ o).1).1).1

-- a variable is in order by its parts
pub in-order-from : (v : Variable) → le_z v.range.low v.range.high ≡ true → is_int v.range.low ≡ true → is_int v.range.high ≡ true → is_proper v.declaration.initial ≡ true → in_order v ≡ true
in-order-from v e l h p = and_from (le_z v.range.low v.range.high) _ e (and_from (is_int v.range.low) _ l (and_from (is_int v.range.high) _ h p))

-- records in use stay in use, and the others blank, where one variable is given another that is in order
pub filled-set : (e : Extent) (vs : List Variable) (ss : List Statement) (i : ℕ) (v : Variable) → i < e.variables → in_order v ≡ true → Filled e vs ss → Filled e (set vs i v) ss
filled-set e vs ss i v l o f =
    let long = length-set vs i v in
    let same : length (take e.variables (set vs i v)) ≡ length (take e.variables vs) = length-take e.variables (set vs i v) ∙ ap (min e.variables) long ∙ sym (length-take e.variables vs) in
    record {
      variables_there = omega (arith, f.variables_there);
      statements_there = f.statements_there;
      formed = record {
        few = omega (arith, f.formed.few);
        short = f.formed.short;
        whole = subst (λ n. Whole n (take e.statements ss)) (sym same) f.formed.whole;
        returning = f.formed.returning;
        ordered = ordered-set vs e.variables i v o f.formed.ordered;
      };
      variables_rest = λ j m. get_or-set_other vs i j v no_variable (λ q. absurd (omega arith)) ∙ f.variables_rest j m;
      statements_rest = f.statements_rest;
    }
