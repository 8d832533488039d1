use Rattle.std.proofs.Common.{◌≡◌, ◌<◌, true, get_or, IfSome, ap, ◌∙◌, subst, arith, rules}
use lib.Signed.{le_z}
use Rattle.std.proofs.lemmas.Bool.Decides.{nat_tests}
use Rattle.std.proofs.lemmas.Int.{ints}
use Rattle.std.proofs.lemmas.List.{length-take-le, get_or-take}
use Rattle.numbers.specs.Int.{is_int}
use Rattle.syntax.specs.Records.{no_variable}
use Rattle.reading.specs.Formed.{in_order, is_proper}
use Rattle.program.specs.Model.{extent_in}
use Rattle.program.proofs.Ranges.{filled-set, proper-initial, in-order-from}
use Rattle.program.proofs.lent.Program.set_range.Goals as goal

pub invariant_of-self : goal.invariant_of-self
invariant_of-self c = record {
  filled = λ e is.
      let p = c.args.self.now in
      let vs = p.variables.now in
      let n = e.variables in
      let i = c.in_ok-index.index in
      let v = c.set_range.new.self in
      let f = p.filled e is in
      let used = ap (λ r. (extent_in r).variables) is in
      let there : i < (extent_in p.outcome).variables = subst (λ o. IfSome o (λ k. k < (extent_in p.outcome).variables)) c.in_ok-index.ensures.ok_part c.input.ensures.within in
      let within : i < n = omega (arith, there, used) in
      let old : in_order (get_or vs i no_variable) ≡ true = subst (λ x. in_order x ≡ true) (get_or-take n vs i no_variable within) (f.formed.ordered i (omega (arith, length-take-le n vs f.variables_there, within))) in
      let e : le_z v.range.low v.range.high ≡ true = search (rules, ints, nat_tests) in
      let low : is_int v.range.low ≡ true = search (rules, ints, nat_tests) in
      let high : is_int v.range.high ≡ true = search (rules, ints, nat_tests) in
      let proper = ap (λ x. is_proper x.declaration.initial) c.set_range.ensures ∙ proper-initial (get_or vs i no_variable) old in
      filled-set _ vs p.statements.now i v within (in-order-from v e low high proper) f;
}
