-- A statement that is no return leads to a statement of its program.
use Rattle.std.proofs.Common.{◌≡◌, ℕ, ◌+◌, ◌<◌, true, false, List, length, sym, refl, ap, ◌∙◌, inl, inr, arith}
use Rattle.std.proofs.lemmas.Bool.{cases_lt, true≢false}
use Rattle.syntax.specs.declared.record.Operation.{Operation}
use Rattle.syntax.specs.declared.record.Operation.TheVariants.{Return, Not, Label, Apply, Store, Jump}
use Rattle.syntax.specs.declared.record.Statement.{Statement}
use Rattle.reading.specs.Reading.{is_return}
use Rattle.reading.specs.Formed.{names_only, Returning}
use Rattle.meaning.specs.declared.edge.Edge.{Edge}
use Rattle.meaning.specs.declared.edge.Edge.TheVariants as way
use Rattle.transfer.specs.Transfer.{target_of}
use Rattle.table.specs.Tables.{operation_at}
use Rattle.fixpoint.proofs.Targets.{jump-inside}

return-is : (op : Operation) → is_return op ≡ true → op ≡ Return
return-is Return e = refl
return-is Not e = absurd (true≢false (sym e))
return-is (Label name) e = absurd (true≢false (sym e))
return-is (Apply o x) e = absurd (true≢false (sym e))
return-is (Store s i) e = absurd (true≢false (sym e))
return-is (Jump j t) e = absurd (true≢false (sym e))

pub no_return : (op : Operation) → is_return op ≡ false → op ≡ Return → ⊥
no_return op f e = true≢false (ap is_return (sym e) ∙ f)

module _ (ss : List Statement) (k : ℕ) (here : k < length ss) where
  falls-inside : Returning ss → (operation_at ss k ≡ Return → ⊥) → k + 1 < length ss
  falls-inside r n =
      elim (cases_lt (k + 1) (length ss)) [
        | inl h ↦ h
        | inr h ↦ absurd (n (return-is (operation_at ss k) (r k (omega arith))))
      ]

  pub target-inside : (v : ℕ) → names_only v ss (operation_at ss k) ≡ true → Returning ss → (operation_at ss k ≡ Return → ⊥) → (edge : Edge) → target_of k (operation_at ss k) edge < length ss
  target-inside v n r other way.Fall = falls-inside r other
  target-inside v n r other way.Jump = jump-inside v ss k (operation_at ss k) here n
