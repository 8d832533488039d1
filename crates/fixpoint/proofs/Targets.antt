-- The ways on from a statement of a program lead to its statements.
use Rattle.std.proofs.Common.{◌≡◌, ℕ, ◌+◌, ◌<◌, true, cond, ◌||◌, List, length, get_or, is_some, Some, None, Option, sym, ap, ◌∙◌, inl, inr, arith}
use Rattle.std.proofs.lemmas.List.{get_or_past}
use Rattle.std.proofs.lemmas.Bool.{cases_lt, cond_both, true≢false}
use Rattle.domain.specs.Domain.{Ops}
use Rattle.syntax.specs.declared.record.Operation.{Operation}
use Rattle.syntax.specs.declared.record.Operation.TheVariants.{Return, Not, Label, Apply, Store, Jump}
use Rattle.syntax.specs.declared.record.Statement.{Statement}
use Rattle.syntax.specs.declared.record.Variable.{Variable}
use Rattle.syntax.specs.Records.{no_statement}
use Rattle.reading.specs.Names.{label_name}
use Rattle.reading.specs.Reading.{is_return}
use Rattle.reading.specs.Formed.{names_only, Formed}
use Rattle.cells.specs.declared.cell.Cell.{Cell}
use Rattle.cells.specs.Cells.{is_vacant}
use Rattle.meaning.specs.declared.edge.Edge.{Edge}
use Rattle.meaning.specs.declared.edge.Edge.TheVariants as way
use Rattle.transfer.specs.Transfer.{left_of, right_of, carried, target_of}
use Rattle.table.specs.Tables.{operation_at}

-- a label that is there is a statement
label-there : (ss : List Statement) (t : ℕ) → is_some (label_name (get_or ss t no_statement)) ≡ true → t < length ss
label-there ss t e =
    elim (cases_lt t (length ss)) [
      | inl h ↦ h
      | inr h ↦ absurd (true≢false (sym e ∙ ap (λ (s : Statement). is_some (label_name s)) (get_or_past ss t no_statement h)))
    ]

pub jump-inside : (v : ℕ) (ss : List Statement) (k : ℕ) (op : Operation) → k < length ss → names_only v ss op ≡ true → target_of k op way.Jump < length ss
jump-inside v ss k Return h n = omega arith
jump-inside v ss k Not h n = omega arith
jump-inside v ss k (Label name) h n = omega arith
jump-inside v ss k (Apply o x) h n = omega arith
jump-inside v ss k (Store t x) h n = omega arith
jump-inside v ss k (Jump j t) h n = label-there ss t.statement n

module _ {S : Type 0} (o : Ops S) (vars : List Variable) where
  -- a return has no fall-through
  no-fall : (row next : List (Cell S)) (op : Operation) → is_return op ≡ true → carried o vars row op way.Fall ≡ Some next → ⊥
  no-fall row next Return r e =
      let b = is_vacant o (left_of o vars row Return) || is_vacant o (right_of o vars row Return) in
      let f : cond b None None ≡ Some next = e in
      cond_both b None None (λ (p : Option (List (Cell S))). p ≡ Some next → ⊥) (λ x y. cc) (λ x y. cc) f
  no-fall row next Not r e = absurd cc
  no-fall row next (Label name) r e = absurd cc
  no-fall row next (Apply p x) r e = absurd cc
  no-fall row next (Store t x) r e = absurd cc
  no-fall row next (Jump j t) r e = absurd cc

  module _ (ss : List Statement) (formed : Formed vars ss) (k : ℕ) (h : k < length ss) (row next : List (Cell S)) where
    target-inside : (edge : Edge) → carried o vars row (operation_at ss k) edge ≡ Some next → target_of k (operation_at ss k) edge < length ss
    target-inside way.Fall e =
        elim (cases_lt (k + 1) (length ss)) [
          | inl less ↦ less
          | inr last ↦ absurd (no-fall row next (operation_at ss k) (formed.returning k (omega arith)) e)
        ]
    target-inside way.Jump e = jump-inside (length vars) ss k (operation_at ss k) h (formed.whole k h)

    -- the same by the operation that was read
    pub target_inside : (op : Operation) → op ≡ operation_at ss k → (edge : Edge) → carried o vars row op edge ≡ Some next → target_of k op edge < length ss
    target_inside op oe edge e =
        let f = target-inside edge (ap (λ (p : Operation). carried o vars row p edge) (sym oe) ∙ e) in
        let t : target_of k op edge ≡ target_of k (operation_at ss k) edge = ap (λ (p : Operation). target_of k p edge) oe in
        omega arith
