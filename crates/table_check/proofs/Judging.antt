-- A sheet is handed out exactly for a table that passes.
use Rattle.std.proofs.Common.{◌≡◌, ℕ, Bool as Truth, true, false, cond, eqb, List, length, is_ok, Some, None, Ok, Err, Option, Result, sym, refl, ap, ◌∙◌, eq-eqb, eqb-true}
use Rattle.std.proofs.lemmas.Bool.{true≢false, cond-true}
use Rattle.domain.specs.Domain.{Ops}
use Rattle.program.specs.Model.{Code}
use Rattle.cells.specs.declared.cell.Cell.{Cell}
use Rattle.table.specs.Tables.{table_size}
use Rattle.table_check.specs.declared.fault.CheckFault.{CheckFault}
use Rattle.table_check.specs.declared.fault.CheckFault.TheVariants.{WrongSize}
use Rattle.table_check.specs.declared.sheet.Sheet.{Sheet}
use Rattle.table_check.specs.Passing.{Passes}
use Rattle.table_check.specs.Failures.{first_failure}
use Rattle.table_check.specs.Sheets.{Shown, shown_by, judged, checked}
use Rattle.table_check.proofs.Passing.{passes-from, passes-to}

shown_ok : {S : Type 0} (r : Result (Sheet S) CheckFault) → is_ok r ≡ is_ok (shown_by r)
shown_ok (Ok sheet) = refl
shown_ok (Err f) = refl

-- an answer that is good only past a test
past : {S : Type 0} (b : Truth) (r : Result (Shown S) CheckFault) (f : CheckFault) → is_ok (cond b r (Err f)) ≡ true → (b ≡ true) × (is_ok r ≡ true)
past true r f e = (refl, e)
past false r f e = absurd (true≢false (sym e))

module _ {S : Type 0} (o : Ops S) (p : Code) (table : List (Cell S)) where
  judged-none : (x : Option ℕ) → is_ok (judged o p table x) ≡ true → x ≡ None
  judged-none None e = refl
  judged-none (Some place) e = absurd (true≢false (sym e))

  module _ (m : ℕ) (r : Result (Sheet S) CheckFault) (is : shown_by r ≡ checked o p table m) where
    pub only-passing : is_ok r ≡ true → Passes o p table
    only-passing e =
        let good : is_ok (checked o p table m) ≡ true = sym (ap is_ok is) ∙ sym (shown_ok r) ∙ e in
        let inner = cond (eqb m (length p.statements)) (judged o p table (first_failure o p table)) (Err (WrongSize (length p.statements))) in
        let sized = past (eqb (length table) (table_size p)) inner (WrongSize (table_size p)) good in
        let roomy = past (eqb m (length p.statements)) (judged o p table (first_failure o p table)) (WrongSize (length p.statements)) sized.1 in
        passes-from o p table (eqb-true (length table) (table_size p) sized.0) (judged-none (first_failure o p table) roomy.1)

    pub each-passing : Passes o p table → m ≡ length p.statements → is_ok r ≡ true
    each-passing t n =
        let inner = cond (eqb m (length p.statements)) (judged o p table (first_failure o p table)) (Err (WrongSize (length p.statements))) in
        shown_ok r
        ∙ ap is_ok (is
        ∙ cond-true (eqb (length table) (table_size p)) inner (Err (WrongSize (table_size p))) (eq-eqb (length table) (table_size p) t.sized)
        ∙ cond-true (eqb m (length p.statements)) (judged o p table (first_failure o p table)) (Err (WrongSize (length p.statements))) (eq-eqb m (length p.statements) n)
        ∙ ap (judged o p table) (passes-to o p table t))
