-- One turn of taking the words of a text.
use Rattle.std.proofs.Common.{◌≡◌, ℕ, zero, suc, ◌-◌, ◌<◌, ◌≤◌, List, length, Some, None, Ok, Err, Result, sym, ap, ◌∙◌, arith}
use Rattle.syntax.specs.declared.record.Name.{Name}
use Rattle.syntax.specs.declared.grammar.Step.{Step}
use Rattle.reading.specs.declared.fault.StatementFault.{StatementFault}
use Rattle.reading.specs.declared.fault.ProgramFault.{ProgramFault}
use Rattle.reading.specs.declared.fault.ProgramFault.TheVariants.{Statement}
use Rattle.reading.specs.Drafts.{Draft, applied}
use Rattle.reading.specs.Statements.{step_at}
use Rattle.reading.specs.Reading.{go_on, onward, taken_from}

-- what is left of the text gives the answer w, in enough turns
pub record Left (text : List ℕ) (p : ℕ) (d : Draft) (w : Result Draft ProgramFault) : Type 0 where
  pub turns : ℕ
  pub enough : length text - p < turns
  pub gives : taken_from turns text p d ≡ w

module _ {text : List ℕ} {p : ℕ} {d : Draft} {w : Result Draft ProgramFault} (l : Left text p d w) where
  -- there is a turn to take
  turn : (k : ℕ) × (go_on text d (step_at text p d.progress.stage) (λ q e. taken_from k text q e) ≡ w) × (length text - p < suc k)
  turn = one l.turns l.enough l.gives
    where
      one : (n : ℕ) → length text - p < n → taken_from n text p d ≡ w → (k : ℕ) × (go_on text d (step_at text p d.progress.stage) (λ q e. taken_from k text q e) ≡ w) × (length text - p < suc k)
      one zero h e = absurd (omega arith)
      one (suc k) h e = (k, e, h)

  pub ended : step_at text p d.progress.stage ≡ Ok None → Ok d ≡ w
  ended s = sym (ap (λ r. go_on text d r (λ q e. taken_from turn.0 text q e)) s) ∙ turn.1

  pub unfit : (f : StatementFault) → step_at text p d.progress.stage ≡ Err f → Err (Statement f) ≡ w
  unfit f s = sym (ap (λ r. go_on text d r (λ q e. taken_from turn.0 text q e)) s) ∙ turn.1

  module _ (name : Name) (step : Step) (q : ℕ) (s : step_at text p d.progress.stage ≡ Ok (Some (name, step, q))) where
    stepped : onward (applied text d name step) (λ e. taken_from turn.0 text q e) ≡ w
    stepped = sym (ap (λ r. go_on text d r (λ q e. taken_from turn.0 text q e)) s) ∙ turn.1

    pub refused : (f : ProgramFault) → applied text d name step ≡ Err f → Err f ≡ w
    refused f a = sym (ap (λ r. onward r (λ e. taken_from turn.0 text q e)) a) ∙ stepped

    pub further : (e : Draft) → applied text d name step ≡ Ok e → p < q → q ≤ length text → Left text q e w
    further e a on within =
        let far = turn.2 in
        record { turns = turn.0; enough = omega arith; gives = sym (ap (λ r. onward r (λ e. taken_from turn.0 text q e)) a) ∙ stepped }
