use Rattle.std.proofs.Common.{◌<◌, length, Ok, sym, ap, ◌∙◌, arith}
use Rattle.std.proofs.lemmas.Result.{err_from_is_err_and}
use Rattle.std.proofs.lemmas.Option.{MatchOption-at_some}
use Rattle.reading.specs.Drafts.{applied}
use Rattle.reading.specs.Statements.{step_at, step_is}
use Rattle.reading.specs.Lent.{draft, drafted}
use Rattle.reading.proofs.Turns.{unfit, refused, further}
use Rattle.reading.proofs.draft.Draft.take_words.Goals as goal

pub returns-in_err-name : goal.returns-in_err-name
returns-in_err-name c =
    let i = c.loop-name.invariant in
    let p = err_from_is_err_and c.from_residual.result c.from_residual.ensures.1 in
    let s = ap (λ t. step_at t c.loop-name.reader.place c.loop-name.self.progress.stage) (sym i.read) ∙ sym c.in_err-name.ensures.is in
    rw (p.1, p.2) (record { is = unfit i.left _ s; text = i.text; variables = i.variables; statements = i.statements })

pub returns-in_err-apply : goal.returns-in_err-apply
returns-in_err-apply c =
    let i = c.loop-name.invariant in
    let p = err_from_is_err_and c.from_residual-in_err-apply.result c.from_residual-in_err-apply.ensures.1 in
    let s = ap (λ t. step_at t c.loop-name.reader.place c.loop-name.self.progress.stage) (sym i.read) ∙ sym (ap (λ o. step_is (Ok o) c.next_step.new.reader.place) (sym c.in-Some.is) ∙ c.in_ok-name.ensures.is) in
    let a = ap (λ t. applied t (draft c.loop-name.self) c.in-Some.name c.in-Some.step) (sym i.text) ∙ sym c.apply.ensures.is ∙ ap (λ r. drafted r (draft c.apply.new.self)) c.in_err-apply.was in
    rw (p.1, p.2) (record {
      is = refused i.left _ _ _ s _ a;
      text = c.apply.ensures.text ∙ i.text;
      variables = c.apply.ensures.variables ∙ i.variables;
      statements = c.apply.ensures.statements ∙ i.statements;
    })

pub loop-name-preserved : goal.loop-name-preserved
loop-name-preserved c =
    let i = c.loop-name.invariant in
    let s = ap (λ t. step_at t c.loop-name.reader.place c.loop-name.self.progress.stage) (sym i.read) ∙ sym (ap (λ o. step_is (Ok o) c.next_step.new.reader.place) (sym c.in-Some.is) ∙ c.in_ok-name.ensures.is) in
    let a = ap (λ t. applied t (draft c.loop-name.self) c.in-Some.name c.in-Some.step) (sym i.text) ∙ sym c.apply.ensures.is ∙ ap (λ r. drafted r (draft c.apply.new.self)) c.in_ok-apply.was in
    let same = c.next_step.ensures.text ∙ i.read in
    let on : c.loop-name.reader.place < c.next_step.new.reader.place = MatchOption-at_some (Unit {0}) (λ _. c.loop-name.reader.place < c.next_step.new.reader.place) (c.in-Some.name, c.in-Some.step) c.in-Some.is c.in_ok-name.ensures.on in
    record {
      read = same;
      left = further i.left _ _ _ s _ a on (omega (arith, c.next_step.new.reader.within, ap length same));
      text = c.apply.ensures.text ∙ i.text;
      variables = c.apply.ensures.variables ∙ i.variables;
      statements = c.apply.ensures.statements ∙ i.statements;
    }
