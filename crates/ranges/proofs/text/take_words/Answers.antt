use Rattle.std.proofs.Common.{◌<◌, length, Ok, sym, ap, ◌∙◌, arith}
use Rattle.std.proofs.lemmas.Result.{err_from_is_err_and}
use Rattle.std.proofs.lemmas.Option.{MatchOption-at_some}
use Rattle.words.specs.Words.{next_at, answered}
use Rattle.program.specs.Model.{memory}
use Rattle.ranges.specs.Ranges.{outcome}
use Rattle.ranges.proofs.Turns.{text-ended, unfit, ended-at, refused, more, set-as}
use Rattle.ranges.proofs.text.take_words.Goals as goal

pub returns-in_err-place : goal.returns-in_err-place
returns-in_err-place c =
    let i = c.loop-place.invariant in
    let p = err_from_is_err_and c.from_residual.result c.from_residual.ensures.1 in
    let s = ap (λ t. next_at t c.loop-place.reader.place) (sym i.read) ∙ sym c.in_err-place.ensures.is in
    rw (p.1, p.2) (set-as _ _ (unfit i.left _ s) i.variables i.statements)

pub returns-then-ends : goal.returns-then-ends
returns-then-ends c =
    let i = c.loop-place.invariant in
    let s = ap (λ t. next_at t c.loop-place.reader.place) (sym i.read) ∙ sym (ap (λ o. answered (Ok o) c.next_word.new.self.place) (sym c.in-Some.is) ∙ c.in_ok-place.ensures.is) in
    set-as _ _ (ended-at i.left _ _ _ s (sym c.if-ends.ensures)) i.variables i.statements

pub returns-in_err-awaiting : goal.returns-in_err-awaiting
returns-in_err-awaiting c =
    let i = c.loop-place.invariant in
    let took = c.take_word.ensures in
    let p = err_from_is_err_and c.from_residual-in_err-awaiting.result c.from_residual-in_err-awaiting.ensures.1 in
    let s = ap (λ t. next_at t c.loop-place.reader.place) (sym i.read) ∙ sym (ap (λ o. answered (Ok o) c.next_word.new.self.place) (sym c.in-Some.is) ∙ c.in_ok-place.ensures.is) in
    rw (p.1, p.2) (set-as _ _ (refused i.left _ _ _ s (sym c.if-ends.ensures) _ _ took.answer took.memory _ c.in_err-awaiting.was) (took.variables ∙ i.variables) (took.statements ∙ i.statements))

pub loop-place-preserved : goal.loop-place-preserved
loop-place-preserved c =
    let i = c.loop-place.invariant in
    let took = c.take_word.ensures in
    let s = ap (λ t. next_at t c.loop-place.reader.place) (sym i.read) ∙ sym (ap (λ o. answered (Ok o) c.next_word.new.self.place) (sym c.in-Some.is) ∙ c.in_ok-place.ensures.is) in
    let same = c.next_word.ensures.text ∙ i.read in
    let on : c.loop-place.reader.place < c.next_word.new.self.place = MatchOption-at_some (Unit {0}) (λ _. c.loop-place.reader.place < c.next_word.new.self.place) (c.in-Some.place, c.in-Some.word) c.in-Some.is c.in_ok-place.ensures.on.1 in
    record {
      read = same;
      left = more i.left _ _ _ s (sym c.if-ends.ensures) _ _ took.answer took.memory _ c.in_ok-awaiting.was on (omega (arith, c.next_word.new.self.within, ap length same));
      variables = took.variables ∙ i.variables;
      statements = took.statements ∙ i.statements;
    }

pub returns : goal.returns
returns c =
    let i = c.loop-place.invariant in
    let s = ap (λ t. next_at t c.loop-place.reader.place) (sym i.read) ∙ sym (ap (λ o. answered (Ok o) c.next_word.new.self.place) (sym c.in_default.is) ∙ c.in_ok-place.ensures.is) in
    set-as _ _ (ap (λ r. outcome r (memory c.loop-place.program)) c.end.ensures ∙ text-ended i.left s) i.variables i.statements
