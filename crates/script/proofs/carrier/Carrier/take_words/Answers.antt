use Rattle.std.proofs.Common.{◌≡◌, ◌-◌, ◌+◌, length, Some, None, Ok, Err, sym, ap, ◌∙◌, arith, rules}
use Rattle.words.specs.Words.{next_at, answered, seen}
use Rattle.script.specs.Course.{course_of}
use Rattle.script.specs.declared.fault.Ending.TheVariants.{Refused}
use Rattle.script.specs.declared.fault.ScriptFault.TheVariants.{Word}
use Rattle.script.proofs.Turns.{closed-stays, acted-stays, left-over, left-ended, left-unfit, left-on, left-stopped}
use Rattle.script.proofs.carrier.Carrier.take_words.Goals as goal
use Rattle.script.proofs.carrier.Carrier.take_words.Goals.{else-loop-word-test, then-loop-word-test+in_ok-place+in_default}

pub returns-in_err-place : goal.returns-in_err-place
returns-in_err-place g c =
    let s : next_at c.args.text.now c.loop-word.reader.place ≡ Err c.in_err-place.field-0.0 = ap (λ t. next_at t c.loop-word.reader.place) (sym c.loop-word.invariant.text) ∙ sym c.in_err-place.ensures.is in
    let k : length c.args.text.now - c.loop-word._word ≡ (length c.args.text.now - (c.loop-word._word + 1)) + 1 = omega arith in
    let e = left-unfit g.D.Domain.ops _ _ c.args.text.now _ _ c.loop-word.reader.place c.loop-word.pending _ _ _ k c.loop-word.invariant.left _ s in
    let f : c.from_residual.result ≡ Err (Refused (Word c.in_err-place.field-0.0)) = search rules in
    rw f e

pub returns-in_err-pending : goal.returns-in_err-pending
returns-in_err-pending g c =
    let k : length c.args.text.now - c.loop-word._word ≡ (length c.args.text.now - (c.loop-word._word + 1)) + 1 = omega arith in
    let s : next_at c.args.text.now c.loop-word.reader.place ≡ Ok (Some (c.in-Some.place, seen c.in-Some.word, c.next_word.new.self.place)) =
    ap (λ t. next_at t c.loop-word.reader.place) (sym c.loop-word.invariant.text) ∙ sym c.in_ok-place.ensures.is ∙ ap (λ o. answered (Ok o) c.next_word.new.self.place) c.in-Some.is in
    let e =
    left-stopped g.D.Domain.ops _ _ c.args.text.now _ _ c.loop-word.reader.place c.loop-word.pending _ _ _ k c.loop-word.invariant.left _ _ _ s _ _
    (acted-stays g.D.Domain.ops c.args.self.now c.loop-word.self c.loop-word.invariant.stays c.loop-word.pending (course_of c.loop-word.self) (seen c.in-Some.word)) c.in_err-pending.field-0.0 c.in_err-pending.ensures.took in
    let f : c.from_residual-in_err-pending.result ≡ Err c.in_err-pending.field-0.0 = search rules in
    rw f e

pub loop-word-preserved : goal.loop-word-preserved
loop-word-preserved g c =
    let k : length c.args.text.now - c.loop-word._word ≡ (length c.args.text.now - (c.loop-word._word + 1)) + 1 = omega arith in
    let s : next_at c.args.text.now c.loop-word.reader.place ≡ Ok (Some (c.in-Some.place, seen c.in-Some.word, c.next_word.new.self.place)) =
    ap (λ t. next_at t c.loop-word.reader.place) (sym c.loop-word.invariant.text) ∙ sym c.in_ok-place.ensures.is ∙ ap (λ o. answered (Ok o) c.next_word.new.self.place) c.in-Some.is in
    record {
      text = c.next_word.ensures.text ∙ c.loop-word.invariant.text;
      left =
          left-on g.D.Domain.ops _ _ c.args.text.now _ _ c.loop-word.reader.place c.loop-word.pending _ _ _ k c.loop-word.invariant.left _ _ _ s _ _
          (acted-stays g.D.Domain.ops c.args.self.now c.loop-word.self c.loop-word.invariant.stays c.loop-word.pending (course_of c.loop-word.self) (seen c.in-Some.word)) _ c.in_ok-pending.ensures.took;
      stays = record {
        code = c.take_word.ensures.stays.code ∙ c.loop-word.invariant.stays.code;
        cells = c.take_word.ensures.stays.cells ∙ c.loop-word.invariant.stays.cells;
      };
    }

pub returns : goal.returns
returns g c =
    let d = closed-stays g.D.Domain.ops c.args.self.now c.loop-word.self c.loop-word.invariant.stays c.loop-word.pending in
    elim c.loop-word-test.branch [
      | else-loop-word-test w ↦
          let e = left-over g.D.Domain.ops _ _ c.args.text.now _ _ c.loop-word.reader.place c.loop-word.pending _ _ c.loop-word.invariant.left (omega (arith, w.loop-word-test.false)) in
          (e.0, c.in_ok-finish.ensures.course ∙ d _ ∙ e.1)
      | then-loop-word-test+in_ok-place+in_default w ↦
          let n : w.in_ok-place.field-0 ≡ None = search rules in
          let k : length c.args.text.now - c.loop-word._word ≡ (length c.args.text.now - (c.loop-word._word + 1)) + 1 = omega (arith, w.loop-word-test.true) in
          let s : next_at c.args.text.now c.loop-word.reader.place ≡ Ok None =
          ap (λ t. next_at t c.loop-word.reader.place) (sym c.loop-word.invariant.text) ∙ sym w.in_ok-place.ensures.is ∙ ap (λ o. answered (Ok o) w.next_word.new.self.place) n in
          let e = left-ended g.D.Domain.ops _ _ c.args.text.now _ _ c.loop-word.reader.place c.loop-word.pending _ _ _ k c.loop-word.invariant.left s in
          (e.0, c.in_ok-finish.ensures.course ∙ d _ ∙ e.1)
    ]
