use Rattle.std.proofs.Common.{sym, ap, ◌∙◌, arith, rules}
use Rattle.std.specs.Option.{ok_or}
use Rattle.std.proofs.lemmas.Result.{err_from_is_err_and}
use Rattle.words.specs.declared.word.WordFault.TheVariants.{Unclosed}
use Rattle.words.proofs.Blanks.{blank-passed, comment-closed, never-closed}
use Rattle.words.proofs.reader.Reader.blanks_end.Goals as goal

pub loop-place-preserved-then-is_blank : goal.loop-place-preserved-then-is_blank
loop-place-preserved-then-is_blank c =
    let b = blank-passed c.args.self.now.text.now c.loop-place.place c.in-len1-up.len_at_least (sym c.is_blank.ensures ∙ c.if-is_blank.true) in
    (omega arith, b.0, sym b.1 ∙ c.loop-place.invariant.2)

pub overflow_add-place-in-40 : goal.overflow_add-place-in-40
overflow_add-place-in-40 c =
    let b = (comment-closed c.args.self.now.text.now c.loop-place.place c.in-40.len_at_least (search rules) (search rules) c.in_ok-length-in-40.length (sym c.closing.ensures ∙ c.in_ok-length-in-40.ensures.ok_part)).0 in
    search rules

pub overflow_add-place-in-40-2 : goal.overflow_add-place-in-40-2
overflow_add-place-in-40-2 c =
    let b = (comment-closed c.args.self.now.text.now c.loop-place.place c.in-40.len_at_least (search rules) (search rules) c.in_ok-length-in-40.length (sym c.closing.ensures ∙ c.in_ok-length-in-40.ensures.ok_part)).0 in
    search rules

pub loop-place-preserved : goal.loop-place-preserved
loop-place-preserved c =
    let b = comment-closed c.args.self.now.text.now c.loop-place.place c.in-40.len_at_least (search rules) (search rules) c.in_ok-length-in-40.length (sym c.closing.ensures ∙ c.in_ok-length-in-40.ensures.ok_part) in
    (omega arith, b.0, sym b.1 ∙ c.loop-place.invariant.2)

pub returns-in_err-length-in-40-clause-is : goal.returns-in_err-length-in-40-clause-is
returns-in_err-length-in-40-clause-is c =
    let b = never-closed c.args.self.now.text.now c.loop-place.place c.in-40.len_at_least (search rules) (search rules) (sym c.closing.ensures ∙ c.in_err-length-in-40.ensures.ok_part) in
    let e = err_from_is_err_and c.from_residual.result c.from_residual.ensures.1 in
    rw (e.1, e.2) (c.in_err-length-in-40.ensures.value ∙ ap (λ o. ok_or o (Unclosed c.loop-place.place)) c.in_err-length-in-40.ensures.ok_part ∙ sym b ∙ c.loop-place.invariant.2)
