use Rattle.std.proofs.Common.{◌≡◌, List, [], get_or, Ok, Err, Result, sym, refl, ◌∙◌, arith}
use Rattle.std.proofs.lemmas.Result.{err_from_is_err_and}
use Rattle.syntax.specs.declared.record.Statement.{Statement}
use Rattle.syntax.specs.Records.{no_statement}
use Rattle.reading.specs.declared.fault.ProgramFault.{ProgramFault}
use Rattle.reading.specs.Reading.{label_in}
use Rattle.reading.proofs.Aims.{after, alike, aimed-label, found-set, aims-fault, aims-more, aims-all}
use Rattle.reading.proofs.targets.aim_jumps.Goals as goal

start-whole : (r : Result (List Statement) ProgramFault) → after [] r ≡ r
start-whole (Ok ts) = refl
start-whole (Err e) = refl

pub loop-i-init : goal.loop-i-init
loop-i-init c = (λ name. refl, start-whole _)

pub returns-in_err-statement : goal.returns-in_err-statement
returns-in_err-statement c =
    let cur = c.loop-i.statements in
    let label = label_in c.args.text.now c.args.statements.now in
    let p = err_from_is_err_and c.from_residual.result c.from_residual.ensures.1 in
    let e = sym (alike (label_in c.args.text.now cur) label c.loop-i.invariant.0 (get_or cur c.loop-i.i no_statement)) ∙ sym c.in_err-statement.ensures in
    rw (p.1, p.2) (sym (aims-fault label cur c.loop-i.i (omega (arith, c.loop-i-test.true, c.loop-i.auto.statements)) c.in_err-statement.field-0.0 e) ∙ c.loop-i.invariant.1)

pub loop-i-preserved : goal.loop-i-preserved
loop-i-preserved c =
    let cur = c.loop-i.statements in
    let i = c.loop-i.i in
    let label = label_in c.args.text.now c.args.statements.now in
    let e = sym c.in_ok-statement.ensures in
    let t = c.in_ok-statement.statement in (
      λ name. found-set c.args.text.now name t 0 cur i (aimed-label (label_in c.args.text.now cur) (get_or cur i no_statement) t e) ∙ c.loop-i.invariant.0 name,
      sym (aims-more label cur i (omega (arith, c.loop-i-test.true, c.loop-i.auto.statements)) t (sym (alike (label_in c.args.text.now cur) label c.loop-i.invariant.0 (get_or cur i no_statement)) ∙ e)) ∙ c.loop-i.invariant.1,
    )

pub returns : goal.returns
returns c =
    sym (aims-all (label_in c.args.text.now c.args.statements.now) c.loop-i.statements c.loop-i.i (omega (arith, c.loop-i-test.false, c.loop-i.auto.statements))) ∙ c.loop-i.invariant.1
