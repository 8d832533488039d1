use Rattle.std.proofs.Common.{List, length, IfOk, Result, sym, subst}
use Rattle.syntax.specs.declared.record.Variable.{Variable}
use Rattle.syntax.specs.declared.record.Statement.{Statement}
use Rattle.reading.specs.declared.fault.ProgramFault.{ProgramFault}
use Rattle.reading.specs.declared.draft.Extent.{Extent}
use Rattle.reading.specs.Reading.{Reading, ReadAs}
use Rattle.reading.specs.FirstFault.{FirstFault}
use Rattle.reading.specs.Formed.{Filled}
use Rattle.reading.proofs.Firsts.{reading-first}
use Rattle.reading.proofs.Whole.{reading-filled}
use Rattle.reading.proofs.fill.fill.Goals as goal

as_read : (w : Reading) (r : Result Extent ProgramFault) (vs : List Variable) (ss : List Statement) → ReadAs w r vs ss → IfOk w.answer (λ e. Filled e w.variables w.statements) → IfOk r (λ e. Filled e vs ss)
as_read w r vs ss a f =
    subst (λ r. IfOk r (λ e. Filled e vs ss)) (sym a.answer) (subst (λ vs. IfOk w.answer (λ e. Filled e vs ss)) (sym a.variables) (subst (λ ss. IfOk w.answer (λ e. Filled e w.variables ss)) (sym a.statements) f))

pub returns : goal.returns
returns c = record {
  is = c.fill_any.ensures.is;
  first_fault = subst (FirstFault c.args.text.now (length c.args.variables.now) (length c.args.statements.now)) (sym c.fill_any.ensures.is.answer) (reading-first c.args.text.now (length c.args.variables.now) (length c.args.statements.now));
  filled = as_read _ c.fill_any.result c.fill_any.new.variables c.fill_any.new.statements c.fill_any.ensures.is (reading-filled c.args.text.now (length c.args.variables.now) (length c.args.statements.now));
}
