-- What a program has in use makes a program; nothing at all does.
use Rattle.std.proofs.Common.{List, [], Ok, Err, Result, refl, arith}
use Rattle.std.specs.Result.{ForOk}
use Rattle.syntax.specs.declared.record.Variable.{Variable}
use Rattle.syntax.specs.declared.record.Statement.{Statement}
use Rattle.reading.specs.declared.fault.ProgramFault.{ProgramFault}
use Rattle.reading.specs.declared.draft.Extent.{Extent}
use Rattle.reading.specs.Formed.{Formed, Filled}
use Rattle.program.specs.Model.{extent_in, InUse}

formed-none : Formed [] []
formed-none = record {
  few = omega arith;
  short = omega arith;
  whole = λ i l. absurd (omega arith);
  returning = λ i l. absurd (omega arith);
  ordered = λ j l. absurd (omega arith);
}

pub in-use : (r : Result Extent ProgramFault) (vs : List Variable) (ss : List Statement) → ForOk r (λ e. Filled e vs ss) → InUse (extent_in r) vs ss
in-use (Ok e) vs ss f = let filled = f e refl in record { variables_there = filled.variables_there; statements_there = filled.statements_there; formed = filled.formed }
in-use (Err e) vs ss f = record { variables_there = omega arith; statements_there = omega arith; formed = formed-none }
