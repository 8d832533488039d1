-- Which refusal a job ends with, unless it failed.
use Rattle.std.specs.Prelude.{◌≡◌, Some, None, Ok, Err, Option, Result, ⊤}
use Rattle.std.specs.Borrow.{MutBor}
use Rattle.std.specs.Fn.{Once, FnOnceReturnsAtMut}
use Rattle.program.specs.declared.lent.Program.{Program}
use Rattle.program.specs.Model.{Memory, memory}
use Rattle.commands.specs.declared.answer.Answer.{Answer}
use Rattle.commands.specs.declared.fault.JobFault.{JobFault}
use Rattle.commands.specs.declared.fault.Stop.{Stop}
use Rattle.commands.specs.declared.fault.Stop.TheVariants.{Failed, Refused}

-- the refusal that a step of a job comes to
abbrev pub fault_of : {T : Type 0} → Result T JobFault → Option JobFault
fault_of (Ok x) = None
fault_of (Err f) = Some f

abbrev pub Ends : {E : Type 0} → Result Answer (Stop E) → Option JobFault → Type 0
Ends (Ok a) refusal = a.refusal ≡ refusal
Ends (Err (Refused f)) refusal = Some f ≡ refusal
Ends (Err (Failed e)) refusal = ⊤

-- each call of a job ends by the refusal that a definition gives for the program's memory
abbrev pub EndsBy : {F E : Type 0} → Once F (MutBor Program × Unit {0}) (Result Answer (Stop E) × (MutBor Program × Unit {0})) → F → (Memory → Option JobFault) → Type 0
EndsBy {E = E} g f want = (p p' : Program) (r : Result Answer (Stop E)) → FnOnceReturnsAtMut g f p r p' → Ends r (want (memory p))
