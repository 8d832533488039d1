-- How far a script was carried out, unless memory ran out.
use Rattle.std.specs.Prelude.{◌≡◌, Some, None, Ok, Err, Option, Result, ⊤}
use Rattle.script.specs.declared.fault.ScriptFault.{ScriptFault}
use Rattle.script.specs.declared.fault.Ending.{Ending}
use Rattle.script.specs.declared.fault.Ending.TheVariants.{Failed, Refused}
use Rattle.script.specs.declared.pending.Pending.{Pending}
use Rattle.script.specs.Course.{Course}

-- the code's answer to a word is a wanted one, and so is its course
abbrev pub Took : Result Pending Ending → Result Pending ScriptFault → Course → Course → Type 0
Took (Ok p) flow c want = (Ok p ≡ flow) × (c ≡ want)
Took (Err (Refused f)) flow c want = (Err f ≡ flow) × (c ≡ want)
Took (Err (Failed error)) flow c want = ⊤

-- a script ended by a wanted refusal or by none, and its course is as wanted
abbrev pub Ended : Result (Unit {0}) Ending → Option ScriptFault → Course → Course → Type 0
Ended (Ok x) refusal c want = (None ≡ refusal) × (c ≡ want)
Ended (Err (Refused f)) refusal c want = (Some f ≡ refusal) × (c ≡ want)
Ended (Err (Failed error)) refusal c want = ⊤
