-- Which refusal ends a script, by its words alone.
use Rattle.std.specs.Prelude.{ℕ, zero, suc, List, length, Some, None, Ok, Err, Option, Result}
use Rattle.words.specs.declared.word.WordFault.{WordFault}
use Rattle.words.specs.Words.{Lexeme, next_at}
use Rattle.script.specs.declared.pending.Pending.{Pending}
use Rattle.script.specs.declared.pending.Pending.TheVariants.{Ranges}
use Rattle.script.specs.declared.pending.Act.{Act}
use Rattle.script.specs.declared.pending.Act.TheVariants.{Pass, Number, Call, Unknown}
use Rattle.script.specs.declared.fault.ScriptFault.{ScriptFault}
use Rattle.script.specs.declared.fault.ScriptFault.TheVariants.{Word, Misfit}
use Rattle.script.specs.Words.{act_on, pending_after}

abbrev pub flow_by : Pending → ℕ → Option Act → Result Pending ScriptFault
flow_by p place None = Err (Misfit place)
flow_by p place (Some Unknown) = Err (Misfit place)
flow_by p place (Some Pass) = Ok p
flow_by p place (Some (Number n)) = Ok p
flow_by p place (Some (Call order)) = Ok (pending_after order)

-- whether a script goes on after a word: a word that does not fit, or a name that is no call, ends it
abbrev pub flow_of : Pending → ℕ → Lexeme → Result Pending ScriptFault
flow_of p place word = flow_by p place (act_on p word)

abbrev pub flow_on : Result Pending ScriptFault → (Pending → Option ScriptFault) → Option ScriptFault
flow_on (Ok p) next = next p
flow_on (Err f) next = Some f

abbrev pub refusal_at : Result (Option (ℕ × Lexeme × ℕ)) WordFault → Pending → (ℕ → Pending → Option ScriptFault) → Option ScriptFault
refusal_at (Err e) p next = Some (Word e)
refusal_at (Ok None) p next = None
refusal_at (Ok (Some x)) p next = flow_on (flow_of p x.0 x.1) (next x.2)

-- the refusal that ends the first n words from a place on
unfoldable pub refusal_from : ℕ → List ℕ → ℕ → Pending → Option ScriptFault
refusal_from zero text q p = None
refusal_from (suc n) text q p = refusal_at (next_at text q) p (refusal_from n text)

-- the refusal that ends a script; a text has no more words than bytes
abbrev pub script_refusal : List ℕ → Option ScriptFault
script_refusal text = refusal_from (length text) text 0 Ranges
