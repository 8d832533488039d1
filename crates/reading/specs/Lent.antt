-- A draft over the caller's records as plain data, and what a change of it answers and leaves.
use Rattle.std.specs.Prelude.{◌≡◌, Ok, Err, Result}
use Rattle.reading.specs.declared.fault.ProgramFault.{ProgramFault}
use Rattle.reading.specs.declared.draft.Draft.{Draft as LentDraft}
use Rattle.reading.specs.Drafts.{Draft, draft_of}

abbrev pub draft : LentDraft → Draft
draft d = draft_of d.progress d.variables.now d.statements.now

-- what the code answers, beside its draft; what a refusal leaves is not told
abbrev pub drafted : {X : Type 0} → Result X ProgramFault → Draft → Result Draft ProgramFault
drafted (Ok x) d = Ok d
drafted (Err e) d = Err e

-- the code's answer and draft are those wanted, over the same text and the caller's same records
pub record Becomes (want : Result Draft ProgramFault) (r : Result (Unit {0}) ProgramFault) (old new : LentDraft) : Type 0 where
  pub is : drafted r (draft new) ≡ want
  pub text : new.text.now ≡ old.text.now
  pub variables : new.variables.ghost_name ≡ old.variables.ghost_name
  pub statements : new.statements.ghost_name ≡ old.statements.ghost_name
