-- How a script goes: the controller and the text after each word, and the lines that it comes to.
use Rattle.std.specs.Prelude.{◌≡◌, ℕ, zero, suc, List, [], ◌∷◌, ◌++◌, length, ℤ, Some, None, Ok, Err, codes, decimal, Option, Result, vec_items, string_bytes}
use Rattle.domain.specs.Domain.{Ops}
use Rattle.cells.specs.declared.cell.Cell.{Cell}
use Rattle.words.specs.declared.word.WordFault.{WordFault}
use Rattle.words.specs.Words.{Lexeme, next_at}
use Rattle.program.specs.Model.{Code}
use Rattle.controller.specs.Lists.{output_count}
use Rattle.controller.specs.Tallies.{Tally, none}
use Rattle.controller.specs.Machine.{Machine, machine, code_of, fresh}
use Rattle.script.specs.declared.carrier.Carrier.{Carrier}
use Rattle.script.specs.declared.pending.Pending.{Pending}
use Rattle.script.specs.declared.pending.Pending.TheVariants.{Ranges}
use Rattle.script.specs.declared.pending.Act.{Act}
use Rattle.script.specs.declared.pending.Act.TheVariants.{Pass, Number, Call, Unknown}
use Rattle.script.specs.declared.fault.ScriptFault.{ScriptFault}
use Rattle.script.specs.Faults.{script_number, script_place}
use Rattle.script.specs.Lines.{refusal_text}
use Rattle.script.specs.Words.{act_on}
use Rattle.script.specs.Carried.{pending_told, text_after, machine_after, order_text, order_machine}
use Rattle.script.specs.Script.{flow_of, script_refusal}

-- what the words so far have come to: the inputs of the call that waits, the controller and the lines
pub record Course : Type 0 where
  pub numbers : List ℤ
  pub machine : Machine
  pub text : List ℕ

abbrev pub course : List ℤ → Machine → List ℕ → Course
course xs m t = record { numbers = xs; machine = m; text = t }

-- the line of the counts
abbrev pub tally_text : ℕ → ℕ → ℕ → List ℕ
tally_text steps outside unmarked = codes "steps " ++ (decimal steps ++ (codes " outside " ++ (decimal outside ++ (codes " unmarked " ++ (decimal unmarked ++ codes "\n")))))

abbrev pub counts_text : Tally → List ℕ
counts_text t = tally_text t.steps t.outside t.unmarked

-- the last line: the refusal that ended the script, or the counts
abbrev pub last_text : Tally → Option ScriptFault → List ℕ
last_text t (Some f) = refusal_text (script_number f) (script_place f)
last_text t None = counts_text t

module _ {S : Type 0} (o : Ops S) (p : Code) (cells : List (Cell S)) where
  -- a start or a scan whose list has ended
  abbrev pub closed : Pending → Course → Course
  closed w c = course c.numbers (machine_after c.machine (pending_told o p cells w c.numbers c.machine)) (text_after c.text (pending_told o p cells w c.numbers c.machine))

  -- a call that is carried out at its name
  abbrev pub ordered : Act → Course → Course
  ordered (Call a) c = course [] (order_machine o p cells a c.machine) (order_text o p cells (output_count p.variables) a c.machine c.text)
  ordered Pass c = c
  ordered (Number n) c = c
  ordered Unknown c = c

  -- what a word does; a name first closes the list before it
  abbrev pub acted : Pending → Option Act → Course → Course
  acted w None c = c
  acted w (Some Pass) c = c
  acted w (Some (Number n)) c = course (c.numbers ++ n ∷ []) c.machine c.text
  acted w (Some (Call a)) c = ordered (Call a) (closed w c)
  acted w (Some Unknown) c = closed w c

  abbrev pub onwards : Result Pending ScriptFault → Course → (Pending → Course → Course) → Course
  onwards (Ok w) c next = next w c
  onwards (Err f) c next = c

  abbrev pub course_at : Result (Option (ℕ × Lexeme × ℕ)) WordFault → Pending → Course → (ℕ → Pending → Course → Course) → Course
  course_at (Err e) w c next = c
  course_at (Ok None) w c next = closed w c
  course_at (Ok (Some x)) w c next = onwards (flow_of w x.0 x.1) (acted w (act_on w x.1) c) (next x.2)

  -- what the first n words from a place on come to
  unfoldable pub course_from : ℕ → List ℕ → ℕ → Pending → Course → Course
  course_from zero text q w c = closed w c
  course_from (suc n) text q w c = course_at (next_at text q) w c (course_from n text)

  -- what a script comes to, for a new controller; a text has no more words than bytes
  abbrev pub script_course : List ℕ → Course
  script_course text = course_from (length text) text 0 Ranges (course [] (fresh p none) [])

  -- the lines of a script
  abbrev pub script_text : List ℕ → List ℕ
  script_text text = (script_course text).text ++ last_text (script_course text).machine.counts (script_refusal text)

-- what a carrier has come to
abbrev pub course_of : {S : Type 0} → Carrier S → Course
course_of k = course (vec_items k.numbers) (machine k.controller) (string_bytes k.output)

-- a carrier keeps its program and its table
pub record Stays {S : Type 0} (k k' : Carrier S) : Type 0 where
  pub code : code_of k'.controller ≡ code_of k.controller
  pub cells : k'.cells.now ≡ k.cells.now
