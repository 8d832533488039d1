use Rattle.std.proofs.Common.{◌≡◌, ◌-◌, length}
use Rattle.controller.specs.Machine.{code_of}
use Rattle.script.specs.declared.pending.Pending.TheVariants.{Ranges}
use Rattle.script.specs.Script.{script_refusal}
use Rattle.script.specs.Course.{course_from, course_of, Stays}
use Rattle.script.proofs.Turns.{Left}
use Rattle.script.proofs.carrier.Carrier.take_words.Given as goal

abbrev pub invariant-loop-word : goal.invariant-loop-word
invariant-loop-word g l =
    let o = g.D.Domain.ops in
    let first = l.initial.self in
    record {
      text : l.reader.text.now ≡ l.text;
      left : Left o (code_of first.controller) first.cells.now l.text (script_refusal l.text) (course_from o (code_of first.controller) first.cells.now (length l.text) l.text 0 Ranges (course_of first)) (length l.text - l._word) l.reader.place l.pending (course_of l.self);
      stays : Stays first l.self;
    }
