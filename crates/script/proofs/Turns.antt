-- What one word more makes of a script.
use Rattle.std.proofs.Common.{◌≡◌, ℕ, zero, suc, ◌+◌, ◌≤◌, List, Some, None, Ok, Err, Option, sym, ap, ◌∙◌, arith}
use Rattle.domain.specs.Domain.{Ops}
use Rattle.cells.specs.declared.cell.Cell.{Cell}
use Rattle.words.specs.declared.word.WordFault.{WordFault}
use Rattle.words.specs.Words.{Lexeme, next_at}
use Rattle.program.specs.Model.{Code}
use Rattle.controller.specs.Machine.{code_of}
use Rattle.script.specs.declared.carrier.Carrier.{Carrier}
use Rattle.script.specs.declared.fault.Ending.{Ending}
use Rattle.script.specs.declared.fault.Ending.TheVariants.{Failed, Refused}
use Rattle.script.specs.declared.fault.ScriptFault.{ScriptFault}
use Rattle.script.specs.declared.fault.ScriptFault.TheVariants.{Word}
use Rattle.script.specs.declared.pending.Pending.{Pending}
use Rattle.script.specs.Words.{act_on}
use Rattle.script.specs.Script.{flow_of, flow_on, refusal_at, refusal_from}
use Rattle.script.specs.Course.{Course, closed, acted, onwards, course_at, course_from, Stays}
use Rattle.script.specs.Endings.{Took, Ended}

module _ {S : Type 0} (o : Ops S) (k l : Carrier S) (stays : Stays k l) (w : Pending) (c : Course) where
  pub closed-stays : closed o (code_of l.controller) l.cells.now w c ≡ closed o (code_of k.controller) k.cells.now w c
  closed-stays = ap (λ p. closed o p l.cells.now w c) stays.code ∙ ap (λ cells. closed o (code_of k.controller) cells w c) stays.cells

  pub acted-stays : (word : Lexeme) → acted o (code_of l.controller) l.cells.now w (act_on w word) c ≡ acted o (code_of k.controller) k.cells.now w (act_on w word) c
  acted-stays word = ap (λ p. acted o p l.cells.now w (act_on w word) c) stays.code ∙ ap (λ cells. acted o (code_of k.controller) cells w (act_on w word) c) stays.cells

module _ {S : Type 0} (o : Ops S) (p : Code) (cells : List (Cell S)) (text : List ℕ) (r : Option ScriptFault) (want : Course) where
  -- the next n words, from a place on, come to what the whole script comes to
  pub record Left (n q : ℕ) (w : Pending) (c : Course) : Type 0 where
    pub refusal : refusal_from n text q w ≡ r
    pub course : course_from o p cells n text q w c ≡ want

  module _ (q : ℕ) (w : Pending) (c : Course) where
    pub left-over : (n : ℕ) → Left n q w c → n ≤ 0 → (None ≡ r) × (closed o p cells w c ≡ want)
    unfolding refusal_from course_from
    left-over zero e h = (e.refusal, e.course)
    left-over (suc n) e h = absurd (omega arith)

    turn-refusal : (n k : ℕ) → n ≡ k + 1 → refusal_from n text q w ≡ r → refusal_at (next_at text q) w (refusal_from k text) ≡ r
    unfolding refusal_from
    turn-refusal zero k one e = absurd (omega arith)
    turn-refusal (suc n) k one e = let eq : k ≡ n = omega arith in ap (λ i. refusal_at (next_at text q) w (refusal_from i text)) eq ∙ e

    turn-course : (n k : ℕ) → n ≡ k + 1 → course_from o p cells n text q w c ≡ want → course_at o p cells (next_at text q) w c (course_from o p cells k text) ≡ want
    unfolding course_from
    turn-course zero k one e = absurd (omega arith)
    turn-course (suc n) k one e = let eq : k ≡ n = omega arith in ap (λ i. course_at o p cells (next_at text q) w c (course_from o p cells i text)) eq ∙ e

    module _ (n k : ℕ) (one : n ≡ k + 1) (e : Left n q w c) where
      pub left-ended : next_at text q ≡ Ok None → (None ≡ r) × (closed o p cells w c ≡ want)
      left-ended s = (
        sym (ap (λ x. refusal_at x w (refusal_from k text)) s) ∙ turn-refusal n k one e.refusal,
        sym (ap (λ x. course_at o p cells x w c (course_from o p cells k text)) s) ∙ turn-course n k one e.course,
      )

      pub left-unfit : (f : WordFault) → next_at text q ≡ Err f → (Some (Word f) ≡ r) × (c ≡ want)
      left-unfit f s = (
        sym (ap (λ x. refusal_at x w (refusal_from k text)) s) ∙ turn-refusal n k one e.refusal,
        sym (ap (λ x. course_at o p cells x w c (course_from o p cells k text)) s) ∙ turn-course n k one e.course,
      )

      module _ (place : ℕ) (word : Lexeme) (next : ℕ) (s : next_at text q ≡ Ok (Some (place, word, next))) (d a : Course) (same : a ≡ acted o p cells w (act_on w word) c) where
        refusal-next : flow_on (flow_of w place word) (refusal_from k text next) ≡ r
        refusal-next = sym (ap (λ x. refusal_at x w (refusal_from k text)) s) ∙ turn-refusal n k one e.refusal

        course-next : onwards o p cells (flow_of w place word) (acted o p cells w (act_on w word) c) (course_from o p cells k text next) ≡ want
        course-next = sym (ap (λ x. course_at o p cells x w c (course_from o p cells k text)) s) ∙ turn-course n k one e.course

        pub left-on : (b : Pending) → Took (Ok b) (flow_of w place word) d a → Left k next b d
        left-on b took = record {
          refusal = ap (λ f. flow_on f (refusal_from k text next)) took.0 ∙ refusal-next;
          course =
              ap (course_from o p cells k text next b) (took.1 ∙ same)
              ∙ ap (λ f. onwards o p cells f (acted o p cells w (act_on w word) c) (course_from o p cells k text next)) took.0 ∙ course-next;
        }

        pub left-stopped : (x : Ending) → Took (Err x) (flow_of w place word) d a → Ended (Err x) r d want
        left-stopped (Failed error) took = tt
        left-stopped (Refused f) took = (
          ap (λ f. flow_on f (refusal_from k text next)) took.0 ∙ refusal-next,
          took.1 ∙ same ∙ ap (λ f. onwards o p cells f (acted o p cells w (act_on w word) c) (course_from o p cells k text next)) took.0 ∙ course-next,
        )
