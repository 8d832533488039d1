-- The fault that reading tells is the first that the text has; a text that is read has none.
use Rattle.std.proofs.Common.{◌≡◌, ℕ, zero, suc, ◌<◌, ◌≤◌, Bool, true, false, cond, ltb, List, [], ◌∷◌, ◌++◌, length, get_or, drop, IfErr, Some, None, Ok, Err, Option, Result, sym, refl, ap, ◌∙◌, subst, inl, inr, ⊎_elim, arith, MatchResult}
use Rattle.std.proofs.lemmas.Bool.{ltb-true, ltb-false, cases_lt, cond-true, true≢false}
use Rattle.syntax.specs.declared.operator.Jump.{Jump as JumpOperator}
use Rattle.syntax.specs.declared.record.Name.{Name}
use Rattle.syntax.specs.declared.record.Target.{Target}
use Rattle.syntax.specs.declared.record.Operation.{Operation}
use Rattle.syntax.specs.declared.record.Operation.TheVariants.{Return, Not, Label, Apply, Store, Jump}
use Rattle.syntax.specs.declared.record.Statement.{Statement}
use Rattle.syntax.specs.Records.{no_statement}
use Rattle.reading.specs.declared.fault.ProgramFault.{ProgramFault}
use Rattle.reading.specs.declared.fault.ProgramFault.TheVariants as program
use Rattle.reading.specs.Faults.{program_number, program_place}
use Rattle.reading.specs.Drafts.{Draft, draft_of, statements_in}
use Rattle.reading.specs.Statements.{step_from}
use Rattle.reading.specs.Reading.{onward, taken, blank_draft, ends_with_return, aimed, aimed_at, aimed_statement, aimed_all, label_in, finished, answered_by, reading}
use Rattle.reading.specs.FirstFault.{Begins, Stops, Makes, HasFault, too_long, at_word, no_return, no_label, NotBehind, First, FirstFault}
use Rattle.reading.proofs.Turns.{ended}
use Rattle.reading.proofs.Words.{begins-left, Answered, stops-answered, Stopped, words-come}
use Rattle.reading.proofs.Whole.{aimed-each}

apart : {X : Type 0} (f : ProgramFault) (e : Draft) → ◌≡◌ {A = Result Draft ProgramFault} (Err f) (Ok e) → X
apart f e i = absurd (let z : ◌≡◌ {A = ℕ} 0 1 = cc in omega arith)

contrary : {X : Type 0} (b : Bool) → b ≡ true → b ≡ false → X
contrary b t f = absurd (true≢false (sym t ∙ f))

-- the jump whose label the first refusal misses
pub record Unaimed (label : Name → Option ℕ) (ss : List Statement) (f : ProgramFault) : Type 0 where
  pub index : ℕ
  pub there : index < length ss
  pub jump : JumpOperator
  pub target : Target
  pub is : (get_or ss index no_statement).operation ≡ Jump jump target
  pub none : label target.name ≡ None
  pub fault : f ≡ program.NoLabel target.name.place
  pub before : (i : ℕ) → i < index → (j : JumpOperator) (t : Target) → (get_or ss i no_statement).operation ≡ Jump j t → label t.name ≡ None → ⊥

-- an aimed operation in its statement
abbrev at_place : ℕ → Result Operation ProgramFault → Result Statement ProgramFault
at_place place r = onward r (λ o. Ok (record { operation = o; place = place }))

module _ (label : Name → Option ℕ) where
  abbrev Aims : List Statement → Result (List Statement) ProgramFault → Type 0
  Aims ss r = IfErr r (Unaimed label ss)

  -- an operation that cannot be aimed is a jump with no label
  unaimed-one : (place : ℕ) (o : Operation) (f : ProgramFault) → at_place place (aimed label o) ≡ Err f → (j : JumpOperator) × (t : Target) × (o ≡ Jump j t) × (label t.name ≡ None) × (f ≡ program.NoLabel t.name.place)
  unaimed-one place Return f e = absurd (let z : ◌≡◌ {A = ℕ} 0 1 = cc in omega arith)
  unaimed-one place Not f e = absurd (let z : ◌≡◌ {A = ℕ} 0 1 = cc in omega arith)
  unaimed-one place (Label name) f e = absurd (let z : ◌≡◌ {A = ℕ} 0 1 = cc in omega arith)
  unaimed-one place (Apply o x) f e = absurd (let z : ◌≡◌ {A = ℕ} 0 1 = cc in omega arith)
  unaimed-one place (Store s i) f e = absurd (let z : ◌≡◌ {A = ℕ} 0 1 = cc in omega arith)
  unaimed-one place (Jump j t) f e = by (label t.name) refl e
    where
      by : (o : Option ℕ) → label t.name ≡ o → at_place place (aimed_at j t o) ≡ Err f → (j' : JumpOperator) × (t' : Target) × (Jump j t ≡ Jump j' t') × (label t'.name ≡ None) × (f ≡ program.NoLabel t'.name.place)
      by None i e = (j, t, refl, i, cc)
      by (Some k) i e = absurd (let z : ◌≡◌ {A = ℕ} 0 1 = cc in omega arith)

  -- one that is aimed is no such jump
  aimed-one : (place : ℕ) (o : Operation) (u : Statement) → at_place place (aimed label o) ≡ Ok u → (j : JumpOperator) (t : Target) → o ≡ Jump j t → label t.name ≡ None → ⊥
  aimed-one place o u e j t i none =
      let a : at_place place (aimed label o) ≡ Err (program.NoLabel t.name.place) = ap (λ o. at_place place (aimed label o)) i ∙ ap (λ r. at_place place (aimed_at j t r)) none in
      let z : ◌≡◌ {A = ℕ} 0 1 = cc in
      omega arith

  aims-first : (s : Statement) (ss : List Statement) → Aims ss (aimed_all label ss) → Aims (s ∷ ss) (aimed_all label (s ∷ ss))
  aims-first s ss more = by (aimed_statement label s) refl (aimed_all label ss) more
    where
      by : (r : Result Statement ProgramFault) → aimed_statement label s ≡ r → (rs : Result (List Statement) ProgramFault) → Aims ss rs → Aims (s ∷ ss) (onward r (λ t. onward rs (λ ts. Ok (t ∷ ts))))
      by (Ok u) e (Ok us) more = tt
      by (Ok u) e (Err f) more = record {
        index = suc more.index;
        there = omega (arith, more.there);
        jump = more.jump;
        target = more.target;
        is = more.is;
        none = more.none;
        fault = more.fault;
        before = earlier;
      }
        where
          earlier : (i : ℕ) → i < suc more.index → (j : JumpOperator) (t : Target) → (get_or (s ∷ ss) i no_statement).operation ≡ Jump j t → label t.name ≡ None → ⊥
          earlier zero l j t o none = aimed-one s.place s.operation u e j t o none
          earlier (suc i) l j t o none = more.before i (omega arith) j t o none
      by (Err f) e rs more =
          let x = unaimed-one s.place s.operation f e in
          record { index = 0; there = omega arith; jump = x.0; target = x.1; is = x.2; none = x.3; fault = x.4; before = λ i l. absurd (omega arith) }

  pub aims-come : (ss : List Statement) → Aims ss (aimed_all label ss)
  aims-come [] = tt
  aims-come (s ∷ ss) = aims-first s ss (aims-come ss)

same-draft : (d e : Draft) → ◌≡◌ {A = Result Draft ProgramFault} (Ok d) (Ok e) → d ≡ e
same-draft d e i = cc

module _ (text : List ℕ) (nv ns : ℕ) where
  abbrev words : Result Draft ProgramFault
  words = taken text (blank_draft nv ns)

  -- the draft that a whole text makes is the one that its words come to
  makes-is : (d : Draft) → Makes text nv ns d → words ≡ Ok d
  makes-is d m = sym (ended (begins-left text nv ns m.last d m.begins) (ap (step_from d.progress.stage (length text)) m.no_more ∙ cond-true _ _ _ m.ends))

  stops-are : (p : ℕ) (d : Draft) (n q : ℕ) → Begins text nv ns p d → Stops text p d n q → Answered n q words
  stops-are p d n q b s = stops-answered (begins-left text nv ns p d b) n q s

  -- a text that is too long
  long-first : 65535 < length text → First text nv ns program.TooLong
  long-first h = record { pass = 0; point = 0; there = too_long refl refl refl refl h; least = least }
    where
      least : (pass point n q : ℕ) → HasFault text nv ns pass point n q → NotBehind 0 0 1 pass point n
      least pass point n q (too_long a b c e l) = inr (sym a, inr (sym b, omega arith))
      least pass point n q (at_word a b p d x s) = inl (omega arith)
      least pass point n q (no_return a b c e d m r) = inl (omega arith)
      least pass point n q (no_label a c d m r j t l o none e) = inl (omega arith)

  module _ (short : length text ≤ 65535) where
    -- a text that stops at a word
    word_first : (f : ProgramFault) → words ≡ Err f → Stopped text nv ns f → First text nv ns f
    word_first f is st = record { pass = 1; point = program_place f; there = at_word refl refl st.last st.draft st.begins st.stops; least = least }
      where
        least : (pass point n q : ℕ) → HasFault text nv ns pass point n q → NotBehind 1 (program_place f) (program_number f) pass point n
        least pass point n q (too_long a b c e l) = absurd (omega arith)
        least pass point n q (at_word a b p d x s) =
            let w = stops-are p d n q x s in
            let g = w.fault in
            let same : f ≡ g = let both : Err f ≡ Err g = sym is ∙ w.is in cc in
            let place : program_place f ≡ q = ap program_place same ∙ w.place in
            let number : program_number f ≡ program_number g = ap program_number same in
            inr (sym a, inr (place ∙ sym b, omega (arith, w.number, number)))
        least pass point n q (no_return a b c e d m r) = inl (omega arith)
        least pass point n q (no_label a c d m r j t l o none e) = inl (omega arith)

    -- a text whose words all fit
    module _ (d : Draft) (is : words ≡ Ok d) (m : Makes text nv ns d) where
      abbrev used : List Statement
      used = statements_in d

      abbrev label : Name → Option ℕ
      label = label_in text used

      one-draft : (e : Draft) → Makes text nv ns e → e ≡ d
      one-draft e k = same-draft e d (sym (makes-is e k) ∙ is)

      no_stop : {X : Type 0} (p : ℕ) (e : Draft) (n q : ℕ) → Begins text nv ns p e → Stops text p e n q → X
      no_stop p e n q b s = let w = stops-are p e n q b s in apart w.fault d (sym w.is ∙ is)

      return-first : ends_with_return d.progress.statements d.statements ≡ false → First text nv ns (program.NoReturn (length text))
      return-first r = record { pass = 2; point = 0; there = no_return refl refl refl refl d m r; least = least }
        where
          least : (pass point n q : ℕ) → HasFault text nv ns pass point n q → NotBehind 2 0 11 pass point n
          least pass point n q (too_long a b c e l) = absurd (omega arith)
          least pass point n q (at_word a b p e x s) = no_stop p e n q x s
          least pass point n q (no_return a b c e f k s) = inr (sym a, inr (sym b, omega arith))
          least pass point n q (no_label a c e k s j t l o none p) = inl (omega arith)

      module _ (r : ends_with_return d.progress.statements d.statements ≡ true) where
        -- a missing label, among the statements of this draft
        missing : (e : Draft) → Makes text nv ns e → (i : ℕ) (j : JumpOperator) (t : Target) → i < length (statements_in e) → (get_or (statements_in e) i no_statement).operation ≡ Jump j t → label_in text (statements_in e) t.name ≡ None → (i < length used) × ((get_or used i no_statement).operation ≡ Jump j t) × (label t.name ≡ None)
        missing e k i j t l o none = subst (λ x. (i < length (statements_in x)) × ((get_or (statements_in x) i no_statement).operation ≡ Jump j t) × (label_in text (statements_in x) t.name ≡ None)) (one-draft e k) (l, o, none)

        label-first : (f : ProgramFault) → Unaimed label used f → First text nv ns f
        label-first f u = record { pass = 3; point = u.index; there = there; least = least }
          where
            there : HasFault text nv ns 3 u.index (program_number f) (program_place f)
            there = no_label refl (ap program_number u.fault) d m r u.jump u.target u.there u.is u.none (ap program_place u.fault)

            least : (pass point n q : ℕ) → HasFault text nv ns pass point n q → NotBehind 3 u.index (program_number f) pass point n
            least pass point n q (too_long a b c e l) = absurd (omega arith)
            least pass point n q (at_word a b p e x s) = no_stop p e n q x s
            least pass point n q (no_return a b c e k y s) = contrary (ends_with_return d.progress.statements d.statements) r (subst (λ x. ends_with_return x.progress.statements x.statements ≡ false) (one-draft k y) s)
            least pass point n q (no_label a c e k s j t l o none p) =
                let x = missing e k point j t l o none in
                ⊎_elim (λ lt. absurd (u.before point lt j t x.1 x.2))
                (λ le. inr (sym a, ⊎_elim (λ lt. inl lt) (λ ge. inr (let same : u.index ≡ point = omega arith in same, omega (arith, ap program_number u.fault))) (cases_lt u.index point)))
                (cases_lt point u.index)

        no-fault : (ts : List Statement) → aimed_all label used ≡ Ok ts → (pass point n q : ℕ) → HasFault text nv ns pass point n q → ⊥
        no-fault ts e pass point n q (too_long a b c f l) = omega arith
        no-fault ts e pass point n q (at_word a b p f x s) = no_stop p f n q x s
        no-fault ts e pass point n q (no_return a b c f k y s) = contrary (ends_with_return d.progress.statements d.statements) r (subst (λ x. ends_with_return x.progress.statements x.statements ≡ false) (one-draft k y) s)
        no-fault ts e pass point n q (no_label a c f k s j t l o none p) =
            let x = missing f k point j t l o none in
            aimed-one label (get_or used point no_statement).place (get_or used point no_statement).operation (get_or ts point no_statement) (aimed-each label used ts e point x.0) j t x.1 x.2

      abbrev Told : Result Draft ProgramFault → Type 0
      Told x = FirstFault text nv ns (answered_by nv ns x).answer

      finished-first : Told (finished text d)
      finished-first = by (ends_with_return d.progress.statements d.statements) refl (aimed_all label used) refl (aims-come label used)
        where
          by : (b : Bool) → ends_with_return d.progress.statements d.statements ≡ b → (x : Result (List Statement) ProgramFault) → aimed_all label used ≡ x → IfErr x (Unaimed label used) → Told (onward (cond b (onward x (λ ts. Ok (ts ++ drop d.progress.statements d.statements))) (Err (program.NoReturn (length text)))) (λ ss. Ok (draft_of d.progress d.variables ss)))
          by true r (Ok ts) e u = no-fault r ts e
          by true r (Err f) e u = label-first r f u
          by false r x e u = return-first r

-- what is told of every text
pub reading-first : (text : List ℕ) (nv ns : ℕ) → FirstFault text nv ns (reading text nv ns).answer
reading-first text nv ns = by (ltb 65535 (length text)) refl (taken text (blank_draft nv ns)) refl (words-come text nv ns)
  where
    by : (b : Bool) → ltb 65535 (length text) ≡ b → (x : Result Draft ProgramFault) → taken text (blank_draft nv ns) ≡ x → MatchResult x (Makes text nv ns) (Stopped text nv ns) → FirstFault text nv ns (answered_by nv ns (cond b (Err program.TooLong) (onward x (finished text)))).answer
    by true l x is c = long-first text nv ns (ltb-true 65535 (length text) l)
    by false l (Ok d) is m = finished-first text nv ns (ltb-false 65535 (length text) l) d is m
    by false l (Err f) is s = word_first text nv ns (ltb-false 65535 (length text) l) f is s
