-- A program that reading gives is whole: it names only what is there, ends with RET, and leaves the other records blank.
use Rattle.std.proofs.Common.{◌≡◌, ℕ, zero, suc, ◌+◌, ◌-◌, ◌<◌, Bool, true, false, cond, ltb, List, [], ◌∷◌, ◌++◌, length, get_or, take, drop, is_some, IfOk, Some, None, Ok, Err, Option, Result, sym, refl, ap, ◌∙◌, subst, ⊎_elim, arith}
use Rattle.std.proofs.lemmas.List.{length-take-le, length-append, get_or-take, get_or-drop, get_or_past, get_or-append_right, take_at}
use Rattle.std.proofs.lemmas.Bool.{cases_lt, and_parts}
use Rattle.syntax.specs.declared.record.Name.{Name}
use Rattle.syntax.specs.declared.record.Operation.{Operation}
use Rattle.syntax.specs.declared.record.Operation.TheVariants.{Return, Not, Label, Apply, Store, Jump}
use Rattle.syntax.specs.declared.record.Statement.{Statement}
use Rattle.syntax.specs.Records.{no_variable, no_statement}
use Rattle.reading.specs.declared.fault.ProgramFault.{ProgramFault}
use Rattle.reading.specs.declared.fault.ProgramFault.TheVariants.{NoReturn, TooLong}
use Rattle.reading.specs.Names.{label_name, same_as, has_name, found}
use Rattle.reading.specs.Drafts.{Draft, draft_of}
use Rattle.reading.specs.Reading.{onward, aimed, aimed_at, aimed_statement, aimed_all, label_in, is_return, ends_with_return, finished, taken, answered_by, reading, blank_draft}
use Rattle.reading.specs.Formed.{names_only, in_order, Whole, Returning, Filled}
use Rattle.reading.proofs.Aims.{aimed-label}
use Rattle.reading.proofs.Sound.{Sound, SoundAnswer, declared_only, sound-taken, sound-blank}

never : {X Y : Type 0} (f : ProgramFault) (x : X) → ◌≡◌ {A = Result X ProgramFault} (Err f) (Ok x) → Y
never f x e = absurd (let z : ◌≡◌ {A = ℕ} 0 1 = cc in omega arith)

-- the parts of an aimed list
parts : (r : Result Statement ProgramFault) (rs : Result (List Statement) ProgramFault) (us : List Statement) → onward r (λ t. onward rs (λ ts. Ok (t ∷ ts))) ≡ Ok us → (t : Statement) × (ts : List Statement) × (r ≡ Ok t) × (rs ≡ Ok ts) × (us ≡ t ∷ ts)
parts (Ok t) (Ok ts) us e = (t, ts, refl, refl, cc)
parts (Ok t) (Err f) us e = never f us e
parts (Err f) rs us e = never f us e

module _ (label : Name → Option ℕ) where
  pub aimed-length : (ss ts : List Statement) → aimed_all label ss ≡ Ok ts → length ts ≡ length ss
  aimed-length [] ts e = let nil : [] ≡ ts = cc in ap length (sym nil)
  aimed-length (s ∷ ss) us e =
      let p = parts (aimed_statement label s) (aimed_all label ss) us e in
      ap length p.4 ∙ ap suc (aimed-length ss p.1 p.3)

  pub aimed-each : (ss ts : List Statement) → aimed_all label ss ≡ Ok ts → (i : ℕ) → i < length ss → aimed_statement label (get_or ss i no_statement) ≡ Ok (get_or ts i no_statement)
  aimed-each [] ts e i l = absurd (omega arith)
  aimed-each (s ∷ ss) us e zero l = let p = parts (aimed_statement label s) (aimed_all label ss) us e in p.2 ∙ ap (λ l. Ok (get_or l 0 no_statement)) (sym p.4)
  aimed-each (s ∷ ss) us e (suc i) l =
      let p = parts (aimed_statement label s) (aimed_all label ss) us e in
      aimed-each ss p.1 p.3 i (omega arith) ∙ ap (λ l. Ok (get_or l (suc i) no_statement)) (sym p.4)

has_some : (text : List ℕ) (name : Name) (o : Option Name) → same_as text name o ≡ true → is_some o ≡ true
has_some text name None e = e
has_some text name (Some own) e = refl

-- a label that is found is one
found-label : (text : List ℕ) (name : Name) (k : ℕ) (ss : List Statement) (i : ℕ) → found label_name text name k ss ≡ Some i → (j : ℕ) × (i ≡ k + j) × (is_some (label_name (get_or ss j no_statement)) ≡ true)
found-label text name k [] i e = absurd (let z : ◌≡◌ {A = ℕ} 0 1 = cc in omega arith)
found-label text name k (s ∷ ss) i e = by (has_name label_name text name s) (has_some text name (label_name s)) (found-label text name (k + 1) ss i) e
  where
    by : (b : Bool) → (b ≡ true → is_some (label_name s) ≡ true) → (found label_name text name (k + 1) ss ≡ Some i → (j : ℕ) × (i ≡ k + 1 + j) × (is_some (label_name (get_or ss j no_statement)) ≡ true)) → cond b (Some k) (found label_name text name (k + 1) ss) ≡ Some i → (j : ℕ) × (i ≡ k + j) × (is_some (label_name (get_or (s ∷ ss) j no_statement)) ≡ true)
    by true here more e = (0, (let same : k ≡ i = cc in omega arith), here refl)
    by false here more e = let m = more e in (suc m.0, omega (arith, m.1), m.2)

module _ (text : List ℕ) (v : ℕ) (ss ts : List Statement) (e : aimed_all (label_in text ss) ss ≡ Ok ts) where
  labels-kept : (n : ℕ) → label_name (get_or ts n no_statement) ≡ label_name (get_or ss n no_statement)
  labels-kept n =
      ⊎_elim (λ l. aimed-label (label_in text ss) (get_or ss n no_statement) (get_or ts n no_statement) (aimed-each (label_in text ss) ss ts e n l))
      (λ l. ap label_name (get_or_past ts n no_statement (omega (arith, aimed-length (label_in text ss) ss ts e)) ∙ sym (get_or_past ss n no_statement l)))
      (cases_lt n (length ss))

  names-kept : (place : ℕ) (o : Operation) (t : Statement) → declared_only v o ≡ true → onward (aimed (label_in text ss) o) (λ o. Ok (record { operation = o; place = place })) ≡ Ok t → names_only v ts t.operation ≡ true
  names-kept place Return t d e = let is : Return ≡ t.operation = cc in subst (λ o. names_only v ts o ≡ true) is d
  names-kept place Not t d e = let is : Not ≡ t.operation = cc in subst (λ o. names_only v ts o ≡ true) is d
  names-kept place (Label name) t d e = let is : Label name ≡ t.operation = cc in subst (λ o. names_only v ts o ≡ true) is d
  names-kept place (Apply o x) t d e = let is : Apply o x ≡ t.operation = cc in subst (λ o. names_only v ts o ≡ true) is d
  names-kept place (Store s i) t d e = let is : Store s i ≡ t.operation = cc in subst (λ o. names_only v ts o ≡ true) is d
  names-kept place (Jump j target) t d e = by (label_in text ss target.name) (found-label text target.name 0 ss) e
    where
      by : (o : Option ℕ) → ((i : ℕ) → o ≡ Some i → (k : ℕ) × (i ≡ 0 + k) × (is_some (label_name (get_or ss k no_statement)) ≡ true)) → onward (aimed_at j target o) (λ o. Ok (record { operation = o; place = place })) ≡ Ok t → names_only v ts t.operation ≡ true
      by None h e = never _ t e
      by (Some i) h e =
          let is : Jump j (record { name = target.name; statement = i }) ≡ t.operation = cc in
          let k = h i refl in
          let same : k.0 ≡ i = omega (arith, k.1) in
          subst (λ o. names_only v ts o ≡ true) is (ap is_some (labels-kept i) ∙ ap (λ n. is_some (label_name (get_or ss n no_statement))) (sym same) ∙ k.2)

  pub whole-aimed : ((i : ℕ) → i < length ss → declared_only v (get_or ss i no_statement).operation ≡ true) → Whole v ts
  whole-aimed d i l =
      let long = aimed-length (label_in text ss) ss ts e in
      let lt : i < length ss = omega arith in
      names-kept (get_or ss i no_statement).place (get_or ss i no_statement).operation (get_or ts i no_statement) (d i lt) (aimed-each (label_in text ss) ss ts e i lt)

  return_kept : (place : ℕ) (o : Operation) (t : Statement) → is_return o ≡ true → onward (aimed (label_in text ss) o) (λ o. Ok (record { operation = o; place = place })) ≡ Ok t → is_return t.operation ≡ true
  return_kept place Return t d e = let is : Return ≡ t.operation = cc in ap is_return (sym is)
  return_kept place Not t d e = absurd (let z : ◌≡◌ {A = ℕ} 0 1 = cc in omega arith)
  return_kept place (Label name) t d e = absurd (let z : ◌≡◌ {A = ℕ} 0 1 = cc in omega arith)
  return_kept place (Apply o x) t d e = absurd (let z : ◌≡◌ {A = ℕ} 0 1 = cc in omega arith)
  return_kept place (Store s i) t d e = absurd (let z : ◌≡◌ {A = ℕ} 0 1 = cc in omega arith)
  return_kept place (Jump j target) t d e = absurd (let z : ◌≡◌ {A = ℕ} 0 1 = cc in omega arith)

  pub returning-aimed : ((i : ℕ) → i + 1 ≡ length ss → is_return (get_or ss i no_statement).operation ≡ true) → Returning ts
  returning-aimed d i l =
      let long = aimed-length (label_in text ss) ss ts e in
      let last : i + 1 ≡ length ss = omega arith in
      return_kept (get_or ss i no_statement).place (get_or ss i no_statement).operation (get_or ts i no_statement) (d i last) (aimed-each (label_in text ss) ss ts e i (omega arith))

-- the records that an answer leaves make a program
abbrev FilledBy : ℕ → ℕ → Result Draft ProgramFault → Type 0
FilledBy nv ns r = IfOk (answered_by nv ns r).answer (λ e. Filled e (answered_by nv ns r).variables (answered_by nv ns r).statements)

module _ (text : List ℕ) (nv ns : ℕ) (d : Draft) (s : Sound d) where
  abbrev n : ℕ
  n = d.progress.statements

  abbrev v : ℕ
  v = d.progress.variables

  abbrev used : List Statement
  used = take n d.statements

  used-long : length used ≡ n
  used-long = length-take-le n d.statements (omega (arith, s.statements-fit))

  abbrev with-statements : List Statement → Draft
  with-statements ts = draft_of d.progress d.variables (ts ++ drop n d.statements)

  declared-used : (i : ℕ) → i < length used → declared_only v (get_or used i no_statement).operation ≡ true
  declared-used i l = let lt : i < n = omega (arith, used-long) in subst (λ t. declared_only v t.operation ≡ true) (sym (get_or-take n d.statements i no_statement lt)) (s.operands i lt)

  last-used : ends_with_return n d.statements ≡ true → (i : ℕ) → i + 1 ≡ length used → is_return (get_or used i no_statement).operation ≡ true
  last-used e i l =
      let last : i ≡ n - 1 = omega (arith, used-long) in
      let lt : i < n = omega (arith, used-long) in
      subst (λ t. is_return t.operation ≡ true) (ap (λ k. get_or d.statements k no_statement) (sym last) ∙ sym (get_or-take n d.statements i no_statement lt)) (and_parts (ltb 0 n) (is_return (get_or d.statements (n - 1) no_statement).operation) e).1

  module _ (ts : List Statement) (e : aimed_all (label_in text used) used ≡ Ok ts) (r : ends_with_return n d.statements ≡ true) where
    long : length ts ≡ n
    long = aimed-length (label_in text used) used ts e ∙ used-long

    abbrev after : List Statement
    after = ts ++ drop n d.statements

    taken-again : take n after ≡ ts
    taken-again = take_at ts (drop n d.statements) n long

    vs-long : length (take v d.variables) ≡ v
    vs-long = length-take-le v d.variables (omega (arith, s.variables-fit))

    filled : Filled (record { variables = v; statements = n }) d.variables after
    filled = record {
      variables_there = omega (arith, s.variables-fit);
      statements_there = omega (arith, length-append ts (drop n d.statements), long);
      formed = record {
        few = omega (arith, vs-long, s.variables-fit);
        short = omega (arith, ap length taken-again, long, s.statements-fit);
        whole = subst (λ ts. Whole (length (take v d.variables)) ts) (sym taken-again) (subst (λ v. Whole v ts) (sym vs-long) (whole-aimed text v used ts e declared-used));
        returning = subst Returning (sym taken-again) (returning-aimed text v used ts e (last-used r));
        ordered = λ j l. let lt : j < v = omega (arith, vs-long) in subst (λ x. in_order x ≡ true) (sym (get_or-take v d.variables j no_variable lt)) (s.ordered j lt);
      };
      variables_rest = s.variables_rest;
      statements_rest = λ i l. let same : n + (i - n) ≡ i = omega arith in get_or-append_right ts (drop n d.statements) n i no_statement long l ∙ get_or-drop n d.statements (i - n) no_statement ∙ ap (λ k. get_or d.statements k no_statement) same ∙ s.statements_rest i l;
    }

  finished-filled : FilledBy nv ns (finished text d)
  finished-filled = by (ends_with_return n d.statements) (λ e. e) (aimed_all (label_in text used) used) (λ ts e. e)
    where
      by : (b : Bool) → (b ≡ true → ends_with_return n d.statements ≡ true) → (r : Result (List Statement) ProgramFault) → ((ts : List Statement) → r ≡ Ok ts → aimed_all (label_in text used) used ≡ Ok ts) → FilledBy nv ns (onward (cond b (onward r (λ ts. Ok (ts ++ drop n d.statements))) (Err (NoReturn (length text)))) (λ ss. Ok (draft_of d.progress d.variables ss)))
      by true ends (Ok ts) h = filled ts (h ts refl) (ends refl)
      by true ends (Err f) h = tt
      by false ends r h = tt

-- whatever text is read, the records in use make a program, and the others are blank
pub reading-filled : (text : List ℕ) (nv ns : ℕ) → IfOk (reading text nv ns).answer (λ e. Filled e (reading text nv ns).variables (reading text nv ns).statements)
reading-filled text nv ns = by (ltb 65535 (length text)) (taken text (blank_draft nv ns)) (sound-taken text (length text + 1) 0 (blank_draft nv ns) (sound-blank nv ns))
  where
    by : (b : Bool) (r : Result Draft ProgramFault) → SoundAnswer r → FilledBy nv ns (cond b (Err TooLong) (onward r (finished text)))
    by true r s = tt
    by false (Ok d) s = finished-filled text nv ns d s
    by false (Err f) s = tt
