-- One turn of giving jumps their targets: labels stay, and what is left gives the answer.
use Rattle.std.proofs.Common.{◌≡◌, ℕ, zero, suc, ◌+◌, ◌<◌, ◌≤◌, cond, List, [], ◌∷◌, ◌++◌, length, get_or, take, drop, set, Some, None, Ok, Err, Option, Result, sym, refl, ap, ◌∙◌, append_assoc, arith}
use Rattle.std.proofs.lemmas.List.{at_drop_more, at_drop_all, take_more_set, drop-set-lt, take_all, append-nil}
use Rattle.syntax.specs.declared.record.Name.{Name}
use Rattle.syntax.specs.declared.record.Operation.{Operation}
use Rattle.syntax.specs.declared.record.Operation.TheVariants.{Return, Not, Label, Apply, Store, Jump}
use Rattle.syntax.specs.declared.record.Statement.{Statement}
use Rattle.syntax.specs.Records.{no_statement}
use Rattle.reading.specs.declared.fault.ProgramFault.{ProgramFault}
use Rattle.reading.specs.Names.{label_name, label_of, same_as, found}
use Rattle.reading.specs.Reading.{onward, aimed, aimed_at, aimed_statement, aimed_all}

-- two ways to find labels that agree aim a statement alike
module _ (f g : Name → Option ℕ) (same : (name : Name) → f name ≡ g name) where
  aimed-alike : (o : Operation) → aimed f o ≡ aimed g o
  aimed-alike Return = refl
  aimed-alike Not = refl
  aimed-alike (Label name) = refl
  aimed-alike (Apply o x) = refl
  aimed-alike (Store s v) = refl
  aimed-alike (Jump j t) = ap (aimed_at j t) (same t.name)

  pub alike : (s : Statement) → aimed_statement f s ≡ aimed_statement g s
  alike s = ap (λ r. onward r (λ o. Ok (record { operation = o; place = s.place }))) (aimed-alike s.operation)

-- an aimed statement is the label that it was, if it was one
module _ (f : Name → Option ℕ) (place : ℕ) where
  abbrev at_place : Result Operation ProgramFault → Result Statement ProgramFault
  at_place r = onward r (λ o. Ok (record { operation = o; place = place }))

  operation-of : (o : Operation) (t : Statement) → at_place (Ok o) ≡ Ok t → t.operation ≡ o
  operation-of o t e = cc

  label-stays : (o : Operation) (t : Statement) → at_place (aimed f o) ≡ Ok t → label_name t ≡ label_of o
  label-stays Return t e = ap label_of (operation-of Return t e)
  label-stays Not t e = ap label_of (operation-of Not t e)
  label-stays (Label name) t e = ap label_of (operation-of (Label name) t e)
  label-stays (Apply o x) t e = ap label_of (operation-of (Apply o x) t e)
  label-stays (Store s v) t e = ap label_of (operation-of (Store s v) t e)
  label-stays (Jump j target) t e = by (f target.name) e
    where
      by : (found : Option ℕ) → at_place (aimed_at j target found) ≡ Ok t → label_name t ≡ None
      by None e = cc
      by (Some i) e = ap label_of (operation-of (Jump j (record { name = target.name; statement = i })) t e)

pub aimed-label : (f : Name → Option ℕ) (s t : Statement) → aimed_statement f s ≡ Ok t → label_name t ≡ label_name s
aimed-label f s t e = label-stays f s.place s.operation t e

-- a search is the same where a record is replaced by one of the same name
pub found-set : (text : List ℕ) (name : Name) (t : Statement) (k : ℕ) (ss : List Statement) (i : ℕ) → label_name t ≡ label_name (get_or ss i no_statement) → found label_name text name k (set ss i t) ≡ found label_name text name k ss
found-set text name t k [] i e = refl
found-set text name t k (s ∷ ss) zero e = ap (λ o. cond (same_as text name o) (Some k) (found label_name text name (k + 1) ss)) e
found-set text name t k (s ∷ ss) (suc i) e = ap (λ r. cond (same_as text name (label_name s)) (Some k) r) (found-set text name t (k + 1) ss i e)

-- the answer with what is done already in front
abbrev pub after : List Statement → Result (List Statement) ProgramFault → Result (List Statement) ProgramFault
after done r = onward r (λ ts. Ok (done ++ ts))

after_one : (done : List Statement) (t : Statement) (r : Result (List Statement) ProgramFault) → after done (onward r (λ ts. Ok (t ∷ ts))) ≡ after (done ++ t ∷ []) r
after_one done t (Ok ts) = ap Ok (sym (append_assoc done (t ∷ []) ts))
after_one done t (Err e) = refl

module _ (label : Name → Option ℕ) (ss : List Statement) (i : ℕ) (h : i < length ss) where
  abbrev here : Statement
  here = get_or ss i no_statement

  pub aims-fault : (f : ProgramFault) → aimed_statement label here ≡ Err f → after (take i ss) (aimed_all label (drop i ss)) ≡ Err f
  aims-fault f e = at_drop_more (λ l. after (take i ss) (aimed_all label l)) ss i no_statement h ∙ ap (λ r. after (take i ss) (onward r (λ t. onward (aimed_all label (drop (i + 1) ss)) (λ ts. Ok (t ∷ ts))))) e

  pub aims-more : (t : Statement) → aimed_statement label here ≡ Ok t → after (take i ss) (aimed_all label (drop i ss)) ≡ after (take (i + 1) (set ss i t)) (aimed_all label (drop (i + 1) (set ss i t)))
  aims-more t e =
      at_drop_more (λ l. after (take i ss) (aimed_all label l)) ss i no_statement h
      ∙ ap (λ r. after (take i ss) (onward r (λ t. onward (aimed_all label (drop (i + 1) ss)) (λ ts. Ok (t ∷ ts))))) e
      ∙ after_one (take i ss) t (aimed_all label (drop (i + 1) ss))
      ∙ ap (λ l. after l (aimed_all label (drop (i + 1) ss))) (sym (take_more_set ss i t h))
      ∙ ap (λ l. after (take (i + 1) (set ss i t)) (aimed_all label l)) (sym (drop-set-lt (i + 1) ss i t (omega arith)))

pub aims-all : (label : Name → Option ℕ) (ss : List Statement) (i : ℕ) → length ss ≤ i → after (take i ss) (aimed_all label (drop i ss)) ≡ Ok ss
aims-all label ss i h = at_drop_all (λ l. after (take i ss) (aimed_all label l)) ss i h ∙ ap Ok (append-nil (take i ss) ∙ take_all i ss h)
