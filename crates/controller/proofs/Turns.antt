-- One turn of the loops over the variables.
use Rattle.std.proofs.Common.{◌≡◌, ℕ, ◌+◌, ◌<◌, ◌≤◌, List, [], ◌∷◌, ◌++◌, length, get_or, take, drop, set, ℤ, pos, sym, refl, ap, ◌∙◌, inl, inr, arith}
use Rattle.std.proofs.lemmas.List.{drop_more, take_more_set, drop-set-lt, drop_all, take_all, append_assoc, set_past}
use Rattle.std.proofs.lemmas.Bool.{cases_lt}
use Rattle.syntax.specs.declared.record.Variable.{Variable}
use Rattle.syntax.specs.Records.{no_variable}
use Rattle.cells.specs.declared.value.Value.{Value}
use Rattle.cells.specs.declared.value.Value.TheVariants.{Unset}
use Rattle.cells.specs.Values.{value_of}
use Rattle.controller.specs.Lists.{is_input, one, entered, given, begun}

-- a value written at i, and what is to follow made of the values after it
written : (ws : List Value) (i : ℕ) (w : Value) (rest : List Value → List Value) → i < length ws → take (i + 1) (set ws i w) ++ rest (drop (i + 1) (set ws i w)) ≡ take i ws ++ (w ∷ rest (drop (i + 1) ws))
written ws i w rest h =
    ap (λ (l : List Value). l ++ rest (drop (i + 1) (set ws i w))) (take_more_set ws i w h)
    ∙ ap (λ (l : List Value). (take i ws ++ (w ∷ [])) ++ rest l) (drop-set-lt (i + 1) ws i w (omega arith))
    ∙ append_assoc (take i ws) (w ∷ []) (rest (drop (i + 1) ws))

-- a value written past the last, which changes nothing
unwritten : (ws : List Value) (i : ℕ) (w : Value) (rest all : List Value → List Value) → length ws ≤ i → rest [] ≡ all [] → take (i + 1) (set ws i w) ++ rest (drop (i + 1) (set ws i w)) ≡ take i ws ++ all (drop i ws)
unwritten ws i w rest all h e =
    ap (λ (l : List Value). take (i + 1) l ++ rest (drop (i + 1) l)) (set_past ws i w h)
    ∙ ap (λ (l : List Value). l ++ rest (drop (i + 1) ws)) (take_all (i + 1) ws (omega arith))
    ∙ ap (λ (l : List Value). ws ++ rest l) (drop_all (i + 1) ws (omega arith))
    ∙ ap (λ (l : List Value). ws ++ l) e
    ∙ ap (λ (l : List Value). ws ++ all l) (sym (drop_all i ws h))
    ∙ ap (λ (l : List Value). l ++ all (drop i ws)) (sym (take_all i ws h))

begun-none : (vs : List Variable) → begun vs [] ≡ []
begun-none [] = refl
begun-none (v ∷ vs) = refl

given-none : (xs : List ℤ) (p : ℕ) (vs : List Variable) → given xs p vs [] ≡ []
given-none xs p [] = refl
given-none xs p (v ∷ vs) = refl

module _ (vs : List Variable) (ws : List Value) (i : ℕ) (h : i < length vs) (new : List Value) (w : Value) (n : new ≡ set ws i w) where
  begun-within : i < length ws → take i ws ++ (value_of (get_or vs i no_variable).declaration.initial ∷ begun (drop (i + 1) vs) (drop (i + 1) ws)) ≡ take i ws ++ begun (drop i vs) (drop i ws)
  begun-within k =
      sym (ap (λ (l : List Variable). take i ws ++ begun l (drop i ws)) (drop_more vs i no_variable h)
      ∙ ap (λ (l : List Value). take i ws ++ begun (get_or vs i no_variable ∷ drop (i + 1) vs) l) (drop_more ws i Unset k))

  pub begun-turn : w ≡ value_of (get_or vs i no_variable).declaration.initial → take (i + 1) new ++ begun (drop (i + 1) vs) (drop (i + 1) new) ≡ take i ws ++ begun (drop i vs) (drop i ws)
  begun-turn e =
      ap (λ (l : List Value). take (i + 1) l ++ begun (drop (i + 1) vs) (drop (i + 1) l)) n
      ∙ (elim (cases_lt i (length ws)) [
        | inl k ↦
            written ws i w (begun (drop (i + 1) vs)) k
            ∙ ap (λ (x : Value). take i ws ++ (x ∷ begun (drop (i + 1) vs) (drop (i + 1) ws))) e
            ∙ begun-within k
        | inr k ↦ unwritten ws i w (begun (drop (i + 1) vs)) (begun (drop i vs)) k (begun-none (drop (i + 1) vs) ∙ sym (begun-none (drop i vs)))
      ])

  module _ (xs : List ℤ) (p q : ℕ) (m : q ≡ p + one (is_input (get_or vs i no_variable).declaration.class)) where
    given-within : i < length ws → take i ws ++ (entered (get_or vs i no_variable) (get_or xs p (pos 0)) (get_or ws i Unset) ∷ given xs (p + one (is_input (get_or vs i no_variable).declaration.class)) (drop (i + 1) vs) (drop (i + 1) ws)) ≡ take i ws ++ given xs p (drop i vs) (drop i ws)
    given-within k =
        sym (ap (λ (l : List Variable). take i ws ++ given xs p l (drop i ws)) (drop_more vs i no_variable h)
        ∙ ap (λ (l : List Value). take i ws ++ given xs p (get_or vs i no_variable ∷ drop (i + 1) vs) l) (drop_more ws i Unset k))

    pub given-turn : w ≡ entered (get_or vs i no_variable) (get_or xs p (pos 0)) (get_or ws i Unset) → take (i + 1) new ++ given xs q (drop (i + 1) vs) (drop (i + 1) new) ≡ take i ws ++ given xs p (drop i vs) (drop i ws)
    given-turn e =
        ap (λ (l : List Value). take (i + 1) l ++ given xs q (drop (i + 1) vs) (drop (i + 1) l)) n
        ∙ (elim (cases_lt i (length ws)) [
          | inl k ↦
              written ws i w (given xs q (drop (i + 1) vs)) k
              ∙ ap (λ (x : Value). take i ws ++ (x ∷ given xs q (drop (i + 1) vs) (drop (i + 1) ws))) e
              ∙ ap (λ (j : ℕ). take i ws ++ (entered (get_or vs i no_variable) (get_or xs p (pos 0)) (get_or ws i Unset) ∷ given xs j (drop (i + 1) vs) (drop (i + 1) ws))) m
              ∙ given-within k
          | inr k ↦ unwritten ws i w (given xs q (drop (i + 1) vs)) (given xs p (drop i vs)) k (given-none xs q (drop (i + 1) vs) ∙ sym (given-none xs p (drop i vs)))
        ])
