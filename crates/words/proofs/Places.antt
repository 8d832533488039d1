-- Where the next word begins and ends, and which bytes of the text it has.
use Rattle.std.proofs.Common.{◌≡◌, ℕ, ◌-◌, ◌<◌, ◌≤◌, List, ◌++◌, length, take, drop, Some, Ok, sym, ap, ◌∙◌, subst, arith}
use Rattle.std.specs.List.{between}
use Rattle.std.proofs.lemmas.List.Prefix.{front_rest}
use Rattle.std.proofs.lemmas.List.{drop-drop, take_at, length-append, length-drop}
use Rattle.words.specs.Words.{Lexeme, name, number, next_at}
use Rattle.words.specs.Laws.{Found, Inside, Lawful}
use Rattle.words.proofs.Lawful.{lawful}
use Rattle.words.proofs.Longest.{some_byte}

module _ (text : List ℕ) (p q : ℕ) (w : Lexeme) (e : ℕ) where
  -- what a found word's place tells
  module _ (f : Found text p q w e) where
    pub at_place : drop q text ≡ f.bytes ++ drop e text
    at_place = sym (sym (front_rest (drop p text) f.gap (f.bytes ++ drop e text) f.joined) ∙ drop-drop (length f.gap) p text ∙ ap (λ n. drop n text) (sym f.begins))

    pub order : (p ≤ q) × (q < e) × (e ≤ length text)
    order =
        let some = some_byte w f.bytes f.word in
        (omega arith, omega arith, omega (arith, ap length at_place, length-append f.bytes (drop e text), length-drop q text, length-drop e text))

    bytes-between : f.bytes ≡ between q e text
    bytes-between = sym (ap (take (e - q)) at_place ∙ take_at f.bytes (drop e text) (e - q) (omega arith))

  pub found : next_at text p ≡ Ok (Some (q, w, e)) → Found text p q w e × Inside w
  unfolding Lawful
  found i = subst (Lawful text p) i (lawful text p)

  -- the next word stands at the old place or behind it, has a byte, and ends inside the text
  pub in_order : next_at text p ≡ Ok (Some (q, w, e)) → (p ≤ q) × (q < e) × (e ≤ length text)
  in_order i = order (found i).0

-- a name's bytes, and how many they are
pub name-bytes : (text : List ℕ) (p q : ℕ) (w : List ℕ) (e : ℕ) → next_at text p ≡ Ok (Some (q, name w, e)) → (w ≡ between q e text) × (length w ≡ e - q)
name-bytes text p q w e i =
    let f = (found text p q (name w) e i).0 in
    (f.word.0 ∙ bytes-between text p q (name w) e f, omega (arith, ap length f.word.0))

-- a number's bytes, and how many they are
pub number-bytes : (text : List ℕ) (p q : ℕ) (w : List ℕ) (e : ℕ) → next_at text p ≡ Ok (Some (q, number w, e)) → (w ≡ between q e text) × (length w ≡ e - q)
number-bytes text p q w e i =
    let f = (found text p q (number w) e i).0 in
    (f.word.0 ∙ bytes-between text p q (number w) e f, omega (arith, ap length f.word.0))
