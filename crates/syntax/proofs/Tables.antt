-- A name in two tables of words, one after the other.
use Rattle.std.proofs.Common.{◌≡◌, ℕ, Bool, true, false, cond, List, [], ◌∷◌, ◌++◌, Some, None, MatchOption, Option, refl, ap, ◌∙◌}
use Rattle.std.specs.Option.{option_or}
use Rattle.syntax.specs.declared.token.Token.{Token}
use Rattle.syntax.specs.Names.{same_name}
use Rattle.syntax.specs.Tokens.{among}

-- what the first table has, and else what the second has
among_both : (word : List ℕ) (ws vs : List (List ℕ × Token)) → among (ws ++ vs) word ≡ option_or (among ws word) (among vs word)
among_both word [] vs = refl
among_both word (w ∷ ws) vs = by (same_name word w.0) (among_both word ws vs)
  where
    by : (b : Bool) → among (ws ++ vs) word ≡ option_or (among ws word) (among vs word) → cond b (Some w.1) (among (ws ++ vs) word) ≡ option_or (cond b (Some w.1) (among ws word)) (among vs word)
    by true more = refl
    by false more = more

joined : (x y z : Option Token) → option_or x (option_or y z) ≡ option_or (option_or x y) z
joined None y z = refl
joined (Some t) y z = refl

-- the same of four tables
pub among_four : (word : List ℕ) (a b c d : List (List ℕ × Token)) → among (a ++ (b ++ (c ++ d))) word ≡ option_or (option_or (option_or (among a word) (among b word)) (among c word)) (among d word)
among_four word a b c d =
    among_both word a (b ++ (c ++ d)) ∙ ap (option_or (among a word)) (among_both word b (c ++ d)) ∙ joined (among a word) (among b word) (among (c ++ d) word)
    ∙ ap (option_or (option_or (among a word) (among b word))) (among_both word c d) ∙ joined (option_or (among a word) (among b word)) (among c word) (among d word)

-- an answer that is the first where there is one, and else the second
pub either : {P : Type 0} (first second answer : Option Token) → (P → answer ≡ second) → MatchOption first P (λ t. answer ≡ Some t) → answer ≡ option_or first second
either None second answer else h = else h
either (Some t) second answer else h = h
