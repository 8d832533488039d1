-- One turn over the words of a line.
use Rattle.std.proofs.Common.{◌≡◌, ℕ, ◌+◌, ◌<◌, ◌≤◌, List, length, get_or, drop, Ok, Err, string_bytes, String, sym, ap, ◌∙◌}
use Rattle.std.proofs.lemmas.List.{at_drop_more, at_drop_all}
use Rattle.std.specs.declared.alloc.Global.{Global}
use Rattle.options.specs.declared.request.WrongUse.{WrongUse}
use Rattle.options.specs.declared.request.Progress.{Progress}
use Rattle.options.specs.Line.{parsed_from, taken, go_on, finished}

module _ (words : List (String Global)) (i : ℕ) (p : Progress) where
  module _ (w : String Global) (h : i < length words) (is : w ≡ get_or words i w) where
    turn : parsed_from p (drop i words) ≡ go_on (taken p (string_bytes w)) (λ q. parsed_from q (drop (i + 1) words))
    turn = at_drop_more (parsed_from p) words i w h ∙ ap (λ v. go_on (taken p (string_bytes v)) (λ q. parsed_from q (drop (i + 1) words))) (sym is)

    pub word-taken : (q : Progress) → taken p (string_bytes w) ≡ Ok q → parsed_from p (drop i words) ≡ parsed_from q (drop (i + 1) words)
    word-taken q e = turn ∙ ap (λ r. go_on r (λ q. parsed_from q (drop (i + 1) words))) e

    pub word-refused : (f : WrongUse) → taken p (string_bytes w) ≡ Err f → parsed_from p (drop i words) ≡ Err f
    word-refused f e = turn ∙ ap (λ r. go_on r (λ q. parsed_from q (drop (i + 1) words))) e

  pub words-all : length words ≤ i → parsed_from p (drop i words) ≡ finished p
  words-all h = at_drop_all (parsed_from p) words i h
