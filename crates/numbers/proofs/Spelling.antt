-- Bytes that are a word's, one by one.
use Rattle.std.proofs.Common.{◌≡◌, ℕ, ◌+◌, ◌<◌, List, [], ◌∷◌, length, get_or, drop, ap, ◌∙◌, arith}
use Rattle.std.proofs.lemmas.List.{drop_more, drop_all}

-- from the place i on, the bytes are those of a word, and end with it
abbrev pub SpellsFrom : List ℕ → ℕ → List ℕ → Type 0
SpellsFrom bytes i [] = length bytes ≡ i
SpellsFrom bytes i (b ∷ word) = (i < length bytes) × (get_or bytes i 0 ≡ b) × SpellsFrom bytes (i + 1) word

spells_from : (bytes : List ℕ) (i : ℕ) (word : List ℕ) → SpellsFrom bytes i word → drop i bytes ≡ word
spells_from bytes i [] h = drop_all i bytes (omega arith)
spells_from bytes i (b ∷ word) h = drop_more bytes i 0 h.0 ∙ ap (λ x. x ∷ drop (i + 1) bytes) h.1 ∙ ap (λ l. b ∷ l) (spells_from bytes (i + 1) word h.2)

-- bytes that spell a word are that word
pub spells : (bytes word : List ℕ) → SpellsFrom bytes 0 word → bytes ≡ word
spells bytes word h = spells_from bytes 0 word h
