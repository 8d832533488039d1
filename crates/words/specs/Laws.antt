-- What a user can say of the next word: blanks, the word and the rest of the text, joined, are what was left, and no longer front is a word.
use Rattle.std.specs.Prelude.{◌≡◌, ℕ, ◌+◌, ◌<◌, ◌≤◌, true, false, ◌⊎◌, List, [], ◌∷◌, ◌++◌, length, drop, Some, None, Ok, Err, Option, Result, ◌≢◌, slice_index}
use Rattle.std.specs.List.{AllByRecursion}
use Rattle.std.specs.Char.{is_ascii_digit}
use Rattle.numbers.specs.Int.{is_int}
use Rattle.numbers.specs.Number.{written}
use Rattle.words.specs.declared.word.WordFault.{WordFault}
use Rattle.words.specs.declared.word.WordFault.TheVariants.{Stray, Unclosed, OutsideInt}
use Rattle.words.specs.Bytes.{blank, begins_name, in_name, opens}
use Rattle.words.specs.Words.{Lexeme, name, number, colon, semicolon, assign, next_at}

-- `*)` (42 and 41) stands nowhere in these bytes
abbrev pub NeverCloses : List ℕ → Type 0
NeverCloses bytes = (front back : List ℕ) → bytes ≢ front ++ 42 ∷ 41 ∷ back

-- nothing; or a blank byte and then blanks; or a comment, from `(*` (40 and 42) up to the first `*)` behind it, and then blanks
pub data Blanks : List ℕ → Type 0 where
  nothing : Blanks []
  byte : {b : ℕ} {rest : List ℕ} → blank b ≡ true → Blanks rest → Blanks (b ∷ rest)
  comment : {inner rest : List ℕ} → NeverCloses inner → Blanks rest → Blanks (40 ∷ 42 ∷ (inner ++ 42 ∷ 41 ∷ rest))

-- a letter or an underscore, and then letters, digits and underscores
abbrev pub IsName : List ℕ → Type 0
IsName [] = ⊥
IsName (b ∷ rest) = (begins_name b ≡ true) × AllByRecursion (λ c. in_name c ≡ true) rest

-- digits, at least one
abbrev pub IsDigits : List ℕ → Type 0
IsDigits [] = ⊥
IsDigits (b ∷ rest) = (is_ascii_digit b ≡ true) × AllByRecursion (λ c. is_ascii_digit c ≡ true) rest

-- digits, or a minus (45) and digits
abbrev pub IsNumber : List ℕ → Type 0
IsNumber bytes = IsDigits bytes ⊎ ((digits : List ℕ) × (bytes ≡ 45 ∷ digits) × IsDigits digits)

-- which bytes are which word; a number is one whatever its value
abbrev pub IsWord : Lexeme → List ℕ → Type 0
IsWord (name w) bytes = (w ≡ bytes) × IsName bytes
IsWord (number w) bytes = (w ≡ bytes) × IsNumber bytes
IsWord colon bytes = bytes ≡ 58 ∷ []
IsWord semicolon bytes = bytes ≡ 59 ∷ []
IsWord assign bytes = bytes ≡ 58 ∷ 61 ∷ []

-- no front of what is left that is a word, of any kind, has more than n bytes
abbrev pub NoneLonger : ℕ → List ℕ → Type 0
NoneLonger n left = (lexeme : Lexeme) (front back : List ℕ) → left ≡ front ++ back → IsWord lexeme front → length front ≤ n

-- from the old place on, blanks up to the place p
pub record Reached (text : List ℕ) (old p : ℕ) : Type 0 where
  pub gap : List ℕ
  pub blanks : Blanks gap
  pub joined : drop old text ≡ gap ++ drop p text
  pub begins : p ≡ old + length gap

-- from the old place on, blanks, and at the place p a word as long as it can be, with the new place behind it
pub record Found (text : List ℕ) (old p : ℕ) (lexeme : Lexeme) (new : ℕ) : Type 0 where
  pub gap : List ℕ
  pub bytes : List ℕ
  pub blanks : Blanks gap
  pub word : IsWord lexeme bytes
  pub joined : drop old text ≡ gap ++ (bytes ++ drop new text)
  pub begins : p ≡ old + length gap
  pub ends : new ≡ p + length bytes
  pub longest : NoneLonger (length bytes) (drop p text)

-- the byte at p is no blank, and begins neither a comment nor a word
pub record BeginsNothing (text : List ℕ) (p : ℕ) : Type 0 where
  pub there : p < length text
  pub no_blank : blank (slice_index text p) ≡ false
  pub no_comment : opens (slice_index text p) (slice_index text (p + 1)) ≡ false
  pub no_word : (lexeme : Lexeme) (front back : List ℕ) → drop p text ≡ front ++ back → IsWord lexeme front → ⊥

-- a comment begins at p, and is never closed
abbrev pub NeverEnds : List ℕ → ℕ → Type 0
NeverEnds text p = (inner : List ℕ) × (drop p text ≡ 40 ∷ 42 ∷ inner) × NeverCloses inner

-- a number's value lies inside INT
abbrev pub Inside : Lexeme → Type 0
Inside (name w) = Unit {0}
Inside (number w) = is_int (written w) ≡ true
Inside colon = Unit {0}
Inside semicolon = Unit {0}
Inside assign = Unit {0}

-- what each answer says of the text from the old place on
unfoldable pub Lawful : List ℕ → ℕ → Result (Option (ℕ × Lexeme × ℕ)) WordFault → Type 0
Lawful text old (Ok None) = Blanks (drop old text)
Lawful text old (Ok (Some x)) = Found text old x.0 x.1 x.2 × Inside x.1
Lawful text old (Err (Stray p)) = Reached text old p × BeginsNothing text p
Lawful text old (Err (Unclosed p)) = Reached text old p × NeverEnds text p
Lawful text old (Err (OutsideInt p)) = (w : List ℕ) × (new : ℕ) × Found text old p (number w) new × (is_int (written w) ≡ false)

-- no other answer keeps these laws
unfoldable pub Only : List ℕ → ℕ → Result (Option (ℕ × Lexeme × ℕ)) WordFault → Type 0
Only text old answer = (other : Result (Option (ℕ × Lexeme × ℕ)) WordFault) → Lawful text old other → other ≡ answer

-- the next word of every text keeps these laws
abbrev pub KeepsLaws : Type 0
KeepsLaws = (text : List ℕ) (old : ℕ) (answer : Result (Option (ℕ × Lexeme × ℕ)) WordFault) → answer ≡ next_at text old → Lawful text old answer

-- it alone keeps them
abbrev pub KeepsThemAlone : Type 0
KeepsThemAlone = (text : List ℕ) (old : ℕ) (answer : Result (Option (ℕ × Lexeme × ℕ)) WordFault) → answer ≡ next_at text old → Only text old answer
