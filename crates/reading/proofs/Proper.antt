-- The constants that reading meets are truths and INTs.
use Rattle.std.proofs.Common.{◌≡◌, ℕ, Bool, true, false, cond, ◌&&◌, List, [], ◌∷◌, length, ℤ, pos, Some, None, Ok, Err, Option, Result, unwrap_or, refl}
use Rattle.std.proofs.lemmas.Bool.{and_parts}
use Rattle.numbers.specs.Int.{is_int}
use Rattle.numbers.specs.Number.{written}
use Rattle.words.specs.declared.word.WordFault.{WordFault}
use Rattle.words.specs.Words.{Lexeme, name, number, colon, semicolon, assign, next_at}
use Rattle.syntax.specs.declared.record.Constant.{Constant}
use Rattle.syntax.specs.declared.record.Constant.TheVariants.{Bool as bool, Int}
use Rattle.syntax.specs.declared.record.Kind.{Kind as KindOf}
use Rattle.syntax.specs.declared.record.Kind.TheVariants as k
use Rattle.syntax.specs.declared.record.Declaration.{Declaration}
use Rattle.syntax.specs.declared.record.Name.{Name}
use Rattle.syntax.specs.declared.token.Token.{Token}
use Rattle.syntax.specs.declared.token.Token.TheVariants as t
use Rattle.syntax.specs.declared.grammar.Stage.{Stage}
use Rattle.syntax.specs.declared.grammar.Stage.TheVariants.{Blocks, Block, VariableColon, Kind, AfterKind, Initial, Semicolon, Body, LabelColon, Value, Storage, Destination}
use Rattle.syntax.specs.declared.grammar.Step.{Step}
use Rattle.syntax.specs.declared.grammar.Step.TheVariants.{Enter, Declare, Keep, Begin, Label, Complete, Use, Change, Aim}
use Rattle.syntax.specs.Records.{unwritten}
use Rattle.syntax.specs.Names.{same_name}
use Rattle.syntax.specs.Tokens.{among, reserved_words, token_of}
use Rattle.syntax.specs.Grammar.{begun, followed, may_end}
use Rattle.reading.specs.declared.fault.StatementFault.{StatementFault}
use Rattle.reading.specs.declared.fault.StatementFault.TheVariants.{Misfit}
use Rattle.reading.specs.Statements.{fitting, step_from, step_at}
use Rattle.reading.specs.Formed.{is_proper}
use Rattle.reading.proofs.Sorts.{by_token}

-- a word that is a constant is a proper one
abbrev proper_token : Token → Bool
proper_token t.Name = true
proper_token (t.Constant k) = is_proper k
proper_token (t.Sign g) = true
proper_token (t.Block b) = true
proper_token t.EndBlock = true
proper_token (t.Kind k) = true
proper_token (t.Command c) = true

-- the initial value in hand is proper
abbrev pub ProperStage : Stage → Type 0
ProperStage Blocks = Unit {0}
ProperStage (Block class) = Unit {0}
ProperStage (VariableColon class n) = Unit {0}
ProperStage (Kind class n) = Unit {0}
ProperStage (AfterKind x) = is_proper x.initial ≡ true
ProperStage (Initial x) = is_proper x.initial ≡ true
ProperStage (Semicolon x) = is_proper x.initial ≡ true
ProperStage Body = Unit {0}
ProperStage LabelColon = Unit {0}
ProperStage (Value o p) = Unit {0}
ProperStage (Storage s p) = Unit {0}
ProperStage (Destination j p) = Unit {0}

-- and so are the constants of what a word does
abbrev pub ProperStep : Step → Type 0
ProperStep (Enter stage) = ProperStage stage
ProperStep (Declare class) = Unit {0}
ProperStep (Keep x) = is_proper x.initial ≡ true
ProperStep (Begin command) = Unit {0}
ProperStep Label = Unit {0}
ProperStep (Complete o k p) = is_proper k ≡ true
ProperStep (Use o p) = Unit {0}
ProperStep (Change s p) = Unit {0}
ProperStep (Aim j p) = Unit {0}

abbrev pub ProperFit : Result (Option (Name × Step × ℕ)) StatementFault → Type 0
ProperFit (Err e) = Unit {0}
ProperFit (Ok None) = Unit {0}
ProperFit (Ok (Some x)) = ProperStep x.1

abbrev ProperFollow : Option Step → Type 0
ProperFollow None = Unit {0}
ProperFollow (Some step) = ProperStep step

-- the words of a table are proper
abbrev proper_table : List (List ℕ × Token) → Bool
proper_table [] = true
proper_table (w ∷ ws) = proper_token w.1 && proper_table ws

proper-among : (ws : List (List ℕ × Token)) (bytes : List ℕ) → proper_table ws ≡ true → proper_token (unwrap_or (among ws bytes) t.Name) ≡ true
proper-among [] bytes e = refl
proper-among (w ∷ ws) bytes e = by (same_name bytes w.0) (proper-among ws bytes (and_parts (proper_token w.1) (proper_table ws) e).1)
  where
    by : (b : Bool) → proper_token (unwrap_or (among ws bytes) t.Name) ≡ true → proper_token (unwrap_or (cond b (Some w.1) (among ws bytes)) t.Name) ≡ true
    by true more = (and_parts (proper_token w.1) (proper_table ws) e).0
    by false more = more

proper-number : (z : ℤ) → is_int (unwrap_or (cond (is_int z) (Some z) None) (pos 0)) ≡ true
proper-number z = by (is_int z) refl
  where
    by : (b : Bool) → is_int z ≡ b → is_int (unwrap_or (cond b (Some z) None) (pos 0)) ≡ true
    by true e = e
    by false e = refl

proper-token : (w : Lexeme) → proper_token (token_of w) ≡ true
proper-token (name bytes) = proper-among reserved_words bytes refl
proper-token (number bytes) = proper-number (written bytes)
proper-token colon = refl
proper-token semicolon = refl
proper-token assign = refl

proper-initial : (x : Declaration) (a k : Constant) → is_proper k ≡ true → ProperFollow (begun x a k)
proper-initial x (bool a) (bool b) e = refl
proper-initial x (bool a) (Int n) e = tt
proper-initial x (Int m) (bool b) e = tt
proper-initial x (Int m) (Int n) e = e

abbrev Proper : Stage → Token → Type 0
Proper stage token = proper_token token ≡ true → ProperFollow (followed stage token)

proper-kind : (k : KindOf) → is_proper (unwritten k) ≡ true
proper-kind k.Bool = refl
proper-kind k.Int = refl

proper-followed : (stage : Stage) → ProperStage stage → (token : Token) → Proper stage token
proper-followed Blocks s = by_token (Proper Blocks) (λ _. tt) (λ k _. tt) (λ _. tt) (λ _. tt) (λ _. tt) (λ b _. tt) (λ _. tt) (λ k _. tt) (λ c _. tt)
proper-followed (Block class) s = by_token (Proper (Block class)) (λ _. tt) (λ k _. tt) (λ _. tt) (λ _. tt) (λ _. tt) (λ b _. tt) (λ _. tt) (λ k _. tt) (λ c _. tt)
proper-followed (VariableColon class n) s = by_token (Proper (VariableColon class n)) (λ _. tt) (λ k _. tt) (λ _. tt) (λ _. tt) (λ _. tt) (λ b _. tt) (λ _. tt) (λ k _. tt) (λ c _. tt)
proper-followed (Kind class n) s = by_token (Proper (Kind class n)) (λ _. tt) (λ k _. tt) (λ _. tt) (λ _. tt) (λ _. tt) (λ b _. tt) (λ _. tt) (λ k _. proper-kind k) (λ c _. tt)
proper-followed (AfterKind x) s = by_token (Proper (AfterKind x)) (λ _. tt) (λ k _. tt) (λ _. tt) (λ _. s) (λ _. s) (λ b _. tt) (λ _. tt) (λ k _. tt) (λ c _. tt)
proper-followed (Initial x) s = by_token (Proper (Initial x)) (λ _. tt) (λ k e. proper-initial x x.initial k e) (λ _. tt) (λ _. tt) (λ _. tt) (λ b _. tt) (λ _. tt) (λ k _. tt) (λ c _. tt)
proper-followed (Semicolon x) s = by_token (Proper (Semicolon x)) (λ _. tt) (λ k _. tt) (λ _. tt) (λ _. s) (λ _. tt) (λ b _. tt) (λ _. tt) (λ k _. tt) (λ c _. tt)
proper-followed Body s = by_token (Proper Body) (λ _. tt) (λ k _. tt) (λ _. tt) (λ _. tt) (λ _. tt) (λ b _. tt) (λ _. tt) (λ k _. tt) (λ c _. tt)
proper-followed LabelColon s = by_token (Proper LabelColon) (λ _. tt) (λ k _. tt) (λ _. tt) (λ _. tt) (λ _. tt) (λ b _. tt) (λ _. tt) (λ k _. tt) (λ c _. tt)
proper-followed (Value o p) s = by_token (Proper (Value o p)) (λ _. tt) (λ k e. e) (λ _. tt) (λ _. tt) (λ _. tt) (λ b _. tt) (λ _. tt) (λ k _. tt) (λ c _. tt)
proper-followed (Storage o p) s = by_token (Proper (Storage o p)) (λ _. tt) (λ k _. tt) (λ _. tt) (λ _. tt) (λ _. tt) (λ b _. tt) (λ _. tt) (λ k _. tt) (λ c _. tt)
proper-followed (Destination j p) s = by_token (Proper (Destination j p)) (λ _. tt) (λ k _. tt) (λ _. tt) (λ _. tt) (λ _. tt) (λ b _. tt) (λ _. tt) (λ k _. tt) (λ c _. tt)

-- what the next word does has proper constants
pub proper-step : (text : List ℕ) (p : ℕ) (stage : Stage) → ProperStage stage → ProperFit (step_at text p stage)
proper-step text p stage s = by (next_at text p)
  where
    fit : (q : ℕ) (w : Lexeme) (after : ℕ) (o : Option Step) → ProperFollow o → ProperFit (fitting q w after o)
    fit q w after None e = tt
    fit q w after (Some step) e = e

    ending : (b : Bool) → ProperFit (cond b (Ok None) (Err (Misfit (length text))))
    ending true = tt
    ending false = tt

    by : (r : Result (Option (ℕ × Lexeme × ℕ)) WordFault) → ProperFit (step_from stage (length text) r)
    by (Err e) = tt
    by (Ok None) = ending (may_end stage)
    by (Ok (Some x)) = fit x.0 x.1 x.2 (followed stage (token_of x.1)) (proper-followed stage s (token_of x.1) (proper-token x.1))
