-- The next word of a text, and what it does at a stage.
use Rattle.std.specs.Prelude.{ℕ, cond, List, length, Some, None, Ok, Err, Option, Result}
use Rattle.words.specs.declared.word.WordFault.{WordFault}
use Rattle.words.specs.Words.{Lexeme, name, number, colon, semicolon, assign, next_at}
use Rattle.syntax.specs.declared.record.Name.{Name}
use Rattle.syntax.specs.declared.grammar.Stage.{Stage}
use Rattle.syntax.specs.declared.grammar.Step.{Step}
use Rattle.syntax.specs.Tokens.{token_of}
use Rattle.syntax.specs.Grammar.{followed, may_end}
use Rattle.reading.specs.declared.fault.StatementFault.{StatementFault}
use Rattle.reading.specs.declared.fault.StatementFault.TheVariants.{Word, Misfit}

-- how long a name is; other words have no name
abbrev pub spelled : Lexeme → ℕ
spelled (name bytes) = length bytes
spelled (number bytes) = 0
spelled colon = 0
spelled semicolon = 0
spelled assign = 0

-- a word with its place and length as a name, what it does, and the place after it; a word that does not fit is a fault
abbrev pub fitting : ℕ → Lexeme → ℕ → Option Step → Result (Option (Name × Step × ℕ)) StatementFault
fitting q w after None = Err (Misfit q)
fitting q w after (Some step) = Ok (Some (record { place = q; length = spelled w }, step, after))

-- where no word is left, the text has to be at a stage where it may end
abbrev pub step_from : Stage → ℕ → Result (Option (ℕ × Lexeme × ℕ)) WordFault → Result (Option (Name × Step × ℕ)) StatementFault
step_from stage end (Err e) = Err (Word e)
step_from stage end (Ok None) = cond (may_end stage) (Ok None) (Err (Misfit end))
step_from stage end (Ok (Some x)) = fitting x.0 x.1 x.2 (followed stage (token_of x.1))

-- what the next word from the place p on does; none at the end of the text
abbrev pub step_at : List ℕ → ℕ → Stage → Result (Option (Name × Step × ℕ)) StatementFault
step_at text p stage = step_from stage (length text) (next_at text p)

-- what the code answers, with the place that the reader then stands at
abbrev pub step_is : Result (Option (Name × Step)) StatementFault → ℕ → Result (Option (Name × Step × ℕ)) StatementFault
step_is (Ok None) after = Ok None
step_is (Ok (Some x)) after = Ok (Some (x.0, x.1, after))
step_is (Err e) after = Err e
