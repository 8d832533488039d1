-- The words as the grammar sees them: which names are reserved, and what each stands for.
use Rattle.std.specs.Prelude.{ℕ, true, false, cond, List, [], ◌∷◌, ◌++◌, pos, Some, None, codes, Option}
use Rattle.std.specs.Option.{unwrap_or}
use Rattle.numbers.specs.Number.{int_of}
use Rattle.words.specs.Words.{Lexeme, name, number, colon, semicolon, assign}
use Rattle.syntax.specs.declared.operator.Operator.TheVariants as o
use Rattle.syntax.specs.declared.operator.Store.TheVariants as s
use Rattle.syntax.specs.declared.operator.Jump.TheVariants as j
use Rattle.syntax.specs.declared.operator.Command.TheVariants as c
use Rattle.syntax.specs.declared.record.Class.TheVariants as l
use Rattle.syntax.specs.declared.record.Kind.TheVariants as k
use Rattle.syntax.specs.declared.record.Constant.TheVariants.{Bool, Int}
use Rattle.syntax.specs.declared.token.Sign.TheVariants as g
use Rattle.syntax.specs.declared.token.Token.{Token}
use Rattle.syntax.specs.declared.token.Token.TheVariants as t
use Rattle.syntax.specs.Names.{same_name}

-- the operators that load or work on truths
abbrev pub logic_words : List (List ℕ × Token)
logic_words =
    (codes "LD", t.Command (c.Apply o.Ld)) ∷
    (codes "LDN", t.Command (c.Apply o.Ldn)) ∷
    (codes "AND", t.Command (c.Apply o.And)) ∷
    (codes "ANDN", t.Command (c.Apply o.Andn)) ∷
    (codes "OR", t.Command (c.Apply o.Or)) ∷
    (codes "ORN", t.Command (c.Apply o.Orn)) ∷
    (codes "XOR", t.Command (c.Apply o.Xor)) ∷
    (codes "XORN", t.Command (c.Apply o.Xorn)) ∷
    (codes "NOT", t.Command c.Not) ∷
    []

-- the operators that calculate or compare
abbrev pub arithmetic_words : List (List ℕ × Token)
arithmetic_words =
    (codes "ADD", t.Command (c.Apply o.Add)) ∷
    (codes "SUB", t.Command (c.Apply o.Sub)) ∷
    (codes "MUL", t.Command (c.Apply o.Mul)) ∷
    (codes "DIV", t.Command (c.Apply o.Div)) ∷
    (codes "GT", t.Command (c.Apply o.Gt)) ∷
    (codes "GE", t.Command (c.Apply o.Ge)) ∷
    (codes "LT", t.Command (c.Apply o.Lt)) ∷
    (codes "LE", t.Command (c.Apply o.Le)) ∷
    (codes "EQ", t.Command (c.Apply o.Eq)) ∷
    (codes "NE", t.Command (c.Apply o.Ne)) ∷
    []

-- the operators that store, jump or return
abbrev pub control_words : List (List ℕ × Token)
control_words =
    (codes "ST", t.Command (c.Store s.St)) ∷
    (codes "STN", t.Command (c.Store s.Stn)) ∷
    (codes "S", t.Command (c.Store s.Set)) ∷
    (codes "R", t.Command (c.Store s.Reset)) ∷
    (codes "JMP", t.Command (c.Jump j.Jmp)) ∷
    (codes "JMPC", t.Command (c.Jump j.Jmpc)) ∷
    (codes "JMPCN", t.Command (c.Jump j.Jmpcn)) ∷
    (codes "RET", t.Command c.Ret) ∷
    []

-- the words of declarations
abbrev pub declaration_words : List (List ℕ × Token)
declaration_words =
    (codes "VAR_INPUT", t.Block l.Input) ∷
    (codes "VAR_OUTPUT", t.Block l.Output) ∷
    (codes "VAR", t.Block l.Local) ∷
    (codes "END_VAR", t.EndBlock) ∷
    (codes "INT", t.Kind k.Int) ∷
    (codes "BOOL", t.Kind k.Bool) ∷
    (codes "TRUE", t.Constant (Bool true)) ∷
    (codes "FALSE", t.Constant (Bool false)) ∷
    []

-- the reserved words, 35 in all
abbrev pub reserved_words : List (List ℕ × Token)
reserved_words = logic_words ++ (arithmetic_words ++ (control_words ++ declaration_words))

-- what a table of words has for a name
abbrev pub among : List (List ℕ × Token) → List ℕ → Option Token
among [] bytes = None
among (w ∷ ws) bytes = cond (same_name bytes w.0) (Some w.1) (among ws bytes)

-- what a word is to the grammar; a number word that the reader gives has a value inside INT
abbrev pub token_of : Lexeme → Token
token_of (name bytes) = unwrap_or (among reserved_words bytes) t.Name
token_of (number bytes) = t.Constant (Int (unwrap_or (int_of bytes) (pos 0)))
token_of colon = t.Sign g.Colon
token_of semicolon = t.Sign g.Semicolon
token_of assign = t.Sign g.Assign
