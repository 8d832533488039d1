-- The grammar: at each stage of a text, which words fit, and what each of them does.
use Rattle.std.specs.Prelude.{ℕ, Bool as Truth, true, false, Some, None, Option}
use Rattle.syntax.specs.declared.operator.Operator.{Operator}
use Rattle.syntax.specs.declared.operator.Store.{Store}
use Rattle.syntax.specs.declared.operator.Jump.{Jump}
use Rattle.syntax.specs.declared.record.Name.{Name}
use Rattle.syntax.specs.declared.record.Class.{Class}
use Rattle.syntax.specs.declared.record.Constant.{Constant}
use Rattle.syntax.specs.declared.record.Constant.TheVariants.{Bool, Int}
use Rattle.syntax.specs.declared.record.Declaration.{Declaration}
use Rattle.syntax.specs.declared.token.Sign.TheVariants as g
use Rattle.syntax.specs.declared.token.Token.{Token}
use Rattle.syntax.specs.declared.token.Token.TheVariants as t
use Rattle.syntax.specs.declared.grammar.Stage.{Stage}
use Rattle.syntax.specs.declared.grammar.Stage.TheVariants.{Blocks, Block, VariableColon, Kind, AfterKind, Initial, Semicolon, Body, LabelColon, Value, Storage, Destination}
use Rattle.syntax.specs.declared.grammar.Step.{Step}
use Rattle.syntax.specs.declared.grammar.Step.TheVariants.{Enter, Declare, Keep, Begin, Label, Complete, Use, Change, Aim}
use Rattle.syntax.specs.Records.{unwritten}

-- between blocks a block may begin, or the first statement
abbrev pub between_blocks : Token → Option Step
between_blocks t.Name = Some Label
between_blocks (t.Constant k) = None
between_blocks (t.Sign g) = None
between_blocks (t.Block b) = Some (Enter (Block b))
between_blocks t.EndBlock = None
between_blocks (t.Kind k) = None
between_blocks (t.Command c) = Some (Begin c)

-- in a block a declaration begins with a new name, and END_VAR ends the block
abbrev pub in_block : Class → Token → Option Step
in_block class t.Name = Some (Declare class)
in_block class (t.Constant k) = None
in_block class (t.Sign g) = None
in_block class (t.Block b) = None
in_block class t.EndBlock = Some (Enter Blocks)
in_block class (t.Kind k) = None
in_block class (t.Command c) = None

-- a variable's name is followed by a colon
abbrev pub after_name : Class → Name → Token → Option Step
after_name class name t.Name = None
after_name class name (t.Constant k) = None
after_name class name (t.Sign g.Colon) = Some (Enter (Kind class name))
after_name class name (t.Sign g.Semicolon) = None
after_name class name (t.Sign g.Assign) = None
after_name class name (t.Block b) = None
after_name class name t.EndBlock = None
after_name class name (t.Kind k) = None
after_name class name (t.Command c) = None

-- and that by INT or BOOL
abbrev pub at_kind : Class → Name → Token → Option Step
at_kind class name t.Name = None
at_kind class name (t.Constant k) = None
at_kind class name (t.Sign g) = None
at_kind class name (t.Block b) = None
at_kind class name t.EndBlock = None
at_kind class name (t.Kind k) = Some (Enter (AfterKind (record { name = name; class = class; initial = unwritten k })))
at_kind class name (t.Command c) = None

-- then the declaration ends, or an initial value is to come
abbrev pub after_kind : Declaration → Token → Option Step
after_kind d t.Name = None
after_kind d (t.Constant k) = None
after_kind d (t.Sign g.Colon) = None
after_kind d (t.Sign g.Semicolon) = Some (Keep d)
after_kind d (t.Sign g.Assign) = Some (Enter (Initial d))
after_kind d (t.Block b) = None
after_kind d t.EndBlock = None
after_kind d (t.Kind k) = None
after_kind d (t.Command c) = None

-- a declaration with another initial value, of the same kind as the one that it has; none where the kinds differ
abbrev pub begun : Declaration → Constant → Constant → Option Step
begun d (Bool a) (Bool b) = Some (Enter (Semicolon (record { name = d.name; class = d.class; initial = Bool b })))
begun d (Bool a) (Int n) = None
begun d (Int m) (Bool b) = None
begun d (Int m) (Int n) = Some (Enter (Semicolon (record { name = d.name; class = d.class; initial = Int n })))

-- an initial value is a constant of the variable's kind
abbrev pub at_initial : Declaration → Token → Option Step
at_initial d t.Name = None
at_initial d (t.Constant k) = begun d d.initial k
at_initial d (t.Sign g) = None
at_initial d (t.Block b) = None
at_initial d t.EndBlock = None
at_initial d (t.Kind k) = None
at_initial d (t.Command c) = None

-- it ends the declaration
abbrev pub after_initial : Declaration → Token → Option Step
after_initial d t.Name = None
after_initial d (t.Constant k) = None
after_initial d (t.Sign g.Colon) = None
after_initial d (t.Sign g.Semicolon) = Some (Keep d)
after_initial d (t.Sign g.Assign) = None
after_initial d (t.Block b) = None
after_initial d t.EndBlock = None
after_initial d (t.Kind k) = None
after_initial d (t.Command c) = None

-- a statement begins with an operator, or is a label
abbrev pub in_body : Token → Option Step
in_body t.Name = Some Label
in_body (t.Constant k) = None
in_body (t.Sign g) = None
in_body (t.Block b) = None
in_body t.EndBlock = None
in_body (t.Kind k) = None
in_body (t.Command c) = Some (Begin c)

-- a label's name is followed by a colon
abbrev pub after_label : Token → Option Step
after_label t.Name = None
after_label (t.Constant k) = None
after_label (t.Sign g.Colon) = Some (Enter Body)
after_label (t.Sign g.Semicolon) = None
after_label (t.Sign g.Assign) = None
after_label (t.Block b) = None
after_label t.EndBlock = None
after_label (t.Kind k) = None
after_label (t.Command c) = None

-- most operators take a variable or a constant of either kind
abbrev pub at_value : Operator → ℕ → Token → Option Step
at_value o p t.Name = Some (Use o p)
at_value o p (t.Constant k) = Some (Complete o k p)
at_value o p (t.Sign g) = None
at_value o p (t.Block b) = None
at_value o p t.EndBlock = None
at_value o p (t.Kind k) = None
at_value o p (t.Command c) = None

-- ST, STN, S and R take a variable
abbrev pub at_storage : Store → ℕ → Token → Option Step
at_storage s p t.Name = Some (Change s p)
at_storage s p (t.Constant k) = None
at_storage s p (t.Sign g) = None
at_storage s p (t.Block b) = None
at_storage s p t.EndBlock = None
at_storage s p (t.Kind k) = None
at_storage s p (t.Command c) = None

-- jumps take a label
abbrev pub at_target : Jump → ℕ → Token → Option Step
at_target j p t.Name = Some (Aim j p)
at_target j p (t.Constant k) = None
at_target j p (t.Sign g) = None
at_target j p (t.Block b) = None
at_target j p t.EndBlock = None
at_target j p (t.Kind k) = None
at_target j p (t.Command c) = None

-- what a word does at a stage; none where it does not fit
abbrev pub followed : Stage → Token → Option Step
followed Blocks token = between_blocks token
followed (Block class) token = in_block class token
followed (VariableColon class name) token = after_name class name token
followed (Kind class name) token = at_kind class name token
followed (AfterKind d) token = after_kind d token
followed (Initial d) token = at_initial d token
followed (Semicolon d) token = after_initial d token
followed Body token = in_body token
followed LabelColon token = after_label token
followed (Value o p) token = at_value o p token
followed (Storage s p) token = at_storage s p token
followed (Destination j p) token = at_target j p token

-- a text may end between blocks and between statements
abbrev pub may_end : Stage → Truth
may_end Blocks = true
may_end (Block class) = false
may_end (VariableColon class name) = false
may_end (Kind class name) = false
may_end (AfterKind d) = false
may_end (Initial d) = false
may_end (Semicolon d) = false
may_end Body = true
may_end LabelColon = false
may_end (Value o p) = false
may_end (Storage s p) = false
may_end (Destination j p) = false
