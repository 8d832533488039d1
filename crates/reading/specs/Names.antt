-- Which records have names, and which of them has a given one.
use Rattle.std.specs.Prelude.{ℕ, Bool, false, List, Some, None, Option}
use Rattle.std.specs.List.{position_from}
use Rattle.syntax.specs.declared.record.Name.{Name}
use Rattle.syntax.specs.declared.record.Variable.{Variable}
use Rattle.syntax.specs.declared.record.Operation.{Operation}
use Rattle.syntax.specs.declared.record.Operation.TheVariants.{Return, Not, Label, Apply, Store, Jump}
use Rattle.syntax.specs.declared.record.Statement.{Statement}
use Rattle.syntax.specs.Names.{same_name, name_in}

-- every variable has a name
abbrev pub variable_name : Variable → Option Name
variable_name v = Some v.declaration.name

-- of the statements, labels have one
abbrev pub label_of : Operation → Option Name
label_of Return = None
label_of Not = None
label_of (Label name) = Some name
label_of (Apply o x) = None
label_of (Store s v) = None
label_of (Jump j t) = None

abbrev pub label_name : Statement → Option Name
label_name s = label_of s.operation

-- a record's name, if it has one, is the same as another in the text
abbrev pub same_as : List ℕ → Name → Option Name → Bool
same_as text name None = false
same_as text name (Some own) = same_name (name_in text own) (name_in text name)

module _ {T : Type 0} (named : T → Option Name) (text : List ℕ) (name : Name) where
  abbrev pub has_name : T → Bool
  has_name x = same_as text name (named x)

  -- the place in the list, counted from i, of the record that has the name
  abbrev pub found : ℕ → List T → Option ℕ
  found i xs = position_from has_name i xs
