-- The records of a program: blank ones, and how a declaration and a range make one.
use Rattle.std.specs.Prelude.{false, pos}
use Rattle.numbers.specs.Int.{lowest, highest}
use Rattle.syntax.specs.declared.record.Class.TheVariants.{Local}
use Rattle.syntax.specs.declared.record.Kind.{Kind}
use Rattle.syntax.specs.declared.record.Kind.TheVariants as k
use Rattle.syntax.specs.declared.record.Constant.{Constant}
use Rattle.syntax.specs.declared.record.Constant.TheVariants.{Bool, Int}
use Rattle.syntax.specs.declared.record.Range.{Range}
use Rattle.syntax.specs.declared.record.Declaration.{Declaration}
use Rattle.syntax.specs.declared.record.Variable.{Variable}
use Rattle.syntax.specs.declared.record.Operation.TheVariants.{Return}
use Rattle.syntax.specs.declared.record.Statement.{Statement}

-- a record that no declaration has filled
abbrev pub no_variable : Variable
no_variable = record { declaration = record { name = record { place = 0; length = 0 }; class = Local; initial = Bool false }; range = record { low = pos 0; high = pos 0 } }

-- a record that no statement has filled
abbrev pub no_statement : Statement
no_statement = record { operation = Return; place = 0 }

-- the kind that a constant is of
abbrev pub kind_of : Constant → Kind
kind_of (Bool b) = k.Bool
kind_of (Int n) = k.Int

-- the initial value of a variable whose declaration writes none: FALSE or 0
abbrev pub unwritten : Kind → Constant
unwritten k.Bool = Bool false
unwritten k.Int = Int (pos 0)

-- a variable as it is declared, with all of INT as its range
abbrev pub declared_as : Declaration → Variable
declared_as d = record { declaration = d; range = record { low = lowest; high = highest } }

-- the same variable with another range
abbrev pub ranged : Variable → Range → Variable
ranged v range = record { declaration = v.declaration; range = range }
