-- How the parts of a program are written out.
use Rattle.std.specs.Prelude.{true, false, ℕ, List, ◌++◌, codes}
use Rattle.std.specs.Fmt.{signed_decimal}
use Rattle.syntax.specs.declared.record.Class.{Class}
use Rattle.syntax.specs.declared.record.Class.TheVariants.{Local, Input, Output}
use Rattle.syntax.specs.declared.record.Kind.{Kind}
use Rattle.syntax.specs.declared.record.Kind.TheVariants as kind
use Rattle.syntax.specs.declared.record.Constant.{Constant}
use Rattle.syntax.specs.declared.record.Constant.TheVariants as constant
use Rattle.syntax.specs.declared.record.Range.{Range}

abbrev pub class_text : Class → List ℕ
class_text Local = codes "local"
class_text Input = codes "input"
class_text Output = codes "output"

abbrev pub kind_text : Kind → List ℕ
kind_text kind.Bool = codes "BOOL"
kind_text kind.Int = codes "INT"

abbrev pub constant_text : Constant → List ℕ
constant_text (constant.Bool true) = codes "TRUE"
constant_text (constant.Bool false) = codes "FALSE"
constant_text (constant.Int n) = signed_decimal n

abbrev pub range_text : Range → List ℕ
range_text r = signed_decimal r.low ++ (codes ".." ++ signed_decimal r.high)
