-- What each rule on arguments is called where it is printed.
use Rattle.std.specs.Prelude.{ℕ, List, codes}
use Rattle.language.specs.declared.arguments.fault.ArgumentRule.{ArgumentRule}
use Rattle.language.specs.declared.arguments.fault.ArgumentRule.TheVariants.{Count, Shape, Value}

-- its short code
abbrev pub code_of : ArgumentRule → List ℕ
code_of Count = codes "A1"
code_of Shape = codes "A2"
code_of Value = codes "A3"

-- what it says, in a few words
abbrev pub name_of : ArgumentRule → List ℕ
name_of Count = codes "argument count"
name_of Shape = codes "shape"
name_of Value = codes "value outside type"
