-- What each rule on harts and schedules is called where it is printed.
use Rattle.std.specs.Prelude.{ℕ, List, ◌++◌, codes}
use Rattle.harts.specs.declared.fault.HartsRule.{HartsRule}
use Rattle.harts.specs.declared.fault.HartsRule.TheVariants.{LineForm, HartCount, NoSuchHart, TooManyTurns}

-- its short code
abbrev pub code_of : HartsRule → List ℕ
code_of LineForm = codes "H1"
code_of HartCount = codes "H2"
code_of NoSuchHart = codes "H3"
code_of TooManyTurns = codes "H4"

-- what it says, in a few words
abbrev pub name_of : HartsRule → List ℕ
name_of LineForm = codes "line form"
name_of HartCount = codes "hart count"
name_of NoSuchHart = codes "no such hart"
name_of TooManyTurns = codes "too many turns"

-- both, as one line
abbrev pub rule_text : HartsRule → List ℕ
rule_text rule = code_of rule ++ codes ": " ++ name_of rule
