-- What each rule on code is called where it is printed.
use Rattle.std.specs.Prelude.{ℕ, List, ◌++◌, codes}
use Rattle.input_files.specs.Below.{Refusal, refusal_text}
use Rattle.input_files.specs.declared.wrapping.fault.CodeRule.{CodeRule}
use Rattle.input_files.specs.declared.wrapping.fault.CodeRule.TheVariants.{Length, Frame, Steps}
use Rattle.input_files.specs.declared.wrapping.fault.WrapFault.{WrapFault}
use Rattle.input_files.specs.declared.wrapping.fault.WrapFault.TheVariants.{Text, Code}

-- its short code
abbrev pub code_of : CodeRule → List ℕ
code_of Length = codes "C1"
code_of Frame = codes "C2"
code_of Steps = codes "C3"

-- what it says, in a few words
abbrev pub name_of : CodeRule → List ℕ
name_of Length = codes "code length"
name_of Frame = codes "frame"
name_of Steps = codes "steps"

-- both, as one line
abbrev pub rule_text : CodeRule → List ℕ
rule_text rule = code_of rule ++ codes ": " ++ name_of rule

abbrev pub fault_text : WrapFault Refusal → List ℕ
fault_text (Text refusal) = refusal_text refusal.rule refusal.place
fault_text (Code rule) = rule_text rule
