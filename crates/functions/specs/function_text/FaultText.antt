-- How a fault is printed.
use Rattle.std.specs.Prelude.{ℕ, List, ◌++◌, codes}
use Rattle.functions.specs.declared.function_text.fault.FunctionFault.{FunctionFault}
use Rattle.functions.specs.declared.function_text.fault.FunctionFault.TheVariants.{Text, Name}
use Rattle.language.specs.Rules.{refusal_text}
use Rattle.functions.specs.Below.{Refusal}
use Rattle.word.specs.Places.{place_text}

abbrev pub fault_text : FunctionFault Refusal → List ℕ
fault_text (Text refusal) = refusal_text refusal.rule refusal.place
fault_text (Name place) = codes "F1 at " ++ place_text place ++ codes ": name"
