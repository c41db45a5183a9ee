-- How faults of an image are printed.
use Rattle.std.specs.Prelude.{ℕ, List, ◌++◌, None, codes}
use Rattle.std.specs.Fmt.{decimal}
use Rattle.image.specs.declared.fault.ImageFault.{ImageFault}
use Rattle.image.specs.declared.fault.ImageFault.TheVariants.{Field, Memory}
use Rattle.image.specs.RuleNames.{code_of, name_of}
use Rattle.language.specs.Rules.{refusal_text}
use Rattle.language.specs.declared.rule.Rule.TheVariants.{OutOfMemory}

abbrev pub fault_text : ImageFault → List ℕ
fault_text (Field rule offset) = code_of rule ++ codes " at byte " ++ decimal offset ++ codes ": " ++ name_of rule
fault_text Memory = refusal_text OutOfMemory None
