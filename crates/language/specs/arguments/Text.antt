-- How faults of arguments are printed.
use Rattle.std.specs.Prelude.{ℕ, List, [], ◌++◌, Option, Some, None, codes}
use Rattle.std.specs.Fmt.{decimal}
use Rattle.language.specs.Rules.{refusal_text}
use Rattle.language.specs.declared.rule.Rule.TheVariants.{OutOfMemory}
use Rattle.language.specs.declared.arguments.fault.ArgumentFault.{ArgumentFault}
use Rattle.language.specs.declared.arguments.texts.ReadError.{ReadError}
use Rattle.language.specs.declared.arguments.texts.ReadError.TheVariants as errors
use Rattle.language.specs.arguments.RuleNames.{code_of, name_of}

-- which argument it is
abbrev pub argument_text : Option ℕ → List ℕ
argument_text (Some index) = codes " at argument " ++ decimal index
argument_text None = []

abbrev pub fault_text : ArgumentFault → List ℕ
fault_text fault = code_of fault.rule ++ argument_text fault.index ++ codes ": " ++ name_of fault.rule

abbrev pub read_error_text : ReadError → List ℕ
read_error_text (errors.Argument fault) = fault_text fault
read_error_text errors.Memory = refusal_text OutOfMemory None
