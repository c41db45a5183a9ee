-- How faults of a run are printed.
use Rattle.std.specs.Prelude.{ℕ, List, None, codes}
use Rattle.language.specs.arguments.Text.{fault_text}
use Rattle.source_eval.specs.declared.fault.EvalFault.{EvalFault}
use Rattle.source_eval.specs.declared.fault.EvalFault.TheVariants.{Argument, NoMeaning, Budget, Memory}
use Rattle.language.specs.Rules.{refusal_text}
use Rattle.language.specs.declared.rule.Rule.TheVariants.{OutOfMemory}

abbrev pub eval_fault_text : EvalFault → List ℕ
eval_fault_text (Argument fault) = fault_text fault
eval_fault_text (NoMeaning place) = codes "E1: no meaning"
eval_fault_text Budget = codes "E2: budget"
eval_fault_text Memory = refusal_text OutOfMemory None
