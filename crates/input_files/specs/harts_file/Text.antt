-- How a fault of a file of harts is printed.
use Rattle.std.specs.Prelude.{ℕ, List, ◌++◌, None, codes}
use Rattle.std.specs.Fmt.{decimal}
use Rattle.harts.specs.RuleNames.{code_of, name_of}
use Rattle.input_files.specs.declared.harts_file.fault.PlanFault.{PlanFault}
use Rattle.input_files.specs.declared.harts_file.fault.PlanFault.TheVariants.{Line, Memory}
use Rattle.input_files.specs.Below.{OutOfMemory, refusal_text}

abbrev pub plan_fault_text : PlanFault → List ℕ
plan_fault_text (Line rule line) = code_of rule ++ codes " at line " ++ decimal line ++ codes ": " ++ name_of rule
plan_fault_text Memory = refusal_text OutOfMemory None
