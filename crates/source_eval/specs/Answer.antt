-- What `eval` answers.
use Rattle.std.specs.Prelude.{ℕ, ◌||◌, nat_lt, List, [], map, Option, Some, None, Result, Ok, Err, if◌then◌else◌}
use Rattle.source_eval.specs.Below.{Arg, Ending, exported, fault_of, faults, gives, most_bodies, param_of}
use Rattle.source_eval.specs.Below.{ProcedureTree, program_run, ProgramTree, Results, Run}
use Rattle.language.specs.declared.arguments.fault.ArgumentFault.{ArgumentFault}
use Rattle.language.specs.declared.signature.Param.{Param}
use Rattle.source_eval.specs.declared.fault.EvalFault.{EvalFault}
use Rattle.source_eval.specs.declared.fault.EvalFault.TheVariants.{Argument, NoMeaning, Budget}

-- the parameters of the export
abbrev pub found_params : Option (List ProcedureTree × ProcedureTree) → List Param
found_params None = []
found_params (Some found) = map param_of found.1.parameters

abbrev pub params_of : ProgramTree → List Param
params_of program = found_params (exported [] program.procedures)

-- an outcome, or the fault that a run meets
abbrev pub ending_answer : Ending Results → Result Results EvalFault
ending_answer (gives results) = Ok results
ending_answer (faults place) = Err (NoMeaning place)

-- more bodies than the language allows are never open
abbrev pub run_answer : Run Results → ℕ → Result Results EvalFault
run_answer run budget = if nat_lt budget run.nodes || nat_lt most_bodies run.bodies then Err Budget
    else ending_answer run.ends

-- the arguments are judged before all else
abbrev pub judged_answer : Option ArgumentFault → Run Results → ℕ → Result Results EvalFault
judged_answer (Some fault) run budget = Err (Argument fault)
judged_answer None run budget = run_answer run budget

abbrev pub answer : ProgramTree → List Arg → ℕ → Result Results EvalFault
answer program args budget = judged_answer (fault_of (params_of program) args) (program_run program args) budget
