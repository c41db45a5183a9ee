use Rattle.commands.specs.FunctionRunRefusals.{out_of_memory}
use Rattle.commands.proofs.ExecutableLemmas.{start_fault}
use Rattle.commands.proofs.function_words.asked_of.Goals as goal
use Rattle.language.proofs.Handed.{converted_on}

pub returns-in_err-fault_of_start-in-Err-clause-refused : goal.returns-in_err-fault_of_start-in-Err-clause-refused
returns-in_err-fault_of_start-in-Err-clause-refused c =
    converted_on _ c.from_residual.ensures.1 (λ e memory. out_of_memory memory)

pub returns-in_ok-fault_of_start-in-Err-clause-refused : goal.returns-in_ok-fault_of_start-in-Err-clause-refused
returns-in_ok-fault_of_start-in-Err-clause-refused c =
    c.in_ok-fault_of_start-in-Err.ensures _ (start_fault _ _ c.in-Err.ensures.fault)
