use Rattle.commands.specs.json.Performed.{of_answer}
use Rattle.commands.proofs.JsonLemmas.{is_fault_line}
use Rattle.commands.proofs.json.performing.line_of.Goals as goal

pub returns-in-Ok-clause-said : goal.returns-in-Ok-clause-said
returns-in-Ok-clause-said c = rw c.in-Ok.is (of_answer c.in-Ok.answer)

pub returns-in_ok-text-in-Err-clause-said : goal.returns-in_ok-text-in-Err-clause-said
returns-in_ok-text-in-Err-clause-said c =
    rw c.in-Err.is (is_fault_line c.in_ok-text-in-Err.ensures c.status.ensures.status)
