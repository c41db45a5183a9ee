use Rattle.std.proofs.Common.{Option}
use Rattle.expression_code.proofs.program_logic_lemmas.StraightRuns.{straight_code_leads}
use Rattle.expression_code.proofs.program_logic.laws.straight_code_is_run.Goals as goal
use Rattle.expression_code.specs.Below.{Event}

pub returns : goal.returns
returns c = λ works code p is places contents plain placed fit met.
    straight_code_leads works (λ (e : Option Event). Unit {0}) code p is places contents plain placed fit met
