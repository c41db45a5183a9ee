-- A step is an instruction's, or that of a word that is none.
use Rattle.std.proofs.Common.{Some, ap, ◌∙◌}
use Rattle.rv_machine.specs.Decoded.{spelled}
use Rattle.rv_machine.specs.Machine.{no_instruction, executes}
use Rattle.rv_machine.proofs.plans.plan_of.Goals as goal

pub returns-in-Instruction-clause-step : goal.returns-in-Instruction-clause-step
returns-in-Instruction-clause-step g c = λ even there decoded.
    executes c.in-Instruction.instr even (there ∙ ap (λ w. Some (spelled w)) c.in-Instruction.is)
    (rw c.in-Instruction.is at decoded) (rw c.profile.ensures at rw c.word.ensures at c.instruction_plan.ensures.ends)

pub returns-in-Other-clause-step : goal.returns-in-Other-clause-step
returns-in-Other-clause-step g c = λ even there decoded.
    let here = there ∙ ap (λ w. Some (spelled w)) c.in-Other.is in
    rw c.unseen.ensures (no_instruction even here (rw c.in-Other.is at decoded))
