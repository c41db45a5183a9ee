-- The plan of an instruction is that of what it does.
use Rattle.std.proofs.Common.{ap, ◌∙◌}
use Rattle.rv_machine.specs.Effects.{effect_of}
use Rattle.rv_machine.specs.Harts.{state_of}
use Rattle.rv_machine.specs.Machine.{ending_by}
use Rattle.rv_machine.proofs.plans.instruction_plan.Goals as goal

pub returns-clause-ends : goal.returns-clause-ends
returns-clause-ends g c =
    let s = state_of c.args.hart.now (g.M.Memory.bytes c.args.memory.now) in
    let form = c.args.form in
    c.effect_plan.ensures.ends
    ∙ ap (λ e. ending_by form.length form.alignment form.profile e s) {y = effect_of c.args.instr.now s.pc s.regs}
    c.effect_of.ensures
