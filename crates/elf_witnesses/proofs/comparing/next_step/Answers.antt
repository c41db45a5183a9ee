-- The step that was made, and where none is left none.
use Rattle.std.proofs.Common.{◌≡◌, ◌-◌, suc, cond, is_some, sym, ap, ◌∙◌, arith}
use Rattle.elf_witnesses.specs.Below.{state_of}
use Rattle.elf_witnesses.proofs.InStep.{none_left, step_shows}
use Rattle.elf_witnesses.proofs.comparing.next_step.Goals.{else-is_some, then-is_some}
use Rattle.elf_witnesses.proofs.comparing.next_step.Goals as goal

pub returns-clause-shown : goal.returns-clause-shown
returns-clause-shown g c = λ rest shown.
    let begun = c.args.run.now in
    let s = state_of begun.hart (g.M.Memory.bytes begun.memory) in
    let t = state_of c.step_unrecorded-seen.new.hart (g.M.Memory.bytes c.step_unrecorded-seen.new.memory) in
    let step = c.step_unrecorded-seen.ensures.step in
    let answer = c.step_unrecorded-seen.result.1 in
    let left = begun.steps_left - 1 in
    let more : suc left ≡ begun.steps_left = omega arith in
    let is : c.if-is_some.run ≡ cond (is_some answer) 0 left =
    elim c.if-is_some.branch [
      | then-is_some w ↦ w.run-is ∙ sym (ap (λ b. cond b 0 left) (sym c.is_some.ensures ∙ w.if-is_some.true))
      | else-is_some w ↦ w.run-is ∙ sym (ap (λ b. cond b 0 left) (sym c.is_some.ensures ∙ w.if-is_some.false))
    ] in
    rw (sym more)
    (step_shows (g.P.Program.program c.args.program.now) left c.if-is_some.run s t step.0 answer step.2.0 rest
    c.step_unrecorded-seen.result.0 step.1 step.2.1 c.step_unrecorded-seen.ensures.calm is step.2.2 shown)

pub returns-clause-ended : goal.returns-clause-ended
returns-clause-ended g c = λ none.
    let begun = c.args.run.now in
    let s = state_of begun.hart (g.M.Memory.bytes begun.memory) in
    let t = state_of c.step_unrecorded-seen.new.hart (g.M.Memory.bytes c.step_unrecorded-seen.new.memory) in
    let step = c.step_unrecorded-seen.ensures.step in
    let answer = c.step_unrecorded-seen.result.1 in
    let left = begun.steps_left - 1 in
    let is : c.if-is_some.run ≡ cond (is_some answer) 0 left =
    elim c.if-is_some.branch [
      | then-is_some w ↦ w.run-is ∙ sym (ap (λ b. cond b 0 left) (sym c.is_some.ensures ∙ w.if-is_some.true))
      | else-is_some w ↦ w.run-is ∙ sym (ap (λ b. cond b 0 left) (sym c.is_some.ensures ∙ w.if-is_some.false))
    ] in
    none_left left c.if-is_some.run s t step.0 answer step.2.0 c.step_unrecorded-seen.result.0 step.2.1 is step.2.2
    none
