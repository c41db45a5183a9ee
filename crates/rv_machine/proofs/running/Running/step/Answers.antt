-- The step is one more step of the run, and its recorder has what the step shows.
use Rattle.std.proofs.Common.{◌≡◌, ◌-◌, suc, List, true, cond, is_some, sym, ap, ◌∙◌, arith}
use Rattle.std.specs.Prelude.{slice_get}
use Rattle.rv_machine.specs.declared.observation.Observation.{Observation}
use Rattle.rv_machine.specs.Harts.{state_of}
use Rattle.rv_machine.specs.Recording.{kept}
use Rattle.rv_machine.specs.Regions.{code_of}
use Rattle.rv_machine.proofs.Progressing.{step_makes, no_step_makes, ends_by_none, leaves_fewer}
use Rattle.rv_machine.proofs.Shown.{makes_shows}
use Rattle.rv_machine.proofs.running.Running.step.Goals.{then-is_some, else-is_some}
use Rattle.rv_machine.proofs.running.Running.step.Goals as goal

pub returns-clause-made : goal.returns-clause-made
returns-clause-made g c =
    let begun = c.args.self.now in
    let s = state_of begun.hart (g.M.Memory.bytes begun.memory) in
    let t = state_of c.step-stop.new.hart (g.M.Memory.bytes c.step-stop.new.memory) in
    let step = c.step-stop.ensures.step in
    let seen = step.2.0 in
    let list = step.2.2 ∙ ap (λ (xs : List Observation). kept true xs seen) c.new-recorder.ensures.empty in
    let first = c.first.ensures ∙ ap (λ (xs : List Observation). slice_get xs 0) list in
    let left = begun.steps_left - 1 in
    let more : suc left ≡ begun.steps_left = omega arith in
    let left' = c.if-is_some.self in
    let is : left' ≡ cond (is_some c.step-stop.result) 0 left =
    elim c.if-is_some.branch [
      | then-is_some w ↦ w.self-is ∙ sym (ap (λ b. cond b 0 left) (sym c.is_some.ensures ∙ w.if-is_some.true))
      | else-is_some w ↦ w.self-is ∙ sym (ap (λ b. cond b 0 left) (sym c.is_some.ensures ∙ w.if-is_some.false))
    ] in
    rw (first, sym more)
    (step_makes (code_of c.args.code.now) left left' s t step.0 c.step-stop.result seen step.1 step.2.1
    (c.step-stop.ensures.ready 0 c.new-recorder.ensures.ready) is)

pub returns-clause-shown : goal.returns-clause-shown
returns-clause-shown g c = λ rest shown. makes_shows (returns-clause-made g c) shown

pub returns-clause-ended : goal.returns-clause-ended
returns-clause-ended g c = ends_by_none (returns-clause-made g c)

pub returns-clause-fewer : goal.returns-clause-fewer
returns-clause-fewer g c = leaves_fewer (returns-clause-made g c)

pub returns-then-self-eq0-clause-made : goal.returns-then-self-eq0-clause-made
returns-then-self-eq0-clause-made g c =
    no_step_makes (code_of c.args.code.now) c.args.self.now.steps_left
    (state_of c.args.self.now.hart (g.M.Memory.bytes c.args.self.now.memory)) (omega arith)
