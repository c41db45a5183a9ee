-- A step of one hart is what one call of the machine makes of it.
use Rattle.std.proofs.Common.{true, List, sym, ap, ◌∙◌}
use Rattle.std.specs.Prelude.{slice_get}
use Rattle.rv_machine.specs.declared.observation.Observation.{Observation}
use Rattle.rv_machine.specs.Harts.{state_of}
use Rattle.rv_machine.specs.Recording.{kept}
use Rattle.rv_machine.specs.RunningHarts.{member_now}
use Rattle.rv_machine.specs.System.{rests}
use Rattle.rv_machine.proofs.SystemLaws.{some_of, none_of, member_step_made}
use Rattle.rv_machine.proofs.system.RunningHart.step.Goals as goal

pub returns-then-is_some : goal.returns-then-is_some
returns-then-is_some g c =
    rests (some_of c.args.self.now.stop (sym c.is_some.ensures ∙ c.if-is_some.true)).1

pub returns : goal.returns
returns g c =
    let begun = c.args.self.now in
    let bytes = g.M.Memory.bytes c.args.memory.now in
    let t = state_of c.step-self.new.hart (g.M.Memory.bytes c.step-self.new.memory) in
    let step = c.step-self.ensures.step in
    let seen = step.2.0 in
    let list = step.2.2 ∙ ap (λ (xs : List Observation). kept true xs seen) c.new-recorder.ensures.empty in
    let first = c.first.ensures ∙ ap (λ (xs : List Observation). slice_get xs 0) list in
    let running = none_of begun.stop (sym c.is_some.ensures ∙ c.if-is_some.false) in
    rw first (member_step_made bytes (member_now begun) t step.0 c.step-self.result seen running step.1 step.2.1
    (c.step-self.ensures.ready 0 c.new-recorder.ensures.ready))
