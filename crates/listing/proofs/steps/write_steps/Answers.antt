-- Each step's lines, up to the step that stops.
use Rattle.std.proofs.Common.{◌++◌, [], append-nil, refl, sym, ◌∙◌, arith}
use Rattle.listing.specs.Below.{Budget, state_of, stays}
use Rattle.listing.proofs.Written.{cut_at_lines, ends_after, ends_here, ends_spent, leads_on, listed_alone, wrote_all}
use Rattle.listing.proofs.Written.{on_err, wrote_more}
use Rattle.listing.proofs.steps.write_steps.Goals as goal

pub loop-step-init : goal.loop-step-init
loop-step-init g c = record {
  led = ([], stays, λ tells. sym (append-nil (g.W.Sink.taken c.args.sink.now)));
  calm = refl;
}

pub returns-in_err-write_seen-clause-beginning : goal.returns-in_err-write_seen-clause-beginning
returns-in_err-write_seen-clause-beginning g c = λ tells.
    let led = c.loop-step.invariant.led in
    let step = c.step_unrecorded-seen.ensures.step in
    let program = g.P.Program.program c.args.program.now in
    let begun = c.args.run.now in
    let s = state_of begun.hart (g.M.Memory.bytes begun.memory) in
    let t = state_of c.loop-step.run.hart (g.M.Memory.bytes c.loop-step.run.memory) in
    let last = step.2.0 in
    let is = listed_alone c.step_unrecorded-seen.result.0 ∙ step.2.2 in
    let later = ends_after program begun.steps_left s c.loop-step._step t led.0 led.1 (omega arith) step.1 step.2.1
    c.step_unrecorded-seen.ensures.calm in
    on_err c.from_residual.result
    (cut_at_lines (g.W.Sink.taken c.args.sink.now) (g.W.Sink.taken c.loop-step.sink) led.0 (led.2 tells) program
    begun.steps_left s (g.W.Sink.taken c.write_seen.new.sink) last later.0 later.1 later.2 later.3
    (rw is at (c.in_err-write_seen.ensures.beginning tells)))

pub returns-in-Some-clause-ended : goal.returns-in-Some-clause-ended
returns-in-Some-clause-ended g c =
    let led = c.loop-step.invariant.led in
    let step = rw c.in-Some.is at c.step_unrecorded-seen.ensures.step in
    let calm = rw c.in-Some.is at c.step_unrecorded-seen.ensures.calm in (
      led.0 ++ step.2.0,
      ends_here (g.P.Program.program c.args.program.now) c.args.run.now.steps_left _ c.loop-step._step _ led.0 led.1
          (omega arith) step.1 step.2.1 calm,
    )

pub returns-in-Some-clause-written : goal.returns-in-Some-clause-written
unfolding returns-in-Some-clause-ended
returns-in-Some-clause-written g c = λ tells.
    let led = c.loop-step.invariant.led in
    let step = rw c.in-Some.is at c.step_unrecorded-seen.ensures.step in
    let is = listed_alone c.step_unrecorded-seen.result.0 ∙ step.2.2 in
    let before = g.W.Sink.taken c.args.sink.now in
    let now = g.W.Sink.taken c.write_seen.new.sink in
    let so_far = wrote_more before (g.W.Sink.taken c.loop-step.sink) led.0 (led.2 tells) now step.2.0
    (rw is at (c.in_ok-write_seen.ensures.whole tells)) in
    let ended = returns-in-Some-clause-ended g c in
    wrote_all before now (led.0 ++ step.2.0) so_far _ _ _ c.in-Some.stop _ ended.1

pub loop-step-preserved : goal.loop-step-preserved
loop-step-preserved g c =
    let led = c.loop-step.invariant.led in
    let step = rw c.in_default.is at c.step_unrecorded-seen.ensures.step in
    let is = listed_alone c.step_unrecorded-seen.result.0 ∙ step.2.2 in
    let before = g.W.Sink.taken c.args.sink.now in
    let now = g.W.Sink.taken c.write_seen.new.sink in
    record {
      led = (
        led.0 ++ step.2.0,
        leads_on (g.P.Program.program c.args.program.now) c.args.run.now.steps_left _ c.loop-step._step _ led.0 led.1
            step.1 step.2.1,
        λ tells. wrote_more before (g.W.Sink.taken c.loop-step.sink) led.0 (led.2 tells) now step.2.0
            (rw is at (c.in_ok-write_seen.ensures.whole tells)),
      );
      calm = c.in_ok-write_seen.ensures.calm ∙ c.loop-step.invariant.calm;
    }

pub returns-clause-ended : goal.returns-clause-ended
returns-clause-ended g c =
    let led = c.loop-step.invariant.led in (
      led.0,
      ends_spent (g.P.Program.program c.args.program.now) c.args.run.now.steps_left _ c.loop-step._step _ led.0
          led.1 (omega arith),
    )

pub returns-clause-written : goal.returns-clause-written
unfolding returns-clause-ended
returns-clause-written g c = λ tells.
    let led = c.loop-step.invariant.led in
    let ended = returns-clause-ended g c in
    wrote_all (g.W.Sink.taken c.args.sink.now) (g.W.Sink.taken c.loop-step.sink) led.0 (led.2 tells) _ _ _ Budget _
    ended.1
