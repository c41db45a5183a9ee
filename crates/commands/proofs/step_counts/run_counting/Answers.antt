-- Another step, or the run's end.
use Rattle.std.proofs.Common.{◌≡◌, ◌≤◌, suc, Some, [], ◌++◌, inl, refl, ap, ◌∙◌, subst, arith}
use Rattle.commands.specs.Below.{code_of, collected, halted, spent, state_of, stays}
use Rattle.commands.specs.StepCounts.{MakesSteps, all, until_stop}
use Rattle.commands.proofs.StepLemmas.{apart, lines_halted, lines_spent, made_one, reached_more, run_halts, run_leads, told_by}
use Rattle.run_reports.proofs.progress_lemmas.Told.{none_yet}
use Rattle.rv_machine.specs.OneStep.{listed}
use Rattle.commands.proofs.step_counts.run_counting.Goals.{else-progress-via-then-progress+then-is_due+else-running-gt0}
use Rattle.commands.proofs.step_counts.run_counting.Goals.{else-progress-via-then-progress+else-is_due}
use Rattle.commands.proofs.step_counts.run_counting.Goals.{else-progress-via-else-progress}
use Rattle.commands.proofs.step_counts.run_counting.Goals as goal

pub steps-init : goal.steps-init
steps-init g c = record {
  counted = omega arith;
  led = ([], stays);
  last = omega arith;
  due = λ on. omega arith;
  next = λ on some. omega arith;
  reached = inl c.new-lines.ensures.none;
  quiet = λ off. refl;
  told = λ tells. none_yet c.new-lines.result.whole c.new-lines.result.count
      (collected (g.E.Sink.taken c.args.err.now) (g.E.Sink.failures c.args.err.now))
      c.new-lines.ensures.whole c.new-lines.ensures.none;
}

pub returns-in-Some : goal.returns-in-Some
returns-in-Some g c =
    let before = c.steps.invariant in
    let step = c.step_unrecorded-stop.ensures in
    let one = made_one step.step step.calm in
    let halting = run_halts before.led.1 one.1 c.in-Some.is in
    let within : suc c.steps.made ≤ c.args.running.now.steps_left = omega (arith, before.counted, c.steps-test.true) in
    record {
      ran = (before.led.0 ++ listed one.0, halted within halting);
      calm = λ refused. step.calm (c.in-Some.is ∙ ap Some refused);
      fewer = omega (arith, before.counted, c.steps-test.true);
      made =
          subst
          (MakesSteps (code_of c.args.code.now) c.args.running.now.steps_left
          (state_of c.args.running.now.hart (g.M.Memory.bytes c.args.running.now.memory)))
          (omega (arith, before.counted, c.steps-test.true))
          (until_stop within halting);
      told = λ tells. told_by c.args.progress c.steps.lines.whole c.steps.lines.count _ _
          (λ on. lines_halted halting (omega (arith, before.next on c.steps-test.true)) before.reached)
          (λ off. ap (λ e. collected (g.E.Sink.taken e) (g.E.Sink.failures e)) (before.quiet off))
          (before.told tells);
    }

pub returns : goal.returns
returns g c =
    let before = c.steps.invariant in
    let done : c.steps.made ≡ c.args.running.now.steps_left = omega (arith, before.counted, c.steps-test.false) in
    record {
      ran = (before.led.0, spent (rw done at before.led.1));
      calm = λ refused. cc;
      fewer = omega (arith, before.counted);
      made =
          subst
          (MakesSteps (code_of c.args.code.now) c.args.running.now.steps_left
          (state_of c.args.running.now.hart (g.M.Memory.bytes c.args.running.now.memory)))
          (omega (arith, done, before.counted)) (all (rw done at before.led.1));
      told = λ tells. told_by c.args.progress c.steps.lines.whole c.steps.lines.count _ _
          (λ on. lines_spent done (before.due on) before.reached)
          (λ off. ap (λ e. collected (g.E.Sink.taken e) (g.E.Sink.failures e)) (before.quiet off))
          (before.told tells);
    }

pub steps-preserved-then-running-gt0 : goal.steps-preserved-then-running-gt0
steps-preserved-then-running-gt0 g c =
    let before = c.steps.invariant in
    let step = c.step_unrecorded-stop.ensures in
    let one = made_one step.step step.calm in
    let on = c.if-progress.true in
    let soon = before.next on c.steps-test.true in
    let lines = c.tell.ensures.next in
    let led = run_leads before.led.1 one.1 c.in_default.is (omega arith) in
    record {
      counted = omega (arith, before.counted, c.steps-test.true);
      led = led;
      last = omega (arith, lines, soon);
      due = λ is. omega (arith, lines, soon);
      next = λ is some. omega (arith, lines, soon);
      reached = reached_more led.1 (omega (arith, lines, soon)) (omega (arith, before.counted, c.if-running-gt0.true));
      quiet = λ off. absurd (apart on off);
      told = λ tells. c.tell.ensures.told
          (collected (g.E.Sink.taken c.args.err.now) (g.E.Sink.failures c.args.err.now))
          tells (before.told tells);
    }

pub steps-preserved : goal.steps-preserved
steps-preserved g c =
    let before = c.steps.invariant in
    let step = c.step_unrecorded-stop.ensures in
    let one = made_one step.step step.calm in
    record {
      counted = omega (arith, before.counted, c.steps-test.true);
      led = run_leads before.led.1 one.1 c.in_default.is (omega arith);
      last = omega (arith, before.last);
      due = λ on. omega (arith, before.next on c.steps-test.true);
      next = λ on some.
          let soon = before.next on c.steps-test.true in
          elim c.else-progress.branch [
            | else-progress-via-then-progress+then-is_due+else-running-gt0 w ↦ omega arith
            | else-progress-via-then-progress+else-is_due w ↦ omega arith
            | else-progress-via-else-progress w ↦ absurd (apart on w.if-progress.false)
          ];
      reached = before.reached;
      quiet = before.quiet;
      told = before.told;
    }
