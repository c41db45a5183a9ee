-- Step by step, up to the one that shows the entry.
use Rattle.std.proofs.Common.{[], ◌∷◌, ◌++◌, arith}
use Rattle.run_reports.specs.Below.{Budget, listed, stays}
use Rattle.run_reports.proofs.run_places_lemmas.Below.{stopped_at, went_to}
use Rattle.run_reports.proofs.run_places_lemmas.Runs.{went_on_by, shows_shown, shows_stop, ends_here, ends_spent}
use Rattle.run_reports.proofs.run_places_lemmas.Runs.{left_after}
use Rattle.run_reports.proofs.run_places.shown.shown_at.Goals as goal

pub loop-step-init : goal.loop-step-init
loop-step-init g c = ([], stays, omega arith)

pub returns-in-Ok : goal.returns-in-Ok
returns-in-Ok g c =
    let led = c.loop-step.invariant in
    shows_shown led.1 c.loop-step.left c.loop-step-test.true c.one_step-seen.ensures led.2 c.in-Ok.ensures.entry

pub returns-in-Some : goal.returns-in-Some
returns-in-Some g c =
    let led = c.loop-step.invariant in
    let last = c.one_step-seen.result.0 in
    let step = stopped_at _ _ _ last c.one_step-seen.result.1 c.in-Some.stop c.one_step-seen.ensures c.in-Some.is in
    shows_stop _ _ _ (led.0 ++ listed last) c.in-Some.stop c.args.place (ends_here led.1 c.loop-step-test.true step)
    (omega (arith, left_after led.0 last c.loop-step.left c.in-Err.rest c.args.place led.2 c.in-Err.ensures.rest))

pub loop-step-preserved : goal.loop-step-preserved
loop-step-preserved g c =
    let led = c.loop-step.invariant in
    let last = c.one_step-seen.result.0 in
    let went = went_to _ _ _ last c.one_step-seen.result.1 c.one_step-seen.ensures c.in_default.is in (
      led.0 ++ went.0 ∷ [],
      went_on_by led.1 c.one_step-seen.ensures went.1 c.in_default.is,
      rw went.1 at (left_after led.0 last c.loop-step.left c.in-Err.rest c.args.place led.2 c.in-Err.ensures.rest),
    )

pub returns : goal.returns
returns g c =
    let led = c.loop-step.invariant in
    shows_stop _ _ _ led.0 Budget c.args.place
    (ends_spent led.1 (omega arith)) (omega (arith, led.2))
