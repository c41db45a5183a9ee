-- Step by step, up to the one at whose entries the place is.
use Rattle.std.proofs.Common.{[], ◌∷◌, ◌++◌, sym, ◌∙◌, arith}
use Rattle.run_reports.specs.Below.{Budget, stays}
use Rattle.run_reports.proofs.run_places_lemmas.Below.{entry_count-append, none_of}
use Rattle.run_reports.proofs.run_places_lemmas.Runs.{is_last, Leads-length, fewer_here, ends_silently, ends_spent}
use Rattle.run_reports.proofs.run_places_lemmas.Runs.{went_on_by}
use Rattle.run_reports.proofs.run_places.steps.last_before.Goals as goal

pub loop-steps-init : goal.loop-steps-init
loop-steps-init g c = record { led = ([], stays, omega arith); before = c.requires }

pub returns-in_default-clause-none : goal.returns-in_default-clause-none
returns-in_default-clause-none g c = λ none.
    let led = c.loop-steps.invariant.led in
    let end = ends_silently led.1 c.loop-steps-test.true c.one_step-seen.ensures c.in_default.is in
    (led.0, end.0, end.1, omega (arith, led.2))

pub returns-then-left-shown-clause-found : goal.returns-then-left-shown-clause-found
returns-then-left-shown-clause-found g c =
    let led = c.loop-steps.invariant.led in
    let last = is_last led.1 {place = c.args.place} c.loop-steps-test.true c.one_step-seen.ensures c.in-Some.is
    (omega (arith, led.2))
    (omega (arith, led.2)) in
    (led.0, _, last, sym (Leads-length led.1), omega (arith, led.2))

pub returns-then-is_some-clause-none : goal.returns-then-is_some-clause-none
returns-then-is_some-clause-none g c = λ none.
    let led = c.loop-steps.invariant.led in
    fewer_here led.1 c.loop-steps-test.true c.one_step-seen.ensures c.in-Some.is
    (sym c.is_some.ensures ∙ c.if-is_some.true)
    (omega (arith, led.2))

pub loop-steps-preserved : goal.loop-steps-preserved
loop-steps-preserved g c =
    let led = c.loop-steps.invariant.led in
    let o = c.in-Some.seen in
    let going = none_of c.one_step-seen.result.1 (sym c.is_some.ensures ∙ c.if-is_some.false) in
    record {
      led = (
        led.0 ++ o ∷ [],
        went_on_by led.1 c.one_step-seen.ensures c.in-Some.is going,
        omega (arith, led.2, entry_count-append led.0 (o ∷ [])),
      );
      before = omega arith;
    }

pub returns-clause-none : goal.returns-clause-none
returns-clause-none g c = λ none.
    let led = c.loop-steps.invariant.led in (
      led.0,
      Budget,
      ends_spent led.1 (omega arith),
      omega (arith, led.2),
    )
