-- What both runs have shown is one list, up to the first difference.
use Rattle.std.proofs.Common.{[], is_some, refl, sym, ap, add-zero, arith}
use Rattle.rv_machine.specs.Progress.{begins}
use Rattle.rv_machine.proofs.Pairs.{one-ends, other-ends, count-few}
use Rattle.rv_machine.proofs.Progressing.{step_on, part_after, end_after, differ_after, same_after}
use Rattle.rv_machine.proofs.Shown.{something_shown, nothing_shown}
use Rattle.rv_machine.proofs.pairing.compare.Goals as goal

pub steps-init : goal.steps-init
steps-init g c = record {
  steps = ([], refl, begins, begins);
  few = omega arith;
}

pub returns-in_default-step : goal.returns-in_default-step
returns-in_default-step g c =
    let one = rw c.in-Some.is at c.step.ensures.made in
    let other = rw c.in_default-step.is at c.step-in-steps.ensures.made in
    let last = c.step-in-steps.ensures.ended c.in_default-step.is in
    let shown = something_shown one in
    record {
      compared = rw (sym (add-zero c.steps.place))
          (differ_after c.steps.invariant.steps shown.1 (nothing_shown (rw last at other))
          (other-ends c.in-Some.seen shown.0));
      parted = part_after 0 c.steps.invariant.steps one other (other-ends c.in-Some.seen [])
          (sym (add-zero c.steps.place));
      ended = λ same. cc;
    }

pub returns-in-Some-first_difference : goal.returns-in-Some-first_difference
returns-in-Some-first_difference g c =
    let one = rw c.in-Some.is at c.step.ensures.made in
    let other = rw c.in-Some-step.is at c.step-in-steps.ensures.made in
    let differ = c.in-Some-first_difference.ensures.differ in
    let shown = something_shown one in
    let shown' = something_shown other in
    record {
      compared = differ_after c.steps.invariant.steps shown.1 shown'.1 (differ shown.0 shown'.0);
      parted = part_after c.in-Some-first_difference.entry c.steps.invariant.steps one other (differ [] []) refl;
      ended = λ same. cc;
    }

pub steps-preserved : goal.steps-preserved
steps-preserved g c =
    let same = c.in_default-first_difference.ensures.equal refl in
    let many = c.entry_count-place.ensures in
    record {
      steps = step_on c.entry_count-place.result c.steps.invariant.steps many
          (rw c.in-Some.is at c.step.ensures.made)
          (rw (c.in-Some-step.is, sym same) at c.step-in-steps.ensures.made);
      few = omega (arith, count-few c.in-Some.seen, c.step.ensures.fewer (ap is_some c.in-Some.is));
    }

pub returns-in-Some-last_step : goal.returns-in-Some-last_step
returns-in-Some-last_step g c =
    let one = rw c.in_default.is at c.step.ensures.made in
    let other = rw c.in-Some-last_step.is at c.last_step.ensures.made in
    let last = c.step.ensures.ended c.in_default.is in
    let shown = something_shown other in
    record {
      compared = rw (sym (add-zero c.steps.place))
          (differ_after c.steps.invariant.steps (nothing_shown (rw last at one)) shown.1
          (one-ends c.in-Some-last_step.field-0 shown.0));
      parted = part_after 0 c.steps.invariant.steps one other (one-ends c.in-Some-last_step.field-0 [])
          (sym (add-zero c.steps.place));
      ended = λ same. cc;
    }

pub returns-in-None : goal.returns-in-None
returns-in-None g c =
    let one = rw c.in_default.is at c.step.ensures.made in
    let other = rw c.in-None.is at c.last_step.ensures.made in
    let last = c.step.ensures.ended c.in_default.is in
    let last' = c.last_step.ensures.ended c.in-None.is in
    record {
      compared = same_after c.steps.invariant.steps (nothing_shown (rw last at one))
          (nothing_shown (rw last' at other));
      parted = λ place same. cc;
      ended = λ same. end_after c.steps.invariant.steps one other last last';
    }
