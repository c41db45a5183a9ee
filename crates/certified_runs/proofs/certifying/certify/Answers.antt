-- A step more, or the last one.
use Rattle.std.proofs.Common.{sym, ap, ◌∙◌, arith}
use Rattle.certified_runs.specs.Below.{State}
use Rattle.certified_runs.proofs.Below.{count-few}
use Rattle.certified_runs.proofs.Ends.{ends_by, ends_open, ends_at_last, none_made, one_more_made, all_made, not_all}
use Rattle.certified_runs.proofs.KnownSteps.{few_entries}
use Rattle.certified_runs.proofs.certifying.certify.Goals as goal

pub overflow_add-result : goal.overflow_add-result
overflow_add-result g c =
    let stepped = c.in-Ends.ensures.stepped in
    omega (arith, stepped.2, few_entries stepped.1)

pub returns-in-Ends-clause-certified : goal.returns-in-Ends-clause-certified
returns-in-Ends-clause-certified g c =
    let stepped = c.in-Ends.ensures.stepped in
    ends_by c.loop-run.invariant.made c.in-Ends.more c.loop-run-test.true stepped.1 stepped.2

pub returns-in-Depends-clause-certified : goal.returns-in-Depends-clause-certified
returns-in-Depends-clause-certified g c =
    let stepped = c.in-Depends.ensures.stepped in
    rw (c.pc.ensures ∙ ap (λ (s : State). s.pc) stepped.1) (ends_open c.loop-run.invariant.made c.loop-run-test.true stepped.0)

pub loop-run-init : goal.loop-run-init
loop-run-init g c = record { made = none_made _ _ _; extent = c.requires.extent; few = omega arith }

pub loop-run-preserved : goal.loop-run-preserved
loop-run-preserved g c =
    let stepped = c.in-LeadsOn.ensures.stepped in
    record {
      made = one_more_made c.in-LeadsOn.more c.loop-run.invariant.made (omega arith) stepped.1 stepped.2;
      extent = c.in-LeadsOn.ensures.extent;
      few = omega (arith, stepped.2, count-few stepped.0);
    }

pub returns-clause-certified : goal.returns-clause-certified
returns-clause-certified g c = ends_at_last c.loop-run.invariant.made (omega arith)

pub returns-in-Ends-clause-ended : goal.returns-in-Ends-clause-ended
returns-in-Ends-clause-ended g c = λ seen later some all.
    not_all c.loop-run.invariant.made c.loop-run-test.true c.in-Ends.ensures.stepped.1 tt all

pub returns-in-Depends-clause-ended : goal.returns-in-Depends-clause-ended
returns-in-Depends-clause-ended g c = λ seen later some all.
    not_all c.loop-run.invariant.made c.loop-run-test.true c.in-Depends.ensures.stepped.0 tt all

pub returns-in-Ends-clause-stopped : goal.returns-in-Ends-clause-stopped
returns-in-Ends-clause-stopped g c = λ some.
    let made = c.loop-run.invariant.made in
    let stepped = c.in-Ends.ensures.stepped in
    (made.0, made.1, _, made.2, sym stepped.3, (stepped.0, stepped.1))

pub returns-in-Depends-clause-stopped : goal.returns-in-Depends-clause-stopped
returns-in-Depends-clause-stopped g c = λ some.
    let made = c.loop-run.invariant.made in
    let stepped = c.in-Depends.ensures.stepped in
    (made.0, made.1, _, made.2, sym stepped.1, stepped.0)

pub returns-clause-spent : goal.returns-clause-spent
returns-clause-spent g c = λ none. all_made c.loop-run.invariant.made none
