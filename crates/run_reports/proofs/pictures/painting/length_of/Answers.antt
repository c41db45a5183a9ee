-- Another step, or the run's end.
use Rattle.std.proofs.Common.{is_some, inl, inr, ap, arith}
use Rattle.run_reports.proofs.pictures_lemmas.Painted.{count_begins, count_on, count_ends}
use Rattle.run_reports.proofs.progress_lemmas.Followed.{followed_from, followed_on, followed_reaches, told_alone}
use Rattle.run_reports.proofs.progress_lemmas.Told.{none_yet}
use Rattle.run_reports.specs.Below.{collected}
use Rattle.run_reports.proofs.pictures.painting.length_of.Goals.{else-is_due-via-then-is_due+else-run-gt0}
use Rattle.run_reports.proofs.pictures.painting.length_of.Goals.{else-is_due-via-else-is_due}
use Rattle.run_reports.proofs.pictures.painting.length_of.Goals as goal

pub steps-init : goal.steps-init
steps-init g c = record {
  counted = count_begins;
  followed = followed_from;
  few = omega arith;
  entries_few = omega arith;
  last = omega arith;
  due = omega arith;
  next = λ some. omega arith;
  reached = inl c.new-lines.ensures.none;
  told = λ tells. none_yet c.new-lines.result.whole c.new-lines.result.count
      (collected (g.E.Sink.taken c.args.err.now) (g.E.Sink.failures c.args.err.now))
      c.new-lines.ensures.whole c.new-lines.ensures.none;
}

pub overflow_add-steps : goal.overflow_add-steps
overflow_add-steps g c =
    let fewer = c.step.ensures.fewer (ap is_some c.in-Some.is) in
    omega arith

pub overflow_add-entries : goal.overflow_add-entries
overflow_add-entries g c =
    let fewer = c.step.ensures.fewer (ap is_some c.in-Some.is) in
    omega arith

pub steps-preserved-then-run-gt0 : goal.steps-preserved-then-run-gt0
steps-preserved-then-run-gt0 g c =
    let all = c.steps.invariant in
    let fewer = c.step.ensures.fewer (ap is_some c.in-Some.is) in
    let soon = all.next (omega arith) in
    let next = c.tell.ensures.next in
    let followed = followed_on c.step.result all.followed c.step.ensures.made c.step.ensures.fewer c.step.ensures.ended in
    record {
      counted = count_on all.counted c.in-Some.is c.step.ensures.shown c.entries_in-entries.ensures.exact;
      followed = followed;
      few = omega arith;
      entries_few = omega arith;
      last = omega arith;
      due = omega arith;
      next = λ some. omega arith;
      reached = inr (followed_reaches followed c.if-run-gt0.true (omega arith));
      told = λ tells. c.tell.ensures.told
          (collected (g.E.Sink.taken c.args.err.now) (g.E.Sink.failures c.args.err.now))
          tells (all.told tells);
    }

pub steps-preserved : goal.steps-preserved
steps-preserved g c =
    let all = c.steps.invariant in
    let fewer = c.step.ensures.fewer (ap is_some c.in-Some.is) in
    let soon = all.next (omega arith) in
    record {
      counted = count_on all.counted c.in-Some.is c.step.ensures.shown c.entries_in-entries.ensures.exact;
      followed = followed_on c.step.result all.followed c.step.ensures.made c.step.ensures.fewer c.step.ensures.ended;
      few = omega arith;
      entries_few = omega arith;
      last = omega arith;
      due = omega arith;
      next = λ some. elim c.else-is_due.branch [
        | else-is_due-via-then-is_due+else-run-gt0 w ↦ omega arith
        | else-is_due-via-else-is_due w ↦ omega arith
      ];
      reached = all.reached;
      told = all.told;
    }

pub returns-in_default-clause-counted : goal.returns-in_default-clause-counted
returns-in_default-clause-counted g c =
    count_ends c.steps.invariant.counted c.in_default.is (c.step.ensures.ended c.in_default.is) c.step.ensures.shown

pub returns-in_default-clause-told : goal.returns-in_default-clause-told
returns-in_default-clause-told g c = λ tells.
    let all = c.steps.invariant in
    told_alone c.steps.lines.whole c.steps.lines.count all.followed c.step.ensures.made c.in_default.is all.due all.next
    all.reached (all.told tells)
