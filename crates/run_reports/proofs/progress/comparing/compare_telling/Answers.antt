-- Another step of each, or the comparison's end.
use Rattle.std.proofs.Common.{◌≡◌, ℕ, List, [], ◌∷◌, ◌++◌, length, length-append, is_some, inl, inr, refl, sym, ap}
use Rattle.std.proofs.Common.{add-zero, arith}
use Rattle.run_reports.proofs.progress_lemmas.Together.{InStep, both_step, both_go_on, told_at_end, one_ended}
use Rattle.run_reports.proofs.progress_lemmas.Together.{other_ended, they_differ}
use Rattle.run_reports.proofs.progress_lemmas.Told.{none_yet}
use Rattle.run_reports.specs.Below.{begins, MachineCode, collected, entries_of, Observation, State}
use Rattle.rv_machine.proofs.Face.{entry_count-append, count-few, differ_after, same_after, something_shown}
use Rattle.rv_machine.proofs.Face.{nothing_shown, one-ends, other-ends}
use Rattle.rv_machine.proofs.Face as machine
use Rattle.run_reports.proofs.progress.comparing.compare_telling.Goals.{else-is_due-via-then-is_due+then-one-gt0+else-other-gt0}
use Rattle.run_reports.proofs.progress.comparing.compare_telling.Goals.{else-is_due-via-then-is_due+else-one-gt0}
use Rattle.run_reports.proofs.progress.comparing.compare_telling.Goals.{else-is_due-via-else-is_due}
use Rattle.run_reports.proofs.progress.comparing.compare_telling.Goals as goal

-- what both have shown has so many entries
in_step : {code : MachineCode} {m m' n n' place : ℕ} {s t s' t' : State} {seen : List Observation}
    → length (entries_of seen) ≡ place → InStep code m s n t s' n' t' seen → m' ≡ m
    → machine.InStep code m s n t m' s' n' t' place
in_step {seen = seen} is made equal = (seen, is, made.0, rw equal made.1)

pub steps-init : goal.steps-init
steps-init g c = record {
  shown = ([], refl, refl, (begins, rw c.requires.equal begins));
  few = omega arith;
  few_entries = omega arith;
  last = omega arith;
  due = omega arith;
  next = λ some some'. omega arith;
  reached = inl c.new-lines.ensures.none;
  told = λ tells. none_yet c.new-lines.result.whole c.new-lines.result.count
      (collected (g.E.Sink.taken c.args.err.now) (g.E.Sink.failures c.args.err.now))
      c.new-lines.ensures.whole c.new-lines.ensures.none;
}

pub returns-in_default-seen_other : goal.returns-in_default-seen_other
returns-in_default-seen_other g c =
    let all = c.steps.invariant in
    let one = c.step-seen.ensures in
    let other = c.step-seen_other.ensures in
    let none = c.in_default-seen_other.is in
    let last = other.ended none in
    let shown = something_shown (rw c.in-Some.is at one.made) in
    record {
      compared = rw (sym (add-zero c.steps.place))
          (differ_after (in_step all.shown.2 all.shown.3 c.requires.equal) shown.1
          (nothing_shown (rw (none, last) at other.made)) (other-ends c.in-Some.seen shown.0));
      told = λ tells. told_at_end c.steps.lines.whole c.steps.lines.count all.shown.3 all.shown.1 one.made other.made
          all.due all.next (other_ended none) all.reached (all.told tells);
    }

pub returns-in-Some-first_difference : goal.returns-in-Some-first_difference
returns-in-Some-first_difference g c =
    let all = c.steps.invariant in
    let one = c.step-seen.ensures in
    let other = c.step-seen_other.ensures in
    let differ = c.in-Some-first_difference.ensures.differ in
    let shown = something_shown (rw c.in-Some.is at one.made) in
    let shown' = something_shown (rw c.in-Some-seen_other-2.is at other.made) in
    record {
      compared = differ_after (in_step all.shown.2 all.shown.3 c.requires.equal) shown.1 shown'.1
          (differ shown.0 shown'.0);
      told = λ tells. told_at_end c.steps.lines.whole c.steps.lines.count all.shown.3 all.shown.1 one.made other.made
          all.due all.next (they_differ c.in-Some.is c.in-Some-seen_other-2.is (differ [] [])) all.reached
          (all.told tells);
    }

pub returns-in-Some-seen_other : goal.returns-in-Some-seen_other
returns-in-Some-seen_other g c =
    let all = c.steps.invariant in
    let one = c.step-seen.ensures in
    let other = c.step-seen_other.ensures in
    let last = one.ended c.in_default.is in
    let shown = something_shown (rw c.in-Some-seen_other.is at other.made) in
    record {
      compared = rw (sym (add-zero c.steps.place))
          (differ_after (in_step all.shown.2 all.shown.3 c.requires.equal)
          (nothing_shown (rw (c.in_default.is, last) at one.made)) shown.1
          (one-ends c.in-Some-seen_other.field-0 shown.0));
      told = λ tells. told_at_end c.steps.lines.whole c.steps.lines.count all.shown.3 all.shown.1 one.made other.made
          all.due all.next (one_ended c.in_default.is) all.reached (all.told tells);
    }

pub returns-in-None : goal.returns-in-None
returns-in-None g c =
    let all = c.steps.invariant in
    let one = c.step-seen.ensures in
    let other = c.step-seen_other.ensures in
    let last = one.ended c.in_default.is in
    let last' = other.ended c.in-None.is in
    record {
      compared = same_after (in_step all.shown.2 all.shown.3 c.requires.equal)
          (nothing_shown (rw (c.in_default.is, last) at one.made))
          (nothing_shown (rw (c.in-None.is, last') at other.made));
      told = λ tells. told_at_end c.steps.lines.whole c.steps.lines.count all.shown.3 all.shown.1 one.made other.made
          all.due all.next (one_ended c.in_default.is) all.reached (all.told tells);
    }

pub steps-preserved-then-other-gt0 : goal.steps-preserved-then-other-gt0
steps-preserved-then-other-gt0 g c =
    let all = c.steps.invariant in
    let shown = all.shown in
    let one = c.step-seen.ensures in
    let other = c.step-seen_other.ensures in
    let seen = c.in-Some.seen in
    let same = c.in_default-first_difference.ensures.equal refl in
    let longer = length-append shown.0 (seen ∷ []) in
    let fewer = one.fewer (ap is_some c.in-Some.is) in
    let before = all.next (omega arith) (omega (arith, other.fewer (ap is_some c.in-Some-seen_other-2.is))) in
    let steps = both_step shown.3 (rw c.in-Some.is at one.made)
    (rw (c.in-Some-seen_other-2.is, sym same) at other.made) in
    let next = c.tell.ensures.next in
    record {
      shown = (
        shown.0 ++ seen ∷ [],
        omega (arith, shown.1),
        omega (arith, entry_count-append shown.0 (seen ∷ []), shown.2),
        steps,
      );
      few = omega arith;
      few_entries = omega (arith, count-few seen);
      last = omega arith;
      due = omega arith;
      next = λ some some'. omega arith;
      reached = inr (both_go_on steps c.if-one-gt0.true c.if-other-gt0.true
          (omega (arith, shown.1)));
      told = λ tells. c.tell.ensures.told
          (collected (g.E.Sink.taken c.args.err.now) (g.E.Sink.failures c.args.err.now))
          tells (all.told tells);
    }

pub steps-preserved : goal.steps-preserved
steps-preserved g c =
    let all = c.steps.invariant in
    let shown = all.shown in
    let one = c.step-seen.ensures in
    let other = c.step-seen_other.ensures in
    let seen = c.in-Some.seen in
    let same = c.in_default-first_difference.ensures.equal refl in
    let fewer = one.fewer (ap is_some c.in-Some.is) in
    let before = all.next (omega arith) (omega (arith, other.fewer (ap is_some c.in-Some-seen_other-2.is))) in
    record {
      shown = (
        shown.0 ++ seen ∷ [],
        omega (arith, length-append shown.0 (seen ∷ []), shown.1),
        omega (arith, entry_count-append shown.0 (seen ∷ []), shown.2),
        both_step shown.3 (rw c.in-Some.is at one.made) (rw (c.in-Some-seen_other-2.is, sym same) at other.made),
      );
      few = omega arith;
      few_entries = omega (arith, count-few seen);
      last = omega arith;
      due = omega arith;
      next = λ some some'. elim c.else-is_due.branch [
        | else-is_due-via-then-is_due+then-one-gt0+else-other-gt0 w ↦ omega arith
        | else-is_due-via-then-is_due+else-one-gt0 w ↦ omega arith
        | else-is_due-via-else-is_due w ↦ omega arith
      ];
      reached = all.reached;
      told = all.told;
    }
