-- Another step of both, or their end.
use Rattle.std.proofs.Common.{◌≡◌, None, inl, inr, refl, arith, ◌∙◌}
use Rattle.rv_machine.proofs.SystemLaws.{none_of}
use Rattle.run_reports.proofs.pictures_lemmas.Painted.{some_shown, paint_begins, paint_on, paint_ends}
use Rattle.run_reports.proofs.progress_lemmas.Followed.{few_of_one, followed_from, followed_on, left_of_longer, left_of_one}
use Rattle.run_reports.proofs.progress_lemmas.Followed.{one_goes_on, told_of_both}
use Rattle.run_reports.proofs.progress_lemmas.Told.{none_yet}
use Rattle.run_reports.specs.Below.{collected}
use Rattle.run_reports.proofs.pictures.painting.paint.Goals.{else-is_none-via-then-is_none+else-is_none-2}
use Rattle.run_reports.proofs.pictures.painting.paint.Goals.{else-is_none-via-else-is_none}
use Rattle.run_reports.proofs.pictures.painting.paint.Goals.{else-is_due-via-then-is_due+else-left-gt0}
use Rattle.run_reports.proofs.pictures.painting.paint.Goals.{else-is_due-via-else-is_due}
use Rattle.run_reports.proofs.pictures.painting.paint.Goals as goal

pub steps-init : goal.steps-init
steps-init g c = record {
  painted = paint_begins c.requires.empty;
  one = followed_from;
  other = followed_from;
  few = omega arith;
  axes = refl;
  last = omega arith;
  due = omega arith;
  next = λ some. omega arith;
  reached = inl c.new-lines.ensures.none;
  told = λ tells. none_yet c.new-lines.result.whole c.new-lines.result.count
      (collected (g.E.Sink.taken c.args.err.now) (g.E.Sink.failures c.args.err.now))
      c.new-lines.ensures.whole c.new-lines.ensures.none;
}

pub returns-then-is_none-2-clause-painted : goal.returns-then-is_none-2-clause-painted
returns-then-is_none-2-clause-painted g c =
    let one : c.step-seen.result ≡ None = none_of c.step-seen.result c.if-is_none.ensures in
    let other : c.step-seen_other.result ≡ None = none_of c.step-seen_other.result c.if-is_none-2.ensures in
    paint_ends c.steps.invariant.painted one other (c.step-seen.ensures.ended one)
    (c.step-seen_other.ensures.ended other) c.step-seen.ensures.shown c.step-seen_other.ensures.shown

pub returns-then-is_none-2-clause-told : goal.returns-then-is_none-2-clause-told
returns-then-is_none-2-clause-told g c = λ tells.
    let all = c.steps.invariant in
    told_of_both all.one all.other c.steps.lines.whole c.steps.lines.count c.step-seen.ensures.made
    c.step-seen_other.ensures.made (none_of c.step-seen.result c.if-is_none.ensures)
    (none_of c.step-seen_other.result c.if-is_none-2.ensures) all.due all.next all.reached (all.told tells)

pub steps-preserved-then-left-gt0 : goal.steps-preserved-then-left-gt0
steps-preserved-then-left-gt0 g c =
    let all = c.steps.invariant in
    let adds = rw all.axes at c.put_step.ensures.put in
    let one = c.step-seen.ensures in
    let other = c.step-seen_other.ensures in
    let some : (c.step-seen.result ≡ None) × (c.step-seen_other.result ≡ None) → ⊥ = elim c.else-is_none.branch [
      | else-is_none-via-then-is_none+else-is_none-2 w ↦
          λ h. some_shown c.step-seen_other.result w.if-is_none-2.ensures h.1
      | else-is_none-via-else-is_none w ↦ λ h. some_shown c.step-seen.result w.if-is_none.ensures h.0
    ] in
    let was_left = left_of_one c.step-seen.result c.step-seen_other.result one.fewer other.fewer some in
    let soon = all.next was_left in
    let next = c.tell.ensures.next in
    let followed = followed_on c.step-seen.result all.one one.made one.fewer one.ended in
    let followed' = followed_on c.step-seen_other.result all.other other.made other.fewer other.ended in
    record {
      painted = paint_on c.step-seen.result c.step-seen_other.result all.painted c.parting_at-parting.ensures adds
          one.shown other.shown one.ended other.ended some;
      one = followed;
      other = followed';
      few = few_of_one all.one all.other was_left c.requires.few c.requires.other_few;
      axes = c.put_step.ensures.axes ∙ all.axes;
      last = omega arith;
      due = omega arith;
      next = λ more. omega arith;
      reached = inr (one_goes_on followed followed'
          (left_of_longer _ _ c.max-left.ensures c.if-left-gt0.true) (omega arith));
      told = λ tells. c.tell.ensures.told
          (collected (g.E.Sink.taken c.args.err.now) (g.E.Sink.failures c.args.err.now))
          tells (all.told tells);
    }

pub steps-preserved : goal.steps-preserved
steps-preserved g c =
    let all = c.steps.invariant in
    let adds = rw all.axes at c.put_step.ensures.put in
    let one = c.step-seen.ensures in
    let other = c.step-seen_other.ensures in
    let some : (c.step-seen.result ≡ None) × (c.step-seen_other.result ≡ None) → ⊥ = elim c.else-is_none.branch [
      | else-is_none-via-then-is_none+else-is_none-2 w ↦
          λ h. some_shown c.step-seen_other.result w.if-is_none-2.ensures h.1
      | else-is_none-via-else-is_none w ↦ λ h. some_shown c.step-seen.result w.if-is_none.ensures h.0
    ] in
    let was_left = left_of_one c.step-seen.result c.step-seen_other.result one.fewer other.fewer some in
    let soon = all.next was_left in
    record {
      painted = paint_on c.step-seen.result c.step-seen_other.result all.painted c.parting_at-parting.ensures adds
          one.shown other.shown one.ended other.ended some;
      one = followed_on c.step-seen.result all.one one.made one.fewer one.ended;
      other = followed_on c.step-seen_other.result all.other other.made other.fewer other.ended;
      few = few_of_one all.one all.other was_left c.requires.few c.requires.other_few;
      axes = c.put_step.ensures.axes ∙ all.axes;
      last = omega arith;
      due = omega arith;
      next = λ more. elim c.else-is_due.branch [
        | else-is_due-via-then-is_due+else-left-gt0 w ↦ elim more [
          | inl of_one ↦ omega (arith, c.max-left.ensures)
          | inr of_other ↦ omega (arith, c.max-left.ensures)
        ]
        | else-is_due-via-else-is_due w ↦ omega arith
      ];
      reached = all.reached;
      told = all.told;
    }
