-- One frame more.
use Rattle.std.proofs.Common.{◌≡◌, sym, ◌∙◌}
use Rattle.harts.specs.Frames.{job_of, HasImage, frame_of}
use Rattle.harts.specs.SideBySide.{frame_base_of}
use Rattle.harts.proofs.Numbering.{each_more, all_more}
use Rattle.harts.proofs.loading.ranges.Goals as goal

pub loop-number-preserved : goal.loop-number-preserved
loop-number-preserved c =
    let jobs = c.args.jobs.now in
    let i = c.loop-number.number in
    let one = c.index-jobs-number.result in
    let inside = c.loop-number-test.true in
    let is = c.index-jobs-number.is in
    let begin : c.from-begin.result ≡ frame_base_of i = c.from-begin.ensures ∙ c.frame_base.ensures in
    let size : c.from.result ≡ one.0.frame_bytes = c.from.ensures ∙ c.frame_bytes.ensures.bytes in
    record {
      frames = rw (c.in_ok-push.ensures.items, begin, size, c.loop-number.invariant.frames)
          (sym (each_more job_of jobs i one inside is frame_of));
      allowed = all_more job_of jobs i one inside is HasImage c.loop-number.invariant.allowed
          c.frame_bytes.ensures.allowed;
    }
