-- Space for one outcome more.
use Rattle.std.proofs.Common.{take, map}
use Rattle.harts.specs.Frames.{job_of}
use Rattle.harts.proofs.EndSpaceLemmas.{space_more}
use Rattle.harts.proofs.Numbering.{taken_more}
use Rattle.harts.proofs.ends.end_space.Goals as goal

pub loop-job-preserved : goal.loop-job-preserved
loop-job-preserved c =
    let jobs = c.args.jobs.now in
    let i = c.loop-job.job-index in
    let one = c.job-item.result in
    rw (taken_more job_of jobs i one c.loop-job-test.true c.job-item.is, c.in_ok-push.ensures.items)
    (space_more (take i (map job_of jobs)) c.loop-job.each.items (job_of one) c.in_ok-result_space.field-0
    c.loop-job.invariant c.in_ok-result_space.ensures)
