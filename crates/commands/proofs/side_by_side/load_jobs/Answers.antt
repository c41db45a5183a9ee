-- One job more.
use Rattle.std.proofs.Common.{◌∙◌, arith}
use Rattle.language.proofs.Handed.{handed_on, converted_on}
use Rattle.commands.proofs.AnswerLemmas.{read_fault, read_memory}
use Rattle.commands.proofs.HartLemmas.{one_job_more, job_refused}
use Rattle.commands.specs.Harts.{jobs_want_memory}
use Rattle.commands.proofs.side_by_side.load_jobs.Goals as goal

pub loop-job-preserved : goal.loop-job-preserved
loop-job-preserved g c = record {
  count = omega (arith, c.in_ok-push.ensures.len);
  same = c.in_ok-image.ensures.read ∙ c.loop-job.invariant.same;
  said = λ tells.
      one_job_more (g.F.Files.store c.args.files.now).contents c.args.jobs.now c.loop-job.job-index c.job-item.result
      c.loop-job.loaded.items c.push.new.self.items c.in_ok-image.image c.in_ok-image.args c.loop-job-test.true
      c.job-item.is c.in_ok-push.ensures.items
      (rw c.loop-job.invariant.same at (c.in_ok-image.ensures.said tells))
      (c.loop-job.invariant.said tells);
}

pub returns-in_err-image-clause-refused : goal.returns-in_err-image-clause-refused
returns-in_err-image-clause-refused g c = λ tells.
    handed_on _ _ c.from_residual.ensures.1
    (job_refused (g.F.Files.store c.args.files.now).contents c.args.jobs.now c.loop-job.job-index c.job-item.result
    c.loop-job.loaded.items _ c.loop-job-test.true c.job-item.is (c.loop-job.invariant.said tells)
    (rw c.loop-job.invariant.same at (c.in_err-image.ensures.refused tells)))

pub returns-in_err-push-clause-refused : goal.returns-in_err-push-clause-refused
returns-in_err-push-clause-refused g c = λ tells.
    converted_on _ c.from_residual-in_err-push.ensures.1 (λ e memory. jobs_want_memory memory)

pub returns-in_err-image-clause-read : goal.returns-in_err-image-clause-read
returns-in_err-image-clause-read g c =
    read_fault _ _ _ _ c.from_residual.ensures.1 (rw c.loop-job.invariant.same at c.in_err-image.ensures.read)

pub returns-in_err-push-clause-read : goal.returns-in_err-push-clause-read
returns-in_err-push-clause-read g c =
    read_memory _ c.from_residual-in_err-push.ensures.1 (c.in_ok-image.ensures.read ∙ c.loop-job.invariant.same)
