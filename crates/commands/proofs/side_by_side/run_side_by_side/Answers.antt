-- What was loaded, run and printed.
use Rattle.std.proofs.Common.{List, ℕ, map, refl, ap}
use Rattle.commands.specs.Harts.{by_jobs, plan_wants_memory, RefusesPlan}
use Rattle.commands.specs.Below.{hart_of, IsPlan, job_of}
use Rattle.commands.specs.Unread.{IsOutOfMemory}
use Rattle.commands.specs.declared.fault.Fault.{Fault}
use Rattle.language.proofs.Handed.{handed_on, converted_on}
use Rattle.commands.proofs.AnswerLemmas.{read_fault, read_memory}
use Rattle.commands.proofs.HartLemmas.{plan_said, run_refused}
use Rattle.commands.proofs.side_by_side.run_side_by_side.Goals as goal

pub returns-clause-said : goal.returns-clause-said
returns-clause-said g c = λ tells plan planned.
    plan_said (g.F.Files.store c.args.files.now).contents plan (map hart_of c.args.named.now) c.args.schedule.now
    c.args.schedule.now (map job_of c.in_ok-jobs.jobs.items) (map job_of c.as_slice.result.now)
    (map job_of c.as_slice-2.result.now)
    c.new-recorder.result.kept c.run_harts.new.recorder.kept c.list.result.now c.in_ok-ends.ends.items
    c.as_slice-3.result.now c.as_slice-4.result.now c.in_ok-text.text.items c.status_of-status.result
    planned (c.in_ok-jobs.ensures.said tells) c.in_ok-ends.ensures.ran c.new-recorder.ensures.empty
    (ap (map job_of) c.as_slice.ensures.value) refl
    c.in_ok-text.ensures (ap (map job_of) c.as_slice-2.ensures.value) c.list.ensures c.as_slice-3.ensures.value
    c.status_of-status.ensures.exact c.as_slice-4.ensures.value

pub returns-in_err-jobs-clause-refused : goal.returns-in_err-jobs-clause-refused
returns-in_err-jobs-clause-refused g c = λ tells.
    handed_on _ _ c.from_residual.ensures.1 (λ plan planned. by_jobs planned (c.in_err-jobs.ensures.refused tells))

pub returns-in_err-ends-clause-refused : goal.returns-in_err-ends-clause-refused
returns-in_err-ends-clause-refused g c = λ tells.
    handed_on _ _ c.from_residual-in_err-ends.ensures.1
    (λ plan planned. run_refused (g.F.Files.store c.args.files.now).contents plan (map hart_of c.args.named.now)
    c.args.schedule.now c.args.schedule.now (map job_of c.in_ok-jobs.jobs.items) (map job_of c.as_slice.result.now)
    c.new-recorder.result.kept c.run_harts.new.recorder.kept c.in_err-ends.field-0.0 planned
    (c.in_ok-jobs.ensures.said tells) c.in_err-ends.ensures.ran (ap (map job_of) c.as_slice.ensures.value) refl)

pub returns-in_err-text-clause-refused : goal.returns-in_err-text-clause-refused
returns-in_err-text-clause-refused g c = λ tells.
    let files = (g.F.Files.store c.args.files.now).contents in
    let harts = map hart_of c.args.named.now in
    let schedule = c.args.schedule.now in
    let why : (e : Fault) → IsOutOfMemory e → (plan : List ℕ) → IsPlan plan harts schedule → RefusesPlan files plan e =
    λ e memory plan planned. plan_wants_memory memory in
    converted_on _ c.from_residual-in_err-text.ensures.1 why

pub returns-in_err-jobs-clause-read : goal.returns-in_err-jobs-clause-read
returns-in_err-jobs-clause-read g c = read_fault _ _ _ _ c.from_residual.ensures.1 c.in_err-jobs.ensures.read

pub returns-in_err-ends-clause-read : goal.returns-in_err-ends-clause-read
returns-in_err-ends-clause-read g c = read_fault _ _ _ _ c.from_residual-in_err-ends.ensures.1 c.in_ok-jobs.ensures.read

pub returns-in_err-text-clause-read : goal.returns-in_err-text-clause-read
returns-in_err-text-clause-read g c = read_memory _ c.from_residual-in_err-text.ensures.1 c.in_ok-jobs.ensures.read

pub returns-clause-read : goal.returns-clause-read
returns-clause-read g c = c.in_ok-jobs.ensures.read
