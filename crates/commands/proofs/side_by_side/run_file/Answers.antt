use Rattle.std.proofs.Common.{List, ℕ, arith, ap, length, map, refl, subst, sym}
use Rattle.commands.specs.Below.{hart_of}
use Rattle.commands.specs.Harts.{GivesPlan}
use Rattle.commands.proofs.AnswerLemmas.{finds_fault, read_fault}
use Rattle.commands.proofs.HartLemmas.{finds_harts}
use Rattle.input_files.specs.declared.harts_file.jobs.FileJob.{FileJob}
use Rattle.commands.proofs.side_by_side.run_file.Goals as goal

pub returns-in_err-plan-clause-finds : goal.returns-in_err-plan-clause-finds
returns-in_err-plan-clause-finds g c = λ tells.
    finds_fault _ _ c.from_residual.ensures.1 (c.in_err-plan.ensures.refused tells, refl)

pub returns-in_err-plan-clause-read : goal.returns-in_err-plan-clause-read
returns-in_err-plan-clause-read g c = read_fault _ _ _ _ c.from_residual.ensures.1 c.in_err-plan.ensures.counted

pub run_side_by_side-requires : goal.run_side_by_side-requires
run_side_by_side-requires g c =
    let plan = c.in_ok-plan.plan in
    omega (arith, ap length c.as_slice.ensures.value, plan.jobs.ok.0, plan.few)

pub returns-clause-finds : goal.returns-clause-finds
returns-clause-finds g c = λ tells.
    let files = (g.F.Files.store c.args.files.now).contents in
    let plan = c.in_ok-plan.plan in
    let given =
    subst (λ (jobs : List FileJob). GivesPlan files c.args.file.now (map hart_of jobs) c.as_slice-2.result.now)
    (sym c.as_slice.ensures.value)
    (subst (λ (turns : List ℕ). GivesPlan files c.args.file.now (map hart_of plan.jobs.items) turns)
    (sym c.as_slice-2.ensures.value) (c.in_ok-plan.ensures.said tells)) in
    finds_harts c.args.file (map hart_of c.as_slice.result.now) c.as_slice-2.result.now c.run_side_by_side.result given
    (rw c.in_ok-plan.ensures.calm at (c.run_side_by_side.ensures.said tells))
    (rw c.in_ok-plan.ensures.calm at (c.run_side_by_side.ensures.refused tells))

pub returns-clause-read : goal.returns-clause-read
returns-clause-read g c = rw c.in_ok-plan.ensures.calm at c.run_side_by_side.ensures.read
