use Rattle.std.proofs.Common.{◌≡◌, ◌+◌, ◌*◌, slice_index, ap, ap₂, ◌∙◌, arith}
use Rattle.intervals.specs.Below.{counted, flat_block}
use Rattle.intervals.specs.Work.{body_work}
use Rattle.intervals.proofs.WorkLemmas.{branch_work, loop_work, times_counted}
use Rattle.intervals.proofs.work.+work.Goals as goal

pub work_of-returns-in-Branch : goal.work_of-returns-in-Branch
work_of-returns-in-Branch t c =
    let iterations = c.args.iterations.now in
    let whole = branch_work iterations c.args.statement.now _ c.in-Branch.condition c.in-Branch.accepted
    c.in-Branch.otherwise c.in-Branch.is in
    simp (whole, ← c.as_slice-in-Branch.ensures.value, ← c.as_slice-in-Branch-2.ensures.value)
    (omega (
      arith,
      c.nodes_in-in-Branch.ensures,
      c.work_of_all.ensures,
      c.work_of_all-in-Branch.ensures,
      c.saturating_add-in-Branch.ensures,
      c.saturating_add-in-Branch-2.ensures,
      c.saturating_add-in-Branch-3.ensures,
    ))

pub work_of-returns-in-Loop : goal.work_of-returns-in-Loop
work_of-returns-in-Loop t c =
    let iterations = c.args.iterations.now in
    let whole = loop_work iterations c.args.statement.now c.in-Loop.counter c.in-Loop.low c.in-Loop.high c.in-Loop.body
    c.in-Loop.is in
    simp (whole, ← c.as_slice-in-Loop.ensures.value)
    (omega (
      arith,
      c.nodes_in-in-Loop.ensures,
      c.nodes_in-in-Loop-2.ensures,
      c.work_of_iterations.ensures,
      c.saturating_add-in-Loop.ensures,
      c.saturating_add-in-Loop-2.ensures,
    ))

pub work_of_iterations-returns : goal.work_of_iterations-returns
work_of_iterations-returns t c =
    let iterations = c.args.iterations.now in
    let body = body_work iterations (flat_block c.args.body.now) in
    let times : c.from-times.result + 1 ≡ slice_index iterations c.args.counter + 1 =
    ap (λ n. n + 1) (c.from-times.ensures ∙ c.iterations_at.ensures) in
    let iteration : c.saturating_add-iteration.result ≡ counted (1 + body) =
    omega (arith, c.saturating_add-iteration.ensures, c.work_of_all.ensures) in
    c.saturating_mul.ensures
    ∙ (ap₂ (λ t n. counted (t * n)) times iteration
    ∙ times_counted (slice_index iterations c.args.counter + 1) (1 + body) (omega arith))
