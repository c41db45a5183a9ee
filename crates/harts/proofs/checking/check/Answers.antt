-- The count first, then the arguments, then the schedule.
use Rattle.std.proofs.Common.{length, map, sym, subst}
use Rattle.std.proofs.lemmas.List.{length-map}
use Rattle.std.proofs.lemmas.Result.{err_from_is_err_and, IfErr-weaker}
use Rattle.harts.specs.Frames.{job_of}
use Rattle.harts.specs.Refused.{AreFew, RefusesCount, RefusesSchedule, Refuses, by_count, by_arguments, by_schedule}
use Rattle.harts.proofs.checking.check.Goals as goal

pub returns-in_err-check_count-clause-refused : goal.returns-in_err-check_count-clause-refused
returns-in_err-check_count-clause-refused c =
    let p = err_from_is_err_and c.from_residual.result c.from_residual.ensures.1 in
    let fault = c.in_err-check_count.field-0.0 in
    rw (p.1, p.2)
    (by_count (subst (λ n. RefusesCount n fault) (sym (length-map c.args.jobs.now job_of))
    c.in_err-check_count.ensures.refused))

pub returns-in_err-check_arguments-clause-refused : goal.returns-in_err-check_arguments-clause-refused
returns-in_err-check_arguments-clause-refused c =
    let p = err_from_is_err_and c.from_residual-in_err-check_arguments.result
    c.from_residual-in_err-check_arguments.ensures.1 in
    rw (p.1, p.2)
    (by_arguments (subst AreFew (sym (length-map c.args.jobs.now job_of)) c.in_ok-check_count.ensures.few)
    c.in_err-check_arguments.ensures.refused)

pub returns-clause-refused : goal.returns-clause-refused
returns-clause-refused c =
    let all = map job_of c.args.jobs.now in
    let schedule = c.args.schedule.now in
    let count = sym (length-map c.args.jobs.now job_of) in
    let few = subst AreFew count c.in_ok-check_count.ensures.few in
    IfErr-weaker c.check_schedule.result (RefusesSchedule (length c.args.jobs.now) schedule) (Refuses all schedule)
    (λ fault refuses. by_schedule few c.in_ok-check_arguments.ensures.faultless
    (subst (λ n. RefusesSchedule n schedule fault) count refuses))
    c.check_schedule.ensures.refused
