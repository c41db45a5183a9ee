-- A run is refused, or cut short when out of memory, or follows the schedule.
use Rattle.std.proofs.Common.{◌≡◌, Ok, length, map, inr, sym, ap, subst, ◌∙◌}
use Rattle.std.proofs.lemmas.List.{length-map}
use Rattle.std.proofs.lemmas.Result.{err_from_is_err_and}
use Rattle.harts.specs.Below.{CutShort, Followed, member_now, paged_bytes, System, system_now}
use Rattle.harts.specs.Frames.{job_of}
use Rattle.harts.specs.RunHarts.{refused, out_of_memory, cut_short, ran}
use Rattle.harts.proofs.Numbering.{members_from-count}
use Rattle.harts.proofs.running.run_harts.Goals as goal

pub returns-in_err-check-clause-ran : goal.returns-in_err-check-clause-ran
returns-in_err-check-clause-ran g c =
    let p = err_from_is_err_and c.from_residual.result c.from_residual.ensures.1 in
    rw (p.1, p.2) (refused c.in_err-check.ensures.refused)

pub returns-in_err-space-clause-ran : goal.returns-in_err-space-clause-ran
returns-in_err-space-clause-ran g c =
    let p = err_from_is_err_and c.from_residual-in_err-space.result c.from_residual-in_err-space.ensures.1 in
    rw (p.1, p.2) (out_of_memory c.in_ok-check.ensures.allowed)

pub returns-in_err-running-clause-ran : goal.returns-in_err-running-clause-ran
returns-in_err-running-clause-ran g c =
    let p = err_from_is_err_and c.from_residual-in_err-running.result c.from_residual-in_err-running.ensures.1 in
    rw (p.1, p.2) (out_of_memory c.in_ok-check.ensures.allowed)

pub follow-requires : goal.follow-requires
follow-requires g c =
    let jobs = map job_of c.args.jobs.now in
    let harts = c.in_ok-running.running.harts.items in
    let count : length harts ≡ length jobs = sym (length-map harts member_now)
    ∙ (ap (λ (s : System). length s.members) c.in_ok-running.ensures.loaded ∙ members_from-count 0 jobs) in
    rw count c.in_ok-check.ensures.allowed.named

pub returns-in_err-follow-clause-ran : goal.returns-in_err-follow-clause-ran
returns-in_err-follow-clause-ran g c =
    let p = err_from_is_err_and c.from_residual-in_err-follow.result c.from_residual-in_err-follow.ensures.1 in
    let short =
    subst (λ (s : System). CutShort g.R.HartRecorder.KEEPS c.args.schedule.now s
    (g.R.HartRecorder.list c.args.recorder.now) (g.R.HartRecorder.list c.follow.new.recorder))
    c.in_ok-running.ensures.loaded c.in_err-follow.ensures.cut_short in
    rw (p.1, p.2) (cut_short c.in_ok-check.ensures.allowed short)

pub ends-requires-clause-count : goal.ends-requires-clause-count
ends-requires-clause-count g c =
    let jobs = map job_of c.args.jobs.now in
    let harts = c.in_ok-running.running.harts.items in
    let count : length harts ≡ length jobs = sym (length-map harts member_now)
    ∙ (ap (λ (s : System). length s.members) c.in_ok-running.ensures.loaded ∙ members_from-count 0 jobs) in
    c.follow.ensures.count ∙ (count ∙ length-map c.args.jobs.now job_of)

pub returns-in_err-follow-clause-memory : goal.returns-in_err-follow-clause-memory
returns-in_err-follow-clause-memory g c = λ _. inr c.in_err-follow.ensures.refused

pub returns-clause-ran : goal.returns-clause-ran
returns-clause-ran g c =
    let end = system_now c.follow.new.self.harts.items (paged_bytes c.follow.new.self.memory) in
    let whole =
    subst (λ (s : System). Followed g.R.HartRecorder.KEEPS c.args.schedule.now s
    (g.R.HartRecorder.list c.args.recorder.now) end (g.R.HartRecorder.list c.follow.new.recorder))
    c.in_ok-running.ensures.loaded c.in_ok-follow.ensures.followed in
    ran {end = end} c.in_ok-check.ensures.allowed whole (ap Ok c.ends.ensures)
