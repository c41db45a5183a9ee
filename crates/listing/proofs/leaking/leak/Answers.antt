-- The lines of the run, and then that of its stop.
use Rattle.std.proofs.Common.{sym, ◌∙◌}
use Rattle.std.proofs.lemmas.Result.{err_from_is_err_and}
use Rattle.listing.specs.Leaked.{refused, out_of_memory, ran, cut_off}
use Rattle.listing.proofs.Below.{of_image_runs}
use Rattle.listing.proofs.StopLines.{lines_cut, stop_cut, stop_written}
use Rattle.listing.proofs.leaking.leak.Goals as goal

pub returns-in-Some-clause-answer : goal.returns-in-Some-clause-answer
returns-in-Some-clause-answer g c =
    rw c.from.ensures (refused (sym c.first_fault.ensures.first ∙ c.in-Some.is))

pub returns-in_err-code-clause-answer : goal.returns-in_err-code-clause-answer
returns-in_err-code-clause-answer g c =
    let p = err_from_is_err_and c.from_residual.result c.from_residual.ensures.1 in
    rw (p.1, p.2) (out_of_memory (sym c.first_fault.ensures.first ∙ c.in_default.is))

pub returns-in_err-run-clause-answer : goal.returns-in_err-run-clause-answer
returns-in_err-run-clause-answer g c =
    let p = err_from_is_err_and c.from_residual-in_err-run.result c.from_residual-in_err-run.ensures.1 in
    rw (p.1, p.2) (out_of_memory (sym c.first_fault.ensures.first ∙ c.in_default.is))

pub returns-in_err-stop-clause-answer : goal.returns-in_err-stop-clause-answer
returns-in_err-stop-clause-answer g c =
    let p = err_from_is_err_and c.from_residual-in_err-stop.result c.from_residual-in_err-stop.ensures.1 in
    rw (p.1, p.2) (cut_off (sym c.first_fault.ensures.first ∙ c.in_default.is))

pub returns-in_err-stop-clause-beginning : goal.returns-in_err-stop-clause-beginning
returns-in_err-stop-clause-beginning g c = λ tells is.
    let part = rw (c.in_ok-code.ensures, c.in_ok-run.ensures.steps, c.in_ok-run.ensures.state) at
    (c.in_err-stop.ensures.beginning tells) in
    lines_cut c.args.image.now c.args.args.now (g.W.Sink.taken c.args.sink.now)
    (g.W.Sink.taken c.write_steps.new.sink) part

pub returns-in_err-put_all-clause-answer : goal.returns-in_err-put_all-clause-answer
returns-in_err-put_all-clause-answer g c =
    let p = err_from_is_err_and c.from_residual-in_err-put_all.result c.from_residual-in_err-put_all.ensures.1 in
    rw (p.1, p.2) (cut_off (sym c.first_fault.ensures.first ∙ c.in_default.is))

pub returns-in_err-put_all-clause-beginning : goal.returns-in_err-put_all-clause-beginning
returns-in_err-put_all-clause-beginning g c = λ tells is.
    let lines = rw (c.in_ok-code.ensures, c.in_ok-run.ensures.steps, c.in_ok-run.ensures.state) at
    (c.in_ok-stop.ensures.written tells) in
    let part = rw (c.as_slice.ensures.value, c.stop_line.ensures) at (c.in_err-put_all.ensures.beginning tells) in
    stop_cut c.args.image.now c.args.args.now c.in_ok-stop.stop _ (g.W.Sink.taken c.args.sink.now)
    (g.W.Sink.taken c.write_steps.new.sink) (g.W.Sink.taken c.put_all.new.sink) lines part

pub returns-clause-answer : goal.returns-clause-answer
returns-clause-answer g c =
    let ended = rw (c.in_ok-code.ensures, c.in_ok-run.ensures.steps, c.in_ok-run.ensures.state) at
    c.in_ok-stop.ensures.ended in
    ran (sym c.first_fault.ensures.first ∙ c.in_default.is) (_, (of_image_runs ended.1.0, ended.1.1))

pub returns-clause-written : goal.returns-clause-written
returns-clause-written g c = λ tells.
    let lines = rw (c.in_ok-code.ensures, c.in_ok-run.ensures.steps, c.in_ok-run.ensures.state) at
    (c.in_ok-stop.ensures.written tells) in
    let whole = rw (c.as_slice.ensures.value, c.stop_line.ensures) at (c.in_ok-put_all.ensures.whole tells) in
    stop_written c.args.image.now c.args.args.now c.in_ok-stop.stop _ (g.W.Sink.taken c.args.sink.now)
    (g.W.Sink.taken c.write_steps.new.sink) (g.W.Sink.taken c.put_all.new.sink) lines whole
