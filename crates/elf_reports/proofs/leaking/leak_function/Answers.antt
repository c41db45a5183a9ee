-- The lines of the run, and then that of how it stops.
use Rattle.std.proofs.Common.{◌≡◌, ap, ◌∙◌}
use Rattle.std.proofs.lemmas.Result.{err_from_is_err_and}
use Rattle.elf_reports.specs.Below.{function_stop, KnownState, paged_bytes, state_of}
use Rattle.elf_reports.specs.Leaked.{cut_off, ran, refused}
use Rattle.elf_reports.proofs.EndLines.{end_cut, end_written, lines_cut}
use Rattle.elf_reports.proofs.leaking.leak_function.Goals as goal

pub returns-in_err-loaded-clause-answer : goal.returns-in_err-loaded-clause-answer
returns-in_err-loaded-clause-answer g c =
    let p = err_from_is_err_and c.from_residual.result c.from_residual.ensures.1 in
    rw (p.1, p.2) (refused c.in_err-loaded.ensures.fault)

pub returns-in_err-stop-clause-answer : goal.returns-in_err-stop-clause-answer
returns-in_err-stop-clause-answer g c =
    let p = err_from_is_err_and c.from_residual-in_err-stop.result c.from_residual-in_err-stop.ensures.1 in
    rw (p.1, p.2) (cut_off c.in_ok-loaded.ensures.met)

pub returns-in_err-stop-clause-beginning : goal.returns-in_err-stop-clause-beginning
returns-in_err-stop-clause-beginning g c = λ tells is.
    let loaded = c.in_ok-loaded.ensures in
    let start = ap (λ (k : KnownState). k.state) loaded.known in
    lines_cut c.args.program.now c.args.asked.now c.args.options (g.W.Sink.taken c.args.sink.now)
    (g.W.Sink.taken c.write_steps.new.sink)
    (rw (loaded.program, loaded.steps, start) at (c.in_err-stop.ensures.beginning tells))

pub returns-in_err-put_end-clause-answer : goal.returns-in_err-put_end-clause-answer
returns-in_err-put_end-clause-answer g c =
    let p = err_from_is_err_and c.from_residual-in_err-put_end.result c.from_residual-in_err-put_end.ensures.1 in
    rw (p.1, p.2) (cut_off c.in_ok-loaded.ensures.met)

pub returns-in_err-put_end-clause-beginning : goal.returns-in_err-put_end-clause-beginning
returns-in_err-put_end-clause-beginning g c = λ tells is.
    let loaded = c.in_ok-loaded.ensures in
    let start = ap (λ (k : KnownState). k.state) loaded.known in
    let end = state_of c.write_steps.new.run.hart (paged_bytes c.write_steps.new.run.memory) in
    let how : c.of-how.result ≡ function_stop c.in_ok-stop.stop end.pc =
    c.of-how.ensures ∙ ap (function_stop c.in_ok-stop.stop) c.pc.ensures in
    end_cut c.args.program.now c.args.asked.now c.args.options c.of-how.result c.in_ok-stop.stop end how
    (g.W.Sink.taken c.args.sink.now) (g.W.Sink.taken c.write_steps.new.sink) (g.W.Sink.taken c.put_end.new.sink)
    (rw (loaded.program, loaded.steps, start) at (c.in_ok-stop.ensures.written tells))
    (c.in_err-put_end.ensures.beginning tells)

pub returns-clause-answer : goal.returns-clause-answer
returns-clause-answer g c =
    let loaded = c.in_ok-loaded.ensures in
    let start = ap (λ (k : KnownState). k.state) loaded.known in
    let ended = rw (loaded.program, loaded.steps, start) at c.in_ok-stop.ensures.ended in
    ran loaded.met (_, _, ended.1, c.of-how.ensures ∙ ap (function_stop c.in_ok-stop.stop) c.pc.ensures)

pub returns-clause-written : goal.returns-clause-written
returns-clause-written g c = λ tells.
    let loaded = c.in_ok-loaded.ensures in
    let start = ap (λ (k : KnownState). k.state) loaded.known in
    let end = state_of c.write_steps.new.run.hart (paged_bytes c.write_steps.new.run.memory) in
    let how : c.of-how.result ≡ function_stop c.in_ok-stop.stop end.pc =
    c.of-how.ensures ∙ ap (function_stop c.in_ok-stop.stop) c.pc.ensures in
    end_written c.args.program.now c.args.asked.now c.args.options c.of-how.result c.in_ok-stop.stop end how
    (g.W.Sink.taken c.args.sink.now) (g.W.Sink.taken c.write_steps.new.sink) (g.W.Sink.taken c.put_end.new.sink)
    (rw (loaded.program, loaded.steps, start) at (c.in_ok-stop.ensures.written tells))
    (c.in_ok-put_end.ensures.whole tells)
