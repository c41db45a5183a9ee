-- The run in pieces is the run of the image.
use Rattle.std.proofs.Common.{false, [], refl, sym, ◌∙◌, arith}
use Rattle.language.proofs.Handed.{err_is}
use Rattle.commands.proofs.ProgressLemmas.{on_ok, on_err, told_of_image}
use Rattle.commands.specs.Progress.{RunGoesOn}
use Rattle.hepurita.proofs.ExecutedLemmas.{memory_executed, refused_executed, ran_executed}
use Rattle.run_reports.proofs.progress_lemmas.Told.{none_told, reaches}
use Rattle.commands.specs.Below.{code_of, collected, HasLines, paged_bytes, state_of}
use Rattle.commands.proofs.telling.execute_telling.Goals as goal

pub returns-in-Some-clause-executed : goal.returns-in-Some-clause-executed
returns-in-Some-clause-executed g c =
    refused_executed c.args.image.now c.args.args.now false [] c.in-Some.fault c.from.result c.from.ensures
    (sym c.first_fault.ensures.first ∙ c.in-Some.is)

pub returns-in-Some-clause-part : goal.returns-in-Some-clause-part
returns-in-Some-clause-part g c = λ tells.
    none_told (RunGoesOn c.args.image.now c.args.args.now)
    (collected (g.E.Sink.taken c.args.err.now) (g.E.Sink.failures c.args.err.now))

pub returns-in_err-code-clause-executed : goal.returns-in_err-code-clause-executed
returns-in_err-code-clause-executed g c =
    memory_executed c.args.image.now c.args.args.now false [] _ (sym c.first_fault.ensures.first ∙ c.in_default.is)
    (err_is _ c.from_residual.ensures.1)

pub returns-in_err-code-clause-part : goal.returns-in_err-code-clause-part
returns-in_err-code-clause-part g c = λ tells.
    on_err _ (none_told (RunGoesOn c.args.image.now c.args.args.now)
    (collected (g.E.Sink.taken c.args.err.now) (g.E.Sink.failures c.args.err.now)))

pub returns-in_err-space-clause-executed : goal.returns-in_err-space-clause-executed
returns-in_err-space-clause-executed g c =
    memory_executed c.args.image.now c.args.args.now false [] _ (sym c.first_fault.ensures.first ∙ c.in_default.is)
    (err_is _ c.from_residual-in_err-space.ensures.1)

pub returns-in_err-space-clause-part : goal.returns-in_err-space-clause-part
returns-in_err-space-clause-part g c = λ tells.
    on_err _ (none_told (RunGoesOn c.args.image.now c.args.args.now)
    (collected (g.E.Sink.taken c.args.err.now) (g.E.Sink.failures c.args.err.now)))

pub returns-in_err-loaded-clause-executed : goal.returns-in_err-loaded-clause-executed
returns-in_err-loaded-clause-executed g c =
    memory_executed c.args.image.now c.args.args.now false [] _ (sym c.first_fault.ensures.first ∙ c.in_default.is)
    (err_is _ c.from_residual-in_err-loaded.ensures.1)

pub returns-in_err-loaded-clause-part : goal.returns-in_err-loaded-clause-part
returns-in_err-loaded-clause-part g c = λ tells.
    on_err _ (none_told (RunGoesOn c.args.image.now c.args.args.now)
    (collected (g.E.Sink.taken c.args.err.now) (g.E.Sink.failures c.args.err.now)))

pub run_in_pieces-stop-requires : goal.run_in_pieces-stop-requires
run_in_pieces-stop-requires g c = omega (arith, c.in_ok-loaded.ensures.steps, c.first_fault.ensures.allowed.steps)

pub answer-requires-clause-frame : goal.answer-requires-clause-frame
answer-requires-clause-frame g c = omega (arith, c.first_fault.ensures.allowed.frame_size)

pub returns-clause-executed : goal.returns-clause-executed
returns-clause-executed g c =
    let loaded = c.in_ok-loaded.loaded in
    let end = c.run_in_pieces-stop.new.running in
    let ran = c.run_in_pieces-stop.ensures.ran in
    ran_executed c.args.image.now c.args.args.now false [] [] c.answer.result (code_of c.in_ok-code.code)
    loaded.steps_left (state_of loaded.hart (paged_bytes loaded.memory))
    (state_of end.hart (paged_bytes end.memory)) c.run_in_pieces-stop.result
    (sym c.first_fault.ensures.first ∙ c.in_default.is) c.in_ok-code.ensures c.in_ok-loaded.ensures.steps
    c.in_ok-loaded.ensures.state (ran.0, ran.1, refl) c.answer.ensures

pub returns-clause-told : goal.returns-clause-told
returns-clause-told g c = λ tells.
    on_ok _ (told_of_image HasLines c.args.image.now c.args.args.now c.in_ok-code.ensures c.in_ok-loaded.ensures.steps
    c.in_ok-loaded.ensures.state (c.run_in_pieces-stop.ensures.told tells))

pub returns-clause-part : goal.returns-clause-part
returns-clause-part g c = λ tells.
    on_err _ (reaches (told_of_image HasLines c.args.image.now c.args.args.now c.in_ok-code.ensures
    c.in_ok-loaded.ensures.steps
    c.in_ok-loaded.ensures.state (c.run_in_pieces-stop.ensures.told tells)))
