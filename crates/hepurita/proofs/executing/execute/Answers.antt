use Rattle.std.proofs.Common.{sym, ◌∙◌, arith}
use Rattle.std.proofs.lemmas.Result.{err_from_is_err_and}
use Rattle.hepurita.specs.Below.{code_of, paged_bytes, state_of}
use Rattle.hepurita.specs.Executed.{refused, out_of_memory}
use Rattle.hepurita.proofs.ExecutedLemmas.{ran_executed}
use Rattle.hepurita.proofs.executing.execute.Goals as goal

pub returns-in-Some-clause-executed : goal.returns-in-Some-clause-executed
returns-in-Some-clause-executed g c =
    rw c.from.ensures (refused (sym c.first_fault.ensures.first ∙ c.in-Some.is))

pub returns-in_err-code-clause-executed : goal.returns-in_err-code-clause-executed
returns-in_err-code-clause-executed g c =
    let p = err_from_is_err_and c.from_residual.result c.from_residual.ensures.1 in
    rw (p.1, p.2) (out_of_memory (sym c.first_fault.ensures.first ∙ c.in_default.is))

pub returns-in_err-space-clause-executed : goal.returns-in_err-space-clause-executed
returns-in_err-space-clause-executed g c =
    let p = err_from_is_err_and c.from_residual-in_err-space.result c.from_residual-in_err-space.ensures.1 in
    rw (p.1, p.2) (out_of_memory (sym c.first_fault.ensures.first ∙ c.in_default.is))

pub returns-in_err-loaded-clause-executed : goal.returns-in_err-loaded-clause-executed
returns-in_err-loaded-clause-executed g c =
    let p = err_from_is_err_and c.from_residual-in_err-loaded.result c.from_residual-in_err-loaded.ensures.1 in
    rw (p.1, p.2) (out_of_memory (sym c.first_fault.ensures.first ∙ c.in_default.is))

pub returns-clause-executed : goal.returns-clause-executed
returns-clause-executed g c =
    let loaded = c.in_ok-loaded.loaded in
    ran_executed c.args.image.now c.args.args.now g.R.Recorder.KEEPS (g.R.Recorder.list c.args.recorder.now)
    (g.R.Recorder.list c.run-stop.new.recorder) c.answer.result
    (code_of c.in_ok-code.code) loaded.steps_left (state_of loaded.hart (paged_bytes loaded.memory))
    (state_of c.run-stop.new.hart (paged_bytes c.run-stop.new.memory)) c.run-stop.result
    (sym c.first_fault.ensures.first ∙ c.in_default.is)
    c.in_ok-code.ensures c.in_ok-loaded.ensures.steps c.in_ok-loaded.ensures.state c.run-stop.ensures.steps
    c.answer.ensures

pub answer-requires-clause-frame : goal.answer-requires-clause-frame
answer-requires-clause-frame g c = omega (arith, c.first_fault.ensures.allowed.frame_size)
