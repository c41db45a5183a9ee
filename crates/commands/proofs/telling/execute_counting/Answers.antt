-- The counted run is the run of the image.
use Rattle.std.proofs.Common.{false, true, [], inr, refl, sym, ◌∙◌, arith}
use Rattle.language.proofs.Handed.{err_is}
use Rattle.commands.proofs.ProgressLemmas.{on_ok, on_err}
use Rattle.commands.proofs.StepLemmas.{counted_tells, run_tells_reaches, steps_of_image, tells_of_image}
use Rattle.hepurita.proofs.ExecutedLemmas.{memory_executed, refused_executed, ran_executed}
use Rattle.commands.specs.Below.{code_of, paged_bytes, state_of}
use Rattle.commands.proofs.telling.execute_counting.Goals as goal

pub returns-in-Some-clause-executed : goal.returns-in-Some-clause-executed
returns-in-Some-clause-executed g c =
    refused_executed c.args.image.now c.args.args.now false [] c.in-Some.fault c.from.result c.from.ensures
    (sym c.first_fault.ensures.first ∙ c.in-Some.is)

pub returns-in_err-code-clause-executed : goal.returns-in_err-code-clause-executed
returns-in_err-code-clause-executed g c =
    memory_executed c.args.image.now c.args.args.now false [] _ (sym c.first_fault.ensures.first ∙ c.in_default.is)
    (err_is _ c.from_residual.ensures.1)

pub returns-in_err-space-clause-executed : goal.returns-in_err-space-clause-executed
returns-in_err-space-clause-executed g c =
    memory_executed c.args.image.now c.args.args.now false [] _ (sym c.first_fault.ensures.first ∙ c.in_default.is)
    (err_is _ c.from_residual-in_err-space.ensures.1)

pub returns-in_err-loaded-clause-executed : goal.returns-in_err-loaded-clause-executed
returns-in_err-loaded-clause-executed g c =
    memory_executed c.args.image.now c.args.args.now false [] _ (sym c.first_fault.ensures.first ∙ c.in_default.is)
    (err_is _ c.from_residual-in_err-loaded.ensures.1)

pub run_counting-stop-requires : goal.run_counting-stop-requires
run_counting-stop-requires g c = omega (arith, c.in_ok-loaded.ensures.steps, c.first_fault.ensures.allowed.steps)

pub answer-requires-clause-frame : goal.answer-requires-clause-frame
answer-requires-clause-frame g c = omega (arith, c.first_fault.ensures.allowed.frame_size)

pub returns-clause-executed : goal.returns-clause-executed
returns-clause-executed g c =
    let loaded = c.in_ok-loaded.loaded in
    let end = c.run_counting-stop.new.running in
    let ran = c.run_counting-stop.ensures.ran in
    ran_executed c.args.image.now c.args.args.now false [] [] c.answer.result (code_of c.in_ok-code.code)
    loaded.steps_left (state_of loaded.hart (paged_bytes loaded.memory))
    (state_of end.hart (paged_bytes end.memory)) c.run_counting-stop.result
    (sym c.first_fault.ensures.first ∙ c.in_default.is) c.in_ok-code.ensures c.in_ok-loaded.ensures.steps
    c.in_ok-loaded.ensures.state (ran.0, ran.1, refl) c.answer.ensures

pub returns-clause-told : goal.returns-clause-told
returns-clause-told g c = λ tells.
    let image = c.args.image.now in
    let args = c.args.args.now in
    let run = c.run_counting-stop.ensures in
    let loaded = c.in_ok-loaded.ensures in
    on_ok _ (counted_tells c.args.progress image args _ _ _ _
    (tells_of_image _ _ c.args.progress image args c.in_ok-code.ensures loaded.steps loaded.state (run.told tells))
    (steps_of_image image args c.in_ok-code.ensures loaded.steps loaded.state run.made) (c.put_steps.ensures tells))

pub returns-clause-part : goal.returns-clause-part
returns-clause-part g c = λ tells.
    let image = c.args.image.now in
    let args = c.args.args.now in
    let run = c.run_counting-stop.ensures in
    let loaded = c.in_ok-loaded.ensures in
    on_err _ (inr (run_tells_reaches (record { progress = c.args.progress; steps = true }) image args _ _
    (counted_tells c.args.progress image args _ _ _ _
    (tells_of_image _ _ c.args.progress image args c.in_ok-code.ensures loaded.steps loaded.state (run.told tells))
    (steps_of_image image args c.in_ok-code.ensures loaded.steps loaded.state run.made) (c.put_steps.ensures tells))))
