use Rattle.std.proofs.Common.{arith}
use Rattle.image_reports.specs.Below.{code_of, known_of, paged_bytes, state_of}
use Rattle.language.proofs.Handed.{err_is}
use Rattle.image_reports.proofs.certificates_lemmas.AnswerLemmas.{first_is, refused_certified, memory_certified, run_certified}
use Rattle.image_reports.proofs.certificates.certifying.certify.Goals as goal

pub returns-in-Some : goal.returns-in-Some
returns-in-Some c =
    refused_certified c.args.image.now c.args.given.now c.args.shifts c.in-Some.fault c.from.result c.from.ensures
    (first_is _ c.slots.ensures.slots c.first_fault.ensures c.in-Some.is)

pub load_given-requires : goal.load_given-requires
load_given-requires c =
    first_is _ c.slots.ensures.slots c.first_fault.ensures c.in_default.is

pub returns-in_err-code : goal.returns-in_err-code
returns-in_err-code c =
    memory_certified _ _ _ _ (first_is _ c.slots.ensures.slots c.first_fault.ensures c.in_default.is)
    (err_is _ c.from_residual.ensures.1)

pub returns-in_err-loaded : goal.returns-in_err-loaded
returns-in_err-loaded c =
    memory_certified _ _ _ _ (first_is _ c.slots.ensures.slots c.first_fault.ensures c.in_default.is)
    (err_is _ c.from_residual-in_err-loaded.ensures.1)

pub certify-requires-clause-few : goal.certify-requires-clause-few
certify-requires-clause-few c = omega (arith, c.in_ok-loaded.ensures.steps, c.slots.ensures.allowed.steps)

pub returns : goal.returns
returns c =
    let loaded = c.in_ok-loaded.loaded in
    let none = first_is _ c.slots.ensures.slots c.first_fault.ensures c.in_default.is in
    let run = c.certify.ensures.certified in
    run_certified c.args.image.now c.args.given.now c.args.shifts (code_of c.in_ok-code.code) loaded.run.steps_left
    (known_of (state_of loaded.run.hart (paged_bytes loaded.run.memory)) loaded.known.registers
    (paged_bytes loaded.known.marks) loaded.known.shifts) run.0 run.1 c.certify.result
    none c.in_ok-code.ensures c.in_ok-loaded.ensures.steps c.in_ok-loaded.ensures.known run.2 run.3
