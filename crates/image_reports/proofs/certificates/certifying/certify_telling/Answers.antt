use Rattle.std.proofs.Common.{◌≡◌, ℕ, List, Option, subst, arith}
use Rattle.image_reports.specs.Below.{Arg, MachineCode, code_at, code_base, code_of, Counting, Fields, frame_base}
use Rattle.image_reports.specs.Below.{GoesOnKnown, HasLines, image_program, IsTold, KnownState, known_of, paged_bytes}
use Rattle.image_reports.specs.Below.{Shifts, state_of}
use Rattle.image_reports.specs.certificates.KnownImage.{known_at}
use Rattle.streams.specs.Streams.{Collected}
use Rattle.language.proofs.Handed.{err_is}
use Rattle.image_reports.proofs.certificates_lemmas.AnswerLemmas.{first_is, refused_certified, memory_certified}
use Rattle.image_reports.proofs.certificates_lemmas.AnswerLemmas.{run_certified}
use Rattle.image_reports.proofs.certificates.certifying.certify_telling.Goals as goal

pub returns-in-Some-clause-certified : goal.returns-in-Some-clause-certified
returns-in-Some-clause-certified g c =
    refused_certified c.args.image.now c.args.given.now c.args.shifts c.in-Some.fault c.from.result c.from.ensures
    (first_is _ c.slots.ensures.slots c.first_fault.ensures c.in-Some.is)

pub load_given-requires : goal.load_given-requires
load_given-requires g c =
    first_is _ c.slots.ensures.slots c.first_fault.ensures c.in_default.is

pub returns-in_err-code-clause-certified : goal.returns-in_err-code-clause-certified
returns-in_err-code-clause-certified g c =
    memory_certified _ _ _ _ (first_is _ c.slots.ensures.slots c.first_fault.ensures c.in_default.is)
    (err_is _ c.from_residual.ensures.1)

pub returns-in_err-loaded-clause-certified : goal.returns-in_err-loaded-clause-certified
returns-in_err-loaded-clause-certified g c =
    memory_certified _ _ _ _ (first_is _ c.slots.ensures.slots c.first_fault.ensures c.in_default.is)
    (err_is _ c.from_residual-in_err-loaded.ensures.1)

pub certify_in_pieces-requires-clause-few : goal.certify_in_pieces-requires-clause-few
certify_in_pieces-requires-clause-few g c = omega (arith, c.in_ok-loaded.ensures.steps, c.slots.ensures.allowed.steps)

pub returns-clause-certified : goal.returns-clause-certified
returns-clause-certified g c =
    let loaded = c.in_ok-loaded.loaded in
    let none = first_is _ c.slots.ensures.slots c.first_fault.ensures c.in_default.is in
    let run = c.certify_in_pieces.ensures.certified in
    run_certified c.args.image.now c.args.given.now c.args.shifts (code_of c.in_ok-code.code) loaded.run.steps_left
    (known_of (state_of loaded.run.hart (paged_bytes loaded.run.memory)) loaded.known.registers
    (paged_bytes loaded.known.marks) loaded.known.shifts) run.0 run.1 c.certify_in_pieces.result
    none c.in_ok-code.ensures c.in_ok-loaded.ensures.steps c.in_ok-loaded.ensures.known run.2 run.3

-- the lines of the run are those of the image's
told_of_image : (Has : Counting) {code : MachineCode} {steps : ℕ} {k : KnownState} {before after : Collected}
    (image : Fields)
    (given : List (Option Arg)) (shifts : Shifts) → code ≡ code_at code_base image → steps ≡ image.max_steps
    → k ≡ known_at code_base frame_base image given shifts → IsTold Has (GoesOnKnown (image_program code) steps k) before after
    → IsTold Has
    (GoesOnKnown (image_program (code_at code_base image)) image.max_steps
    (known_at code_base frame_base image given shifts)) before after
told_of_image Has {code} {steps} {k} {before} {after} image given shifts code_is steps_is known_is told =
    subst (λ (x : KnownState). IsTold Has
    (GoesOnKnown (image_program (code_at code_base image)) image.max_steps x) before after) known_is
    (subst (λ (x : ℕ). IsTold Has (GoesOnKnown (image_program (code_at code_base image)) x k) before after)
    steps_is
    (subst (λ (x : MachineCode). IsTold Has (GoesOnKnown (image_program x) steps k) before after) code_is told))

pub returns-clause-told : goal.returns-clause-told
returns-clause-told g c = λ tells.
    told_of_image HasLines c.args.image.now c.args.given.now c.args.shifts c.in_ok-code.ensures
    c.in_ok-loaded.ensures.steps
    c.in_ok-loaded.ensures.known (c.certify_in_pieces.ensures.told tells)
