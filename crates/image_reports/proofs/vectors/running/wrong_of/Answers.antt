use Rattle.std.proofs.Common.{◌≡◌, refl, sym, ◌∙◌}
use Rattle.image_reports.specs.Below.{params_of}
use Rattle.image_reports.specs.vectors.Spelled.{publics}
use Rattle.image_reports.proofs.vectors_lemmas.Below.{length-AreWithin}
use Rattle.image_reports.proofs.vectors_lemmas.GivenLemmas.{only_memory, not_argument, not_stopped}
use Rattle.image_reports.proofs.vectors.running.wrong_of.Goals as goal

pub publics-requires : goal.publics-requires
publics-requires c =
    let image = c.args.image.now in
    let are_params : c.as_slice.result.now ≡ params_of image = c.as_slice.ensures.value
    ∙ c.in_ok-params.ensures.params in
    rw (c.as_slice-2.ensures, are_params) (length-AreWithin (params_of image) c.args.args.now c.requires)

pub unreachable-requires : goal.unreachable-requires
unreachable-requires c =
    let image = c.args.image.now in
    let args = c.args.args.now in
    let are_params : c.as_slice.result.now ≡ params_of image = c.as_slice.ensures.value
    ∙ c.in_ok-params.ensures.params in
    let given : c.as_slice-3.result.now ≡ publics (params_of image) args = c.as_slice-3.ensures.value
    ∙ c.in_ok-given.ensures ∙ rw (c.as_slice-2.ensures, are_params) refl in
    not_argument c.in-Err-Argument.field-0-0 c.in-Err-Argument.field-0-1 (sym c.in-Err-Argument.field-0-is
    ∙ only_memory image args c.as_slice-3.result.now c.in-Err-Argument.field-0 given c.requires
    (c.in-Err-Argument.ensures))

pub unreachable-requires-in-Err-Stopped : goal.unreachable-requires-in-Err-Stopped
unreachable-requires-in-Err-Stopped c =
    let image = c.args.image.now in
    let args = c.args.args.now in
    let are_params : c.as_slice.result.now ≡ params_of image = c.as_slice.ensures.value
    ∙ c.in_ok-params.ensures.params in
    let given : c.as_slice-3.result.now ≡ publics (params_of image) args = c.as_slice-3.ensures.value
    ∙ c.in_ok-given.ensures ∙ rw (c.as_slice-2.ensures, are_params) refl in
    not_stopped c.in-Err-Stopped.field-0-0 (sym c.in-Err-Stopped.field-0-is
    ∙ only_memory image args c.as_slice-3.result.now c.in-Err-Stopped.field-0 given c.requires
    (c.in-Err-Stopped.ensures))
