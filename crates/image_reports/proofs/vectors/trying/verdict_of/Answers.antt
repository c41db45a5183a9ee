use Rattle.std.proofs.Common.{◌≡◌, List, ℕ, Result, Err, map, Bor, ap, subst, ◌∙◌}
use Rattle.std.specs.String.{string_bytes}
use Rattle.image_reports.specs.Below.{Arg, ArgumentFault, params_of}
use Rattle.image_reports.specs.vectors.Spelled.{IsReading}
use Rattle.image_reports.specs.vectors.Texts.{plain}
use Rattle.image_reports.specs.vectors.Views.{named}
use Rattle.image_reports.proofs.vectors_lemmas.VerdictLemmas.{faulty}
use Rattle.image_reports.proofs.vectors.trying.verdict_of.Goals as goal

pub returns-clause-verdict : goal.returns-clause-verdict
returns-clause-verdict c = λ program is.
    let vector = named c.args.vector.now in
    let image = c.args.image.now in
    let params = c.as_slice-2.result.now in
    let texts = map string_bytes c.as_slice-3.result.now in
    let are_params : params ≡ params_of image = c.as_slice-2.ensures.value ∙ c.in_ok-params.ensures.params in
    let are_texts : texts ≡ map plain vector.given =
    ap (map string_bytes) c.as_slice-3.ensures.value ∙ c.in_ok-given.ensures.plain
    ∙ ap (λ (given : List (Bor (List ℕ))). map plain (map (λ text. text.now) given)) c.as_slice.ensures.value in
    let broken : IsReading params texts (Err c.in-Err.fault) =
    subst (λ (read : Result (List Arg) ArgumentFault). IsReading params texts read) c.in-Err.is
    c.in_ok-args.ensures.read in
    faulty program image vector params texts c.in-Err.fault (string_bytes c.in_ok-format-in-Err.field-0) are_params
    are_texts broken c.in_ok-format-in-Err.ensures.ok
