use Rattle.std.proofs.Common.{◌≡◌, Some, None, map, ap, ◌∙◌}
use Rattle.std.specs.Option.{option_map}
use Rattle.std.specs.String.{string_bytes}
use Rattle.std.proofs.lemmas.Result.{IfOk-weaker}
use Rattle.image_reports.specs.vectors.Views.{named}
use Rattle.image_reports.proofs.vectors_lemmas.VerdictLemmas.{other, right}
use Rattle.image_reports.proofs.vectors.trying.verdict_on.Goals as goal

pub returns-in-Some-clause-verdict : goal.returns-in-Some-clause-verdict
returns-in-Some-clause-verdict c = λ program is.
    let vector = named c.args.vector.now in
    let means = c.in_ok-lists.ensures.means program is in
    let wanted : map (λ text. text.now) c.as_slice.result.now ≡ vector.wanted =
    ap (map (λ text. text.now)) c.as_slice.ensures.value in
    other program c.args.image.now vector c.args.args.now c.requires.spelled means.0 means.1
    (map (λ text. text.now) c.as_slice.result.now) c.as_slice-2.result.now wanted (c.as_slice-2.ensures.value
    ∙ means.2) _ c.in_ok-difference.ensures.differs
    (string_bytes c.in-Some.difference) (ap (option_map string_bytes) c.in-Some.is)

pub returns-clause-verdict : goal.returns-clause-verdict
returns-clause-verdict c = λ program is.
    let vector = named c.args.vector.now in
    let means = c.in_ok-lists.ensures.means program is in
    let wanted : map (λ text. text.now) c.as_slice.result.now ≡ vector.wanted =
    ap (map (λ text. text.now)) c.as_slice.ensures.value in
    IfOk-weaker c.wrong_of.result _ _
    (λ wrong seen. right program c.args.image.now vector c.args.args.now c.requires.spelled means.0 means.1
    (map (λ text. text.now) c.as_slice.result.now) c.as_slice-2.result.now wanted (c.as_slice-2.ensures.value
    ∙ means.2) _ c.in_ok-difference.ensures.differs
    seen.0 (option_map string_bytes wrong) (ap (option_map string_bytes) c.in-None.is) seen.1 seen.2)
    c.wrong_of.ensures.wrong
