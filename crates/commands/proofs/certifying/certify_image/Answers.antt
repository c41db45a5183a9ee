use Rattle.std.proofs.Common.{◌≡◌, ℕ, Bool, List, Option, Ok, Err, map, inr, refl, ◌∙◌, subst}
use Rattle.commands.specs.Answered.{answered}
use Rattle.commands.specs.Below.{Arg, Certified, Collected, Counting, fault_of_given_texts, Fields, HasLines, Param}
use Rattle.commands.specs.Below.{params_of, Shifts}
use Rattle.commands.specs.Certificates.{PrintsExplained, shifts_seen}
use Rattle.commands.specs.Contents.{Contents}
use Rattle.commands.specs.Images.{HoldsImage}
use Rattle.commands.specs.Progress.{CertificateGoesOn, Tells, FileCertificateTells}
use Rattle.commands.specs.ImageRefusals.{no_image, no_arguments, no_answer, out_of_memory}
use Rattle.commands.specs.Words.{IsFaultOfWords, AreGiven}
use Rattle.commands.proofs.AnswerLemmas.{finds_fault, finds_converted, read_fault, read_memory}
use Rattle.commands.proofs.ProgressLemmas.{on_err, file_certificate_tells, certificate_reaches}
use Rattle.commands.proofs.WordLemmas.{fault_of_words, given_from}
use Rattle.commands.proofs.certifying.certify_image.Goals as goal

pub returns-in_err-image-clause-finds : goal.returns-in_err-image-clause-finds
returns-in_err-image-clause-finds g c = λ tells.
    finds_fault _ _ c.from_residual.ensures.1 (no_image (c.in_err-image.ensures.refused tells), refl)

pub returns-in_err-given-clause-finds : goal.returns-in_err-given-clause-finds
returns-in_err-given-clause-finds g c = λ tells.
    let words = map (λ word. word.now) c.args.arguments.now in
    let why = c.in_err-given.field-0.0 in
    finds_fault _ _ c.from_residual-in_err-given.ensures.1 (
      no_arguments (c.in_ok-image.ensures.said tells)
          (subst (λ (params : List Param). IsFaultOfWords (fault_of_given_texts params words) why) (c.as_slice.ensures.value
          ∙ c.in_ok-image.ensures.params)
          (fault_of_words _ why (Err why) refl c.in_err-given.ensures.fault c.in_err-given.ensures.unstopped)),
      refl,
    )

pub returns-in_err-certificate-clause-finds : goal.returns-in_err-certificate-clause-finds
returns-in_err-certificate-clause-finds g c = λ tells.
    let words = map (λ word. word.now) c.args.arguments.now in
    let image = c.in_ok-image.image in
    let why = c.in_err-certificate.field-0.0 in
    finds_converted _ c.from_residual-in_err-certificate.ensures.1 (λ e is. (
      no_answer (c.in_ok-image.ensures.said tells) (
        c.in_ok-given.given.items,
        why,
        given_from _ _ (c.as_slice.ensures.value ∙ c.in_ok-image.ensures.params) c.in_ok-given.ensures.faultless
            c.in_ok-given.ensures.found,
        subst (λ (s : Shifts). Certified image c.in_ok-given.given.items s (Err why)) c.shifts_seen-shifts.ensures
            (subst (λ (xs : List (Option Arg)). Certified image xs c.shifts_seen-shifts.result (Err why))
            c.as_slice-given.ensures.value c.in_err-certificate.ensures.certified),
        is,
      ),
      refl,
    ))

pub certificate_lines-requires : goal.certificate_lines-requires
certificate_lines-requires g c = c.in_ok-certificate.ensures.certified

pub returns-in_err-text-clause-finds : goal.returns-in_err-text-clause-finds
returns-in_err-text-clause-finds g c = λ tells.
    finds_converted _ c.from_residual-in_err-text.ensures.1 (λ e memory. (out_of_memory memory, refl))

pub returns-clause-finds : goal.returns-clause-finds
returns-clause-finds g c = λ tells.
    let image = c.in_ok-image.image in
    let certificate = c.in_ok-certificate.certificate in
    answered (record {
      image = image;
      given = c.in_ok-given.given.items;
      certificate = certificate;
      held = c.in_ok-image.ensures.said tells;
      as_said = given_from _ _ (c.as_slice.ensures.value
          ∙ c.in_ok-image.ensures.params) c.in_ok-given.ensures.faultless c.in_ok-given.ensures.found;
      certified = subst (λ (s : Shifts). Certified image c.in_ok-given.given.items s (Ok certificate))
          c.shifts_seen-shifts.ensures
          (subst (λ (xs : List (Option Arg)). Certified image xs c.shifts_seen-shifts.result (Ok certificate))
          c.as_slice-given.ensures.value c.in_ok-certificate.ensures.certified);
      printed = subst (λ (s : Shifts). PrintsExplained c.args.options.explain image c.in_ok-given.given.items s certificate
          c.in_ok-text.text.items) c.shifts_seen-shifts.ensures
          (subst (λ (xs : List (Option Arg)). PrintsExplained c.args.options.explain image xs c.shifts_seen-shifts.result
          certificate c.in_ok-text.text.items) c.as_slice-given.ensures.value c.in_ok-text.ensures);
      ended = c.status_of_certificate-status.ensures.exact;
    }) refl

-- what went out of the certified run, as of what the words give
went_out : (Has : Counting) (before after : Collected) {files : Contents} {path : List ℕ} {words : List (List ℕ)}
    {image : Fields}
    {given given' : List (Option Arg)} {shifts' : Shifts} (progress shifts : Bool)
    → HoldsImage files path image → AreGiven (params_of image) words given → given' ≡ given
    → shifts' ≡ shifts_seen shifts → Tells Has progress (CertificateGoesOn image given' shifts') before after
    → FileCertificateTells Has progress shifts files path words before after
went_out Has before after {image = image} {given = given} {given' = given'} {shifts' = shifts'} progress shifts held
    as_said items_are shifts_are told =
    file_certificate_tells Has before after held progress shifts as_said
    (subst (λ (s : Shifts). Tells Has progress (CertificateGoesOn image given s) before after) shifts_are
    (subst (λ (xs : List (Option Arg)). Tells Has progress (CertificateGoesOn image xs shifts') before after) items_are
    told))

pub returns-in_err-text-clause-part : goal.returns-in_err-text-clause-part
returns-in_err-text-clause-part g c = λ tells both.
    on_err _ (inr (certificate_reaches _ _ _ _ _ c.args.options.progress c.args.options.shifts
    (went_out HasLines _ _ c.args.options.progress c.args.options.shifts (c.in_ok-image.ensures.said tells)
    (given_from _ _ (c.as_slice.ensures.value ∙ c.in_ok-image.ensures.params) c.in_ok-given.ensures.faultless
    c.in_ok-given.ensures.found) c.as_slice-given.ensures.value
    c.shifts_seen-shifts.ensures (c.in_ok-certificate.ensures.told both))))

pub returns-clause-told : goal.returns-clause-told
returns-clause-told g c = λ tells both.
    went_out HasLines _ _ c.args.options.progress c.args.options.shifts (c.in_ok-image.ensures.said tells)
    (given_from _ _ (c.as_slice.ensures.value ∙ c.in_ok-image.ensures.params) c.in_ok-given.ensures.faultless
    c.in_ok-given.ensures.found) c.as_slice-given.ensures.value
    c.shifts_seen-shifts.ensures (c.in_ok-certificate.ensures.told both)

pub returns-in_err-image-clause-read : goal.returns-in_err-image-clause-read
returns-in_err-image-clause-read g c = read_fault _ _ _ _ c.from_residual.ensures.1 c.in_err-image.ensures.read

pub returns-in_err-given-clause-read : goal.returns-in_err-given-clause-read
returns-in_err-given-clause-read g c = read_fault _ _ _ _ c.from_residual-in_err-given.ensures.1 c.in_ok-image.ensures.read

pub returns-in_err-certificate-clause-read : goal.returns-in_err-certificate-clause-read
returns-in_err-certificate-clause-read g c =
    read_fault _ _ _ _ c.from_residual-in_err-certificate.ensures.1 c.in_ok-image.ensures.read

pub returns-in_err-text-clause-read : goal.returns-in_err-text-clause-read
returns-in_err-text-clause-read g c = read_memory _ c.from_residual-in_err-text.ensures.1 c.in_ok-image.ensures.read

pub returns-clause-read : goal.returns-clause-read
returns-clause-read g c = c.in_ok-image.ensures.read
