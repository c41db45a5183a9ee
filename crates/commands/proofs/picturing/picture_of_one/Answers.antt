use Rattle.std.proofs.Common.{◌≡◌, ◌++◌, List, ℕ, Option, Ok, Err, map, refl, ◌∙◌, subst, inl, inr}
use Rattle.commands.specs.Below.{Arg, Certified, DrawsOne, fault_of_given_texts, HasLines, Hidden, Param, Reaches}
use Rattle.commands.specs.Pictures.{asked_text, before_certificate}
use Rattle.commands.specs.Words.{IsFaultOfWords}
use Rattle.commands.proofs.CertificateLemmas.{stands_in_code}
use Rattle.commands.proofs.PictureProgress.{one_list_tells, one_list_undrawn}
use Rattle.commands.proofs.ProgressLemmas.{on_err}
use Rattle.language.proofs.Handed.{handed_on}
use Rattle.commands.proofs.WordLemmas.{fault_of_words, given_from}
use Rattle.run_reports.proofs.progress_lemmas.Told.{reaches}
use Rattle.commands.proofs.picturing.picture_of_one.Goals as goal

pub returns-in_err-given-clause-refused : goal.returns-in_err-given-clause-refused
returns-in_err-given-clause-refused g c =
    let words = map (λ word. word.now) c.args.arguments.now in
    let why = c.in_err-given.field-0.0 in
    handed_on _ _ c.from_residual.ensures.1
    (inl (subst (λ (params : List Param). IsFaultOfWords (fault_of_given_texts params words) why) c.requires.params
    (fault_of_words _ why (Err why) refl c.in_err-given.ensures.fault c.in_err-given.ensures.unstopped)))

pub said_of_certificate-requires : goal.said_of_certificate-requires
said_of_certificate-requires g c =
    stands_in_code c.args.image.now c.as_slice-given.result.now Hidden c.in_ok-certificate.certificate
    c.in_ok-certificate.ensures.certified

pub returns-in_err-said-clause-part : goal.returns-in_err-said-clause-part
returns-in_err-said-clause-part g c = λ tells.
    on_err _ (inr (one_list_undrawn c.args.image.now
    (given_from c.args.arguments.now (λ word. word.now) c.requires.params c.in_ok-given.ensures.faultless
    c.in_ok-given.ensures.found) c.as_slice-given.ensures.value (c.in_ok-certificate.ensures.told tells)))

pub returns-in_err-page-clause-part : goal.returns-in_err-page-clause-part
returns-in_err-page-clause-part g c = λ tells.
    on_err _ (inr (one_list_tells Reaches c.args.image.now
    (given_from c.args.arguments.now (λ word. word.now) c.requires.params c.in_ok-given.ensures.faultless
    c.in_ok-given.ensures.found) c.as_slice-given.ensures.value (reaches (c.in_ok-certificate.ensures.told tells))
    (c.in_err-page.ensures.part tells)))

pub returns-clause-said : goal.returns-clause-said
returns-clause-said g c =
    let image = c.args.image.now in
    let given = c.in_ok-given.given.items in
    let certificate = c.in_ok-certificate.certificate in
    let told = c.in_ok-said.ensures.0 in
    let page = c.in_ok-page.page.items in
    let asked = asked_text c.args.path.now (map (λ word. word.now) c.args.arguments.now) in
    let same : c.as_str.result.now ≡ asked = c.as_str.ensures.value ∙ c.in_ok-asked.ensures in
    let whole : c.as_slice.result.now ≡ before_certificate ++ told =
    c.as_slice.ensures.value ∙ c.in_ok-said.ensures.2 in
    record {
      given = given;
      certificate = certificate;
      told = told;
      as_said = given_from c.args.arguments.now (λ word. word.now) c.requires.params c.in_ok-given.ensures.faultless
          c.in_ok-given.ensures.found;
      certified = subst (λ (xs : List (Option Arg)). Certified image xs Hidden (Ok certificate))
          c.as_slice-given.ensures.value c.in_ok-certificate.ensures.certified;
      printed = c.in_ok-said.ensures.1;
      drawn =
          subst (λ (xs : List (Option Arg)). DrawsOne image xs asked (before_certificate ++ told) page)
          c.as_slice-given.ensures.value
          (subst (λ (text : List ℕ). DrawsOne image c.as_slice-given.result.now text (before_certificate ++ told) page)
          same
          (subst (λ (said : List ℕ). DrawsOne image c.as_slice-given.result.now c.as_str.result.now said page) whole
          c.in_ok-page.ensures.exact));
    }

pub returns-clause-told : goal.returns-clause-told
returns-clause-told g c = λ tells.
    one_list_tells HasLines c.args.image.now
    (given_from c.args.arguments.now (λ word. word.now) c.requires.params c.in_ok-given.ensures.faultless
    c.in_ok-given.ensures.found) c.as_slice-given.ensures.value (c.in_ok-certificate.ensures.told tells)
    (c.in_ok-page.ensures.told tells)
