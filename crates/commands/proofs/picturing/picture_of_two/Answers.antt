use Rattle.std.proofs.Common.{◌≡◌, ◌++◌, List, ℕ, map, ◌∙◌, subst, inr}
use Rattle.commands.specs.Below.{DrawsTwo, HasLines, Param, Reaches}
use Rattle.commands.specs.Pairs.{pairing_text}
use Rattle.commands.specs.Pictures.{asked_text, before_pairing}
use Rattle.commands.specs.Words.{AreBothSpelled}
use Rattle.commands.proofs.PictureProgress.{two_lists_tell, two_lists_undrawn}
use Rattle.commands.proofs.ProgressLemmas.{on_err}
use Rattle.run_reports.proofs.progress_lemmas.Told.{reaches}
use Rattle.commands.proofs.picturing.picture_of_two.Goals as goal

pub returns-in_err-said-clause-part : goal.returns-in_err-said-clause-part
returns-in_err-said-clause-part g c = λ tells.
    on_err _ (inr (two_lists_undrawn c.args.image.now c.in_ok-one.ensures.found c.requires.params
    (c.in_ok-pairing.ensures.told tells)))

pub returns-in_err-page-clause-part : goal.returns-in_err-page-clause-part
returns-in_err-page-clause-part g c = λ tells.
    on_err _ (inr (two_lists_tell Reaches c.args.image.now c.in_ok-one.ensures.found c.requires.params
    (reaches (c.in_ok-pairing.ensures.told tells)) (c.in_err-page.ensures.part tells)))

pub returns-clause-said : goal.returns-clause-said
returns-clause-said g c =
    let words = map (λ word. word.now) c.args.arguments.now in
    let image = c.args.image.now in
    let one = c.in_ok-one.one in
    let other = c.in_ok-one.other in
    let pairing = c.in_ok-pairing.pairing in
    let page = c.in_ok-page.page.items in
    let asked = asked_text c.args.path.now words in
    let same : c.as_str.result.now ≡ asked = c.as_str.ensures.value ∙ c.in_ok-asked.ensures in
    let whole : c.as_slice.result.now ≡ before_pairing ++ pairing_text pairing =
    c.as_slice.ensures.value ∙ c.in_ok-said.ensures in
    record {
      one = one;
      other = other;
      pairing = pairing;
      spelled = subst (λ (params : List Param). AreBothSpelled params words one other) c.requires.params
          c.in_ok-one.ensures.found;
      paired = c.in_ok-pairing.ensures.paired;
      drawn =
          subst (λ (text : List ℕ). DrawsTwo image one other text (before_pairing ++ pairing_text pairing) page) same
          (subst (λ (said : List ℕ). DrawsTwo image one other c.as_str.result.now said page) whole
          c.in_ok-page.ensures.exact);
    }

pub returns-clause-told : goal.returns-clause-told
returns-clause-told g c = λ tells.
    two_lists_tell HasLines c.args.image.now c.in_ok-one.ensures.found c.requires.params
    (c.in_ok-pairing.ensures.told tells) (c.in_ok-page.ensures.told tells)
