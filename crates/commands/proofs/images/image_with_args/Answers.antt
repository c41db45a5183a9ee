use Rattle.std.proofs.Common.{Err, map, refl, ◌∙◌, subst, List}
use Rattle.commands.specs.Below.{fault_of_texts, Param}
use Rattle.commands.specs.ImageRefusals.{no_image, no_arguments}
use Rattle.commands.specs.Words.{IsFaultOfWords}
use Rattle.language.proofs.Handed.{handed_on}
use Rattle.commands.proofs.AnswerLemmas.{read_fault}
use Rattle.commands.proofs.WordLemmas.{fault_of_words, spelled_from}
use Rattle.commands.proofs.images.image_with_args.Goals as goal

pub returns-in_err-image-clause-refused : goal.returns-in_err-image-clause-refused
returns-in_err-image-clause-refused g c = λ tells.
    handed_on _ _ c.from_residual.ensures.1 (no_image (c.in_err-image.ensures.refused tells))

pub returns-in_err-args-clause-refused : goal.returns-in_err-args-clause-refused
returns-in_err-args-clause-refused g c = λ tells.
    let words = map (λ word. word.now) c.args.words.now in
    let why = c.in_err-args.field-0.0 in
    handed_on _ _ c.from_residual-in_err-args.ensures.1 (no_arguments (c.in_ok-image.ensures.said tells)
    (subst (λ (params : List Param). IsFaultOfWords (fault_of_texts params words) why) (c.as_slice.ensures.value
    ∙ c.in_ok-image.ensures.params)
    (fault_of_words _ why (Err why) refl c.in_err-args.ensures.fault c.in_err-args.ensures.unstopped)))

pub returns-clause-spelled : goal.returns-clause-spelled
returns-clause-spelled g c =
    spelled_from _ _ (c.as_slice.ensures.value ∙ c.in_ok-image.ensures.params) c.in_ok-args.ensures.within
    c.in_ok-args.ensures.found

pub returns-in_err-image-clause-read : goal.returns-in_err-image-clause-read
returns-in_err-image-clause-read g c = read_fault _ _ _ _ c.from_residual.ensures.1 c.in_err-image.ensures.read

pub returns-in_err-args-clause-read : goal.returns-in_err-args-clause-read
returns-in_err-args-clause-read g c = read_fault _ _ _ _ c.from_residual-in_err-args.ensures.1 c.in_ok-image.ensures.read

pub returns-clause-read : goal.returns-clause-read
returns-clause-read g c = c.in_ok-image.ensures.read
