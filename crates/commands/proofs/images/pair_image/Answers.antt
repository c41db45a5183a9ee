-- Why the two runs are not compared, step by step.
use Rattle.std.proofs.Common.{List, map, inr, refl, ◌∙◌, subst}
use Rattle.commands.specs.Below.{AreWithin, HasLines, Param}
use Rattle.commands.specs.ImageRefusals.{no_image, no_arguments, no_answer, out_of_memory}
use Rattle.commands.specs.Words.{AreBothSpelled, IsFaultOfWords, fault_of_both}
use Rattle.commands.proofs.AnswerLemmas.{finds_answer, finds_fault, finds_converted, read_fault, read_memory}
use Rattle.commands.proofs.ProgressLemmas.{on_err, file_pair_tells, pair_reaches}
use Rattle.commands.proofs.images.pair_image.Goals as goal

pub returns-in_err-image-clause-finds : goal.returns-in_err-image-clause-finds
returns-in_err-image-clause-finds g c = λ tells.
    finds_fault _ _ c.from_residual.ensures.1 (no_image (c.in_err-image.ensures.refused tells), refl)

pub returns-in_err-first-clause-finds : goal.returns-in_err-first-clause-finds
returns-in_err-first-clause-finds g c = λ tells.
    let words = map (λ word. word.now) c.args.arguments.now in
    let why = c.in_err-first.field-0.0 in
    finds_fault _ _ c.from_residual-in_err-first.ensures.1 (
      no_arguments (c.in_ok-image.ensures.said tells)
          (subst (λ (params : List Param). IsFaultOfWords (fault_of_both params words) why) (c.as_slice.ensures.value
          ∙ c.in_ok-image.ensures.params) c.in_err-first.ensures.refused),
      refl,
    )

pub returns-in_err-pairing-clause-finds : goal.returns-in_err-pairing-clause-finds
returns-in_err-pairing-clause-finds g c = λ tells.
    finds_converted _ c.from_residual-in_err-pairing.ensures.1 (λ e is. (
      no_answer (c.in_ok-image.ensures.said tells) (
        c.in_ok-first.first,
        c.in_ok-first.second,
        c.in_err-pairing.field-0.0,
        rw (c.as_slice.ensures.value ∙ c.in_ok-image.ensures.params) at c.in_ok-first.ensures.found,
        c.in_err-pairing.ensures.paired,
        is,
      ),
      refl,
    ))

pub pairing_lines-requires-clause-first : goal.pairing_lines-requires-clause-first
pairing_lines-requires-clause-first g c =
    subst (λ (params : List Param). AreWithin params c.in_ok-first.first) (c.as_slice.ensures.value
    ∙ c.in_ok-image.ensures.params) c.in_ok-first.ensures.found.first.within

pub pairing_lines-requires-clause-second : goal.pairing_lines-requires-clause-second
pairing_lines-requires-clause-second g c =
    subst (λ (params : List Param). AreWithin params c.in_ok-first.second) (c.as_slice.ensures.value
    ∙ c.in_ok-image.ensures.params) c.in_ok-first.ensures.found.second.within

pub returns-in_err-text-clause-finds : goal.returns-in_err-text-clause-finds
returns-in_err-text-clause-finds g c = λ tells.
    finds_converted _ c.from_residual-in_err-text.ensures.1 (λ e memory. (out_of_memory memory, refl))

pub returns-clause-finds : goal.returns-clause-finds
returns-clause-finds g c = λ tells.
    let one = c.in_ok-first.first in
    let other = c.in_ok-first.second in
    finds_answer _ c.of_bytes.ensures.text c.of_bytes.ensures.status (
      record {
        image = c.in_ok-image.image;
        one = one;
        other = other;
        pairing = c.in_ok-pairing.pairing;
        held = c.in_ok-image.ensures.said tells;
        spelled = subst (λ (params : List Param). AreBothSpelled params (map (λ word. word.now) c.args.arguments.now) one
            other) (c.as_slice.ensures.value ∙ c.in_ok-image.ensures.params) c.in_ok-first.ensures.found;
        paired = c.in_ok-pairing.ensures.paired;
        printed = c.in_ok-text.ensures;
      },
      refl,
    ) refl

pub returns-in_err-text-clause-part : goal.returns-in_err-text-clause-part
returns-in_err-text-clause-part g c = λ tells both.
    on_err _ (inr (pair_reaches _ _ _ _ _ c.args.options.progress
    (file_pair_tells HasLines _ _ (c.in_ok-image.ensures.said tells) c.args.options.progress
    (rw (c.as_slice.ensures.value ∙ c.in_ok-image.ensures.params) at c.in_ok-first.ensures.found)
    (c.in_ok-pairing.ensures.told both))))

pub returns-clause-told : goal.returns-clause-told
returns-clause-told g c = λ tells both.
    file_pair_tells HasLines _ _ (c.in_ok-image.ensures.said tells) c.args.options.progress
    (rw (c.as_slice.ensures.value ∙ c.in_ok-image.ensures.params) at c.in_ok-first.ensures.found)
    (c.in_ok-pairing.ensures.told both)

pub returns-in_err-image-clause-read : goal.returns-in_err-image-clause-read
returns-in_err-image-clause-read g c = read_fault _ _ _ _ c.from_residual.ensures.1 c.in_err-image.ensures.read

pub returns-in_err-first-clause-read : goal.returns-in_err-first-clause-read
returns-in_err-first-clause-read g c = read_fault _ _ _ _ c.from_residual-in_err-first.ensures.1 c.in_ok-image.ensures.read

pub returns-in_err-pairing-clause-read : goal.returns-in_err-pairing-clause-read
returns-in_err-pairing-clause-read g c =
    read_fault _ _ _ _ c.from_residual-in_err-pairing.ensures.1 c.in_ok-image.ensures.read

pub returns-in_err-text-clause-read : goal.returns-in_err-text-clause-read
returns-in_err-text-clause-read g c = read_memory _ c.from_residual-in_err-text.ensures.1 c.in_ok-image.ensures.read

pub returns-clause-read : goal.returns-clause-read
returns-clause-read g c = c.in_ok-image.ensures.read
