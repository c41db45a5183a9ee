use Rattle.commands.specs.Images.{not_read}
use Rattle.commands.specs.Unread.{out_of_memory}
use Rattle.language.proofs.Handed.{handed_on, converted_on}
use Rattle.commands.proofs.AnswerLemmas.{read_fault, read_memory}
use Rattle.commands.proofs.images.image_with_params.Goals as goal

pub returns-in_err-image-clause-refused : goal.returns-in_err-image-clause-refused
returns-in_err-image-clause-refused g c = λ tells.
    handed_on _ _ c.from_residual.ensures.1 (c.in_err-image.ensures.refused tells)

pub returns-in_err-params-clause-refused : goal.returns-in_err-params-clause-refused
returns-in_err-params-clause-refused g c = λ tells.
    converted_on _ c.from_residual-in_err-params.ensures.1 (λ e memory. not_read (out_of_memory memory))

pub returns-in_err-image-clause-read : goal.returns-in_err-image-clause-read
returns-in_err-image-clause-read g c = read_fault _ _ _ _ c.from_residual.ensures.1 c.in_err-image.ensures.counted

pub returns-in_err-params-clause-read : goal.returns-in_err-params-clause-read
returns-in_err-params-clause-read g c = read_memory _ c.from_residual-in_err-params.ensures.1 c.in_ok-image.ensures.calm

pub returns-clause-read : goal.returns-clause-read
returns-clause-read g c = c.in_ok-image.ensures.calm
