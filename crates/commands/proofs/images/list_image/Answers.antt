use Rattle.std.proofs.Common.{refl}
use Rattle.commands.specs.Images.{not_read}
use Rattle.commands.specs.Unread.{out_of_memory}
use Rattle.commands.proofs.AnswerLemmas.{finds_answer, finds_fault, finds_converted, read_fault, read_memory}
use Rattle.commands.proofs.images.list_image.Goals as goal

pub returns-in_err-image-clause-finds : goal.returns-in_err-image-clause-finds
returns-in_err-image-clause-finds g c = λ tells.
    finds_fault _ _ c.from_residual.ensures.1 (c.in_err-image.ensures.refused tells, refl)

pub returns-in_err-lines-clause-finds : goal.returns-in_err-lines-clause-finds
returns-in_err-lines-clause-finds g c = λ tells.
    finds_converted _ c.from_residual-in_err-lines.ensures.1 (λ e memory. (not_read (out_of_memory memory), refl))

pub returns-clause-finds : goal.returns-clause-finds
returns-clause-finds g c = λ tells.
    finds_answer _ c.of_bytes.ensures.text c.of_bytes.ensures.status (
      record {
        image = c.in_ok-image.image;
        held = c.in_ok-image.ensures.said tells;
        listed = c.in_ok-lines.ensures;
      },
      refl,
    ) refl

pub returns-in_err-image-clause-read : goal.returns-in_err-image-clause-read
returns-in_err-image-clause-read g c = read_fault _ _ _ _ c.from_residual.ensures.1 c.in_err-image.ensures.counted

pub returns-in_err-lines-clause-read : goal.returns-in_err-lines-clause-read
returns-in_err-lines-clause-read g c = read_memory _ c.from_residual-in_err-lines.ensures.1 c.in_ok-image.ensures.calm

pub returns-clause-read : goal.returns-clause-read
returns-clause-read g c = c.in_ok-image.ensures.calm
