use Rattle.std.proofs.Common.{map, inl, refl}
use Rattle.commands.specs.Below.{HasLines}
use Rattle.commands.specs.ImageRefusals.{no_image}
use Rattle.commands.proofs.AnswerLemmas.{finds_answer, finds_fault, read_fault}
use Rattle.commands.proofs.PictureLemmas.{picture_refused}
use Rattle.commands.proofs.PictureProgress.{file_picture_part, file_picture_tells, file_picture_untold}
use Rattle.commands.proofs.ProgressLemmas.{on_err}
use Rattle.commands.proofs.picturing.picture_image.Goals as goal

pub returns-in_err-image-clause-finds : goal.returns-in_err-image-clause-finds
returns-in_err-image-clause-finds g c = λ tells.
    finds_fault _ _ c.from_residual.ensures.1 (no_image (c.in_err-image.ensures.refused tells), refl)

pub returns-in_err-image-clause-read : goal.returns-in_err-image-clause-read
returns-in_err-image-clause-read g c = read_fault _ _ _ _ c.from_residual.ensures.1 c.in_err-image.ensures.read

pub returns-in_err-page-clause-finds : goal.returns-in_err-page-clause-finds
returns-in_err-page-clause-finds g c = λ tells.
    finds_fault _ _ c.from_residual-in_err-page.ensures.1 (
      picture_refused (g.F.Files.store c.args.files.now).contents c.args.path.now
          (map (λ word. word.now) c.args.arguments.now) c.in_ok-image.image c.in_err-page.field-0.0
          (c.in_ok-image.ensures.said tells) c.in_err-page.ensures.refused,
      refl,
    )

pub returns-in_err-page-clause-part : goal.returns-in_err-page-clause-part
returns-in_err-page-clause-part g c = λ tells both.
    on_err _ (file_picture_part _ c.args.progress c.if-progress.true (c.in_ok-image.ensures.said tells)
    (c.in_err-page.ensures.part both))

pub returns-in_err-page-clause-read : goal.returns-in_err-page-clause-read
returns-in_err-page-clause-read g c =
    read_fault _ _ _ _ c.from_residual-in_err-page.ensures.1 c.in_ok-image.ensures.read

pub returns-then-progress-clause-finds : goal.returns-then-progress-clause-finds
returns-then-progress-clause-finds g c = λ tells.
    finds_answer _ c.of_bytes.ensures.text c.of_bytes.ensures.status (
      record {
        image = c.in_ok-image.image;
        held = c.in_ok-image.ensures.said tells;
        pictured = c.in_ok-page.ensures.said;
      },
      refl,
    ) refl

pub returns-then-progress-clause-told : goal.returns-then-progress-clause-told
returns-then-progress-clause-told g c = λ tells both.
    file_picture_tells HasLines c.args.progress c.if-progress.true (c.in_ok-image.ensures.said tells)
    (c.in_ok-page.ensures.told both)

pub returns-in_err-page-2-clause-finds : goal.returns-in_err-page-2-clause-finds
returns-in_err-page-2-clause-finds g c = λ tells.
    finds_fault _ _ c.from_residual-in_err-page-2.ensures.1 (
      picture_refused (g.F.Files.store c.args.files.now).contents c.args.path.now
          (map (λ word. word.now) c.args.arguments.now) c.in_ok-image.image c.in_err-page-2.field-0.0
          (c.in_ok-image.ensures.said tells) c.in_err-page-2.ensures.refused,
      refl,
    )

pub returns-in_err-page-2-clause-part : goal.returns-in_err-page-2-clause-part
returns-in_err-page-2-clause-part g c = λ tells both. on_err _ (inl refl)

pub returns-in_err-page-2-clause-read : goal.returns-in_err-page-2-clause-read
returns-in_err-page-2-clause-read g c =
    read_fault _ _ _ _ c.from_residual-in_err-page-2.ensures.1 c.in_ok-image.ensures.read

pub returns-clause-finds : goal.returns-clause-finds
returns-clause-finds g c = λ tells.
    finds_answer _ c.of_bytes-2.ensures.text c.of_bytes-2.ensures.status (
      record {
        image = c.in_ok-image.image;
        held = c.in_ok-image.ensures.said tells;
        pictured = c.in_ok-page-2.ensures.said;
      },
      refl,
    ) refl

pub returns-clause-told : goal.returns-clause-told
returns-clause-told g c = λ tells both.
    file_picture_untold HasLines _ _ _ _ c.args.progress c.if-progress.false
