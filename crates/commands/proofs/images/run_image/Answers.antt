use Rattle.std.proofs.Common.{Err, List, inr, refl, ap, ◌∙◌}
use Rattle.commands.specs.Below.{HasLines, Param, Reaches}
use Rattle.commands.specs.ImageRefusals.{no_answer, out_of_memory}
use Rattle.commands.specs.OutcomeText.{outcome_text}
use Rattle.commands.proofs.AnswerLemmas.{finds_answer, finds_fault, finds_converted, read_fault, read_memory}
use Rattle.commands.proofs.ImageLemmas.{refused_anyway}
use Rattle.commands.proofs.ProgressLemmas.{on_err}
use Rattle.commands.proofs.RunLines.{file_run_part, file_run_tells, run_reaches}
use Rattle.commands.proofs.images.run_image.Goals as goal

pub returns-in_err-image-clause-finds : goal.returns-in_err-image-clause-finds
returns-in_err-image-clause-finds g c = λ tells.
    finds_fault _ _ c.from_residual.ensures.1 (refused_anyway _ (c.in_err-image.ensures.refused tells), refl)

pub returns-in_err-outcome-clause-finds : goal.returns-in_err-outcome-clause-finds
returns-in_err-outcome-clause-finds g c = λ tells.
    finds_converted _ c.from_residual-in_err-outcome.ensures.1 (λ e is. (
      no_answer (c.in_ok-image.ensures.said tells) (
        c.in_ok-image.args,
        c.in_err-outcome.field-0.0,
        c.in_ok-image.ensures.spelled,
        c.in_err-outcome.ensures.executed,
        λ refused. c.in_err-outcome.ensures.calm (ap Err refused),
        is,
      ),
      refl,
    ))

pub returns-in_err-text-clause-finds : goal.returns-in_err-text-clause-finds
returns-in_err-text-clause-finds g c = λ tells.
    finds_converted _ c.from_residual-in_err-text.ensures.1 (λ e memory. (out_of_memory memory, refl))

pub returns-clause-finds : goal.returns-clause-finds
returns-clause-finds g c = λ tells.
    finds_answer _ (c.of_text.ensures.text ∙ c.in_ok-text.ensures
    ∙ ap (λ (params : List Param). outcome_text params c.in_ok-outcome.outcome) (c.as_slice.ensures.value
    ∙ c.in_ok-image.ensures.params)) c.of_text.ensures.status (
      record {
        image = c.in_ok-image.image;
        args = c.in_ok-image.args;
        outcome = c.in_ok-outcome.outcome;
        held = c.in_ok-image.ensures.said tells;
        spelled = c.in_ok-image.ensures.spelled;
        executed = c.in_ok-outcome.ensures.executed;
        printed = refl;
      },
      refl,
    ) refl

pub returns-in_err-outcome-clause-part : goal.returns-in_err-outcome-clause-part
returns-in_err-outcome-clause-part g c = λ tells both.
    on_err _ (file_run_part Reaches _ _ (c.in_ok-image.ensures.said tells) _ c.args.options
    c.in_ok-image.ensures.spelled (c.in_err-outcome.ensures.part both))

pub returns-in_err-text-clause-part : goal.returns-in_err-text-clause-part
returns-in_err-text-clause-part g c = λ tells both.
    on_err _ (inr (run_reaches _ _ _ _ _ c.args.options
    (file_run_tells HasLines _ _ (c.in_ok-image.ensures.said tells) c.args.options c.in_ok-image.ensures.spelled
    (c.in_ok-outcome.ensures.told both))))

pub returns-clause-told : goal.returns-clause-told
returns-clause-told g c = λ tells both.
    file_run_tells HasLines _ _ (c.in_ok-image.ensures.said tells) c.args.options c.in_ok-image.ensures.spelled
    (c.in_ok-outcome.ensures.told both)

pub returns-in_err-image-clause-read : goal.returns-in_err-image-clause-read
returns-in_err-image-clause-read g c = read_fault _ _ _ _ c.from_residual.ensures.1 c.in_err-image.ensures.read

pub returns-in_err-outcome-clause-read : goal.returns-in_err-outcome-clause-read
returns-in_err-outcome-clause-read g c =
    read_fault _ _ _ _ c.from_residual-in_err-outcome.ensures.1 c.in_ok-image.ensures.read

pub returns-in_err-text-clause-read : goal.returns-in_err-text-clause-read
returns-in_err-text-clause-read g c =
    read_memory _ c.from_residual-in_err-text.ensures.1 c.in_ok-image.ensures.read

pub returns-clause-read : goal.returns-clause-read
returns-clause-read g c = c.in_ok-image.ensures.read
