use Rattle.std.proofs.Common.{Result, Err, refl, ap}
use Rattle.commands.specs.Below.{collected, LeakFault, Stop}
use Rattle.commands.specs.Contents.{Store}
use Rattle.commands.specs.ImageRefusals.{no_answer}
use Rattle.commands.proofs.AnswerLemmas.{does_fault, ends_fault}
use Rattle.commands.proofs.Counting.{counted_by, either_counts, err_inj, kept_by}
use Rattle.commands.proofs.ImageLemmas.{refused_anyway}
use Rattle.commands.proofs.LeakFaults.{cut_at_output, fails_to_list, leak_counts, lists, not_write}
use Rattle.commands.proofs.images.leak_image.Goals as goal

pub returns-in_err-image-clause-does : goal.returns-in_err-image-clause-does
returns-in_err-image-clause-does g c = λ tells both.
    does_fault _ _ _ refl _ _ c.from_residual.ensures.1
    (refused_anyway _ (c.in_err-image.ensures.refused tells), kept_by _ _ _ c.in_err-image.ensures.read)
    (counted_by _ _ _ c.in_err-image.ensures.read)

pub returns-in_err-image-clause-ended : goal.returns-in_err-image-clause-ended
returns-in_err-image-clause-ended g c =
    ends_fault _ _ _ _ _ c.from_residual.ensures.1 (counted_by _ _ _ c.in_err-image.ensures.read)

pub returns-in-Ok-clause-does : goal.returns-in-Ok-clause-does
returns-in-Ok-clause-does g c = λ tells both.
    lists c.args.path c.args.arguments (c.in_ok-image.ensures.said tells) c.in_ok-image.ensures.spelled c.in-Ok.stop
    c.status_of.result c.status_of.ensures.exact (c.in-Ok.ensures.written both) (c.in-Ok.ensures.calm (λ is. cc))
    c.in_ok-image.ensures.read

pub returns-in-Ok-clause-ended : goal.returns-in-Ok-clause-ended
returns-in-Ok-clause-ended g c = (
  c.status_of.ensures.known,
  ap (λ (s : Store). s.failures) c.in_ok-image.ensures.read,
  c.in-Ok.ensures.calm (λ is. cc),
)

pub returns-clause-does : goal.returns-clause-does
returns-clause-does g c = λ tells both.
    let gives : LeakFault → Result Stop LeakFault = λ why. Err why in
    let held = c.in_ok-image.ensures.said tells in
    fails_to_list (λ o. collected (g.O.Sink.taken o) (g.O.Sink.failures o)) c.args.path c.args.arguments _ _ _ _
    c.leak_fault.result
    (no_answer held
    (c.in_ok-image.args, c.in-Err.fault, c.in_ok-image.ensures.spelled, c.in-Err.ensures.answer, c.leak_fault.ensures))
    (λ output. cut_at_output held c.in_ok-image.ensures.spelled c.in-Err.fault c.leak_fault.result _ _
    c.leak_fault.ensures output (λ is. c.in-Err.ensures.beginning both (ap gives is)))
    (λ other. c.in-Err.ensures.untouched (not_write c.in-Err.fault c.leak_fault.result c.leak_fault.ensures other))
    (leak_counts c.in-Err.fault c.leak_fault.result c.leak_fault.ensures c.in_ok-image.ensures.read
    (λ other. c.in-Err.ensures.calm (λ is. other (err_inj is))) (λ is. c.in-Err.ensures.counts (ap gives is)))

pub returns-clause-ended : goal.returns-clause-ended
returns-clause-ended g c =
    let gives : LeakFault → Result Stop LeakFault = λ why. Err why in
    either_counts c.leak_fault.result
    (leak_counts c.in-Err.fault c.leak_fault.result c.leak_fault.ensures c.in_ok-image.ensures.read
    (λ other. c.in-Err.ensures.calm (λ is. other (err_inj is))) (λ is. c.in-Err.ensures.counts (ap gives is)))
