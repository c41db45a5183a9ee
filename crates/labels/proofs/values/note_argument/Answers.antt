use Rattle.std.proofs.Common.{◌∙◌, ap, fold}
use Rattle.labels.specs.Below.{noted, typed_part, Word}
use Rattle.labels.proofs.RuleLemmas.{put_as_argument}
use Rattle.labels.proofs.values.note_argument.Goals as goal

pub returns-in-Word-clause-findings : goal.returns-in-Word-clause-findings
returns-in-Word-clause-findings c =
    rw c.in-Word.is (c.note_put.ensures.findings
    ∙ ap (fold noted c.args.findings.now)
    (put_as_argument c.args.place (typed_part c.args.part (Word c.in-Word.word)) c.in-Word.word c.args.given))

pub returns-in-Array-clause-findings : goal.returns-in-Array-clause-findings
returns-in-Array-clause-findings c = rw c.in-Array.is c.note_shape.ensures.findings
