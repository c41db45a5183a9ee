use Rattle.std.proofs.lemmas.List.Sums.{fold-append}
use Rattle.labels.specs.Below.{noted}
use Rattle.labels.proofs.arguments.note_passed.Goals as goal

pub returns-then-fits-clause-findings : goal.returns-then-fits-clause-findings
returns-then-fits-clause-findings c =
    simp (
      fold-append noted,
      c.note.ensures,
      c.note_argument-fits.ensures.findings,
      c.parameter_value.ensures,
      c.is_fixed-fixed.ensures,
      c.argument_declared.ensures,
    )

pub returns-else-fits-clause-findings : goal.returns-else-fits-clause-findings
returns-else-fits-clause-findings c =
    simp (
      fold-append noted,
      c.note.ensures,
      c.note_argument-fits.ensures.findings,
      c.parameter_value.ensures,
      c.is_fixed-fixed.ensures,
      c.argument_declared.ensures,
    )
