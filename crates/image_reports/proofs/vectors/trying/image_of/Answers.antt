use Rattle.image_reports.specs.Below.{program_tree}
use Rattle.image_reports.proofs.vectors.trying.image_of.Goals as goal

pub returns-clause-image : goal.returns-clause-image
returns-clause-image c =
    let is = c.in_ok-compiled.ensures.compiled in (
      program_tree c.in_ok-compiled.compiled.program,
      record { before = is.0; export = is.1; compilation = rw c.from.ensures is.2 },
    )
