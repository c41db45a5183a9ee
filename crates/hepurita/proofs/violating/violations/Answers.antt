use Rattle.std.proofs.lemmas.Result.{IfOk-weaker}
use Rattle.hepurita.specs.Listed.{lists_program}
use Rattle.hepurita.proofs.violating.violations.Goals as goal

pub returns-in-Ok-clause-found : goal.returns-in-Ok-clause-found
returns-in-Ok-clause-found c =
    IfOk-weaker c.violations_of.result _ _ (λ found listed. lists_program c.in-Ok.ensures.accepted listed)
    (c.violations_of.ensures.found c.args.source.now c.in-Ok.ensures.accepted)

pub returns-in-Err-clause-memory : goal.returns-in-Err-clause-memory
returns-in-Err-clause-memory c = c.alone.ensures.memory c.args.source.now c.in-Err.ensures.refused
