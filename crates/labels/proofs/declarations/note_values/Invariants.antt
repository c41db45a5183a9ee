use Rattle.std.proofs.Common.{◌≡◌, drop, fold}
use Rattle.labels.specs.Below.{noted, values_violations}
use Rattle.labels.proofs.declarations.note_values.Given as goal

-- what is left of the values leads to the same findings as all of them
abbrev pub invariant-loop-given : goal.invariant-loop-given
invariant-loop-given l =
    fold noted l.findings (values_violations l.place l.wanted (drop l.given-index l.types))
    ≡ fold noted l.fn.findings (values_violations l.place l.wanted l.types)
