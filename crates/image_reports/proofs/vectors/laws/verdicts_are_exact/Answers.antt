use Rattle.image_reports.specs.Below.{Hidden}
use Rattle.image_reports.proofs.vectors_lemmas.ExactLemmas.{one_verdict, all_counted}
use Rattle.image_reports.proofs.vectors.laws.verdicts_are_exact.Goals as goal

pub returns-clause-one : goal.returns-clause-one
returns-clause-one c =
    one_verdict c.readings_agree.ensures (λ image given a b. c.certifications_agree.ensures image given Hidden a b)

pub returns-clause-counted : goal.returns-clause-counted
returns-clause-counted c = all_counted
