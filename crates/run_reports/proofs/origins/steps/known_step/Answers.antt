-- A certified run of one step.
use Rattle.std.proofs.Common.{[], ◌∷◌, ◌≡◌, List, length, ap, ◌∙◌, sym, refl, arith}
use Rattle.run_reports.specs.Below.{entries_of, Observation}
use Rattle.run_reports.specs.progress.Certified.{entries_at}
use Rattle.run_reports.proofs.origins_lemmas.Steps.{depends_first, ends_first, leads_first}
use Rattle.run_reports.proofs.origins.steps.known_step.Goals as goal

pub returns-in-MayDiffer-clause-stepped : goal.returns-in-MayDiffer-clause-stepped
returns-in-MayDiffer-clause-stepped g c =
    let run = c.in-MayDiffer.ensures.certified in
    depends_first run.1 _ c.in-MayDiffer.entry c.in-MayDiffer.pc run.2 run.3 refl

pub returns-then-run-eq0-clause-stepped : goal.returns-then-run-eq0-clause-stepped
returns-then-run-eq0-clause-stepped g c =
    let spent = c.in-Same.ensures.spent (omega arith) in
    let step = leads_first spent.1 in (
      step.0,
      step.1,
      ap (λ (seen : List Observation). length (entries_of seen)) (sym step.2) ∙ sym (ap entries_at spent.2),
    )

pub returns-else-run-eq0-clause-stepped : goal.returns-else-run-eq0-clause-stepped
returns-else-run-eq0-clause-stepped g c =
    let run = c.in-Same.ensures.certified in
    ends_first run.1 _ c.in-Same.stop c.in-Same.entries run.2 run.3 refl
    (λ shown later. c.in-Same.ensures.ended shown later (omega arith))
