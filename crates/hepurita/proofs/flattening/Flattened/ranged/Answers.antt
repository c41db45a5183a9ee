use Rattle.std.proofs.Common.{ap, ◌∙◌}
use Rattle.hepurita.specs.Below.{ranged}
use Rattle.hepurita.proofs.FlattenedLemmas.{err_both, judged_fine, ok_beside, refused_by_ranges}
use Rattle.hepurita.proofs.flattening.Flattened.ranged.Goals as goal

pub returns-clause-accepted : goal.returns-clause-accepted
returns-clause-accepted c = λ profile source is.
    ok_beside c.check_ranges.result _ _ c.check_ranges.ensures.in_range c.check_ranges.ensures.worked
    c.check_ranges.ensures.accepted
    (λ in_range in_time counted same. (
      same ∙ ap ranged is.body,
      judged_fine profile source c.args.self.now is in_range in_time,
    ))

pub returns-clause-refused : goal.returns-clause-refused
returns-clause-refused c = λ profile source is.
    err_both c.check_ranges.result _ _ _ c.check_ranges.ensures.refused c.check_ranges.ensures.told
    (refused_by_ranges profile source c.args.self.now is)
