use Rattle.harts.proofs.EndLemmas.{ends_as_meant, ends_so_far, one_record}
use Rattle.harts.proofs.laws.harts_do_what_sources_mean.Goals as goal

pub returns-clause-ended : goal.returns-clause-ended
returns-clause-ended c = ends_as_meant

pub returns-clause-so_far : goal.returns-clause-so_far
returns-clause-so_far c = ends_so_far

pub returns-clause-recorded : goal.returns-clause-recorded
returns-clause-recorded c = one_record
