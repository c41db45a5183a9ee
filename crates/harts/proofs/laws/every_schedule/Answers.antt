use Rattle.harts.proofs.EveryScheduleLemmas.{each_is_alone, one_alone, one_list}
use Rattle.harts.proofs.laws.every_schedule.Goals as goal

pub returns-clause-alone : goal.returns-clause-alone
returns-clause-alone c = each_is_alone

pub returns-clause-one_alone : goal.returns-clause-one_alone
returns-clause-one_alone c = one_alone

pub returns-clause-equal_leakage : goal.returns-clause-equal_leakage
returns-clause-equal_leakage c = one_list
