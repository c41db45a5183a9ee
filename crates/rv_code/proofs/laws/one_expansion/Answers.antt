use Rattle.rv_code.proofs.ExpansionLaws as expansions
use Rattle.rv_code.proofs.HalfwordLaws as laws
use Rattle.rv_code.proofs.laws.one_expansion.Goals as goal

pub returns-clause-one : goal.returns-clause-one
returns-clause-one c = laws.one_expansion

pub returns-clause-in_range : goal.returns-clause-in_range
returns-clause-in_range c = expansions.in_range
