use Rattle.expression_code.proofs.SiteRuns as runs
use Rattle.expression_code.proofs.laws.expressions_are_computed.Goals as goal

pub returns : goal.returns
returns c = runs.expressions_are_computed
