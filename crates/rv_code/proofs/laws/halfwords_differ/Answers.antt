use Rattle.rv_code.proofs.HalfwordLaws as laws
use Rattle.rv_code.proofs.laws.halfwords_differ.Goals as goal

pub returns : goal.returns
returns c = laws.halfwords_differ
