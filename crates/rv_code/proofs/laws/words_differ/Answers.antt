use Rattle.rv_code.proofs.WordLaws as laws
use Rattle.rv_code.proofs.laws.words_differ.Goals as goal

pub returns : goal.returns
returns c = laws.words_differ
