use Rattle.hepurita.proofs.grammar_laws_lemmas.TreeHeads.{one_head}
use Rattle.hepurita.proofs.grammar_laws.laws.heads_are_distinct.Goals as goal

pub returns : goal.returns
returns c = one_head
