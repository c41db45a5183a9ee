use Rattle.rv_code.proofs.ExpansionLaws as expansions
use Rattle.rv_code.proofs.laws.lengths_differ.Goals as goal

pub returns-clause-words : goal.returns-clause-words
returns-clause-words c = λ i is_i. expansions.begins_word i

pub returns-clause-halfwords : goal.returns-clause-halfwords
returns-clause-halfwords c = expansions.begins_no_word
