use Rattle.hepurita.proofs.grammar_laws_lemmas.Existence.{tokens_of}
use Rattle.hepurita.proofs.grammar_laws.laws.each_source_has_tokens.Goals as goal

pub returns : goal.returns
returns c = tokens_of
