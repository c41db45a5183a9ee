use Rattle.syntax.proofs.GrammarLemmas.{grammatical}
use Rattle.syntax.proofs.parser.sources_are_grammatical.Goals as goal

pub returns : goal.returns
returns c = grammatical
