use Rattle.language.proofs.typing_laws_lemmas.Expressions.{expressions}
use Rattle.language.proofs.typing_laws.laws.expressions_by_rules.Goals as goal

pub returns : goal.returns
returns c = expressions
