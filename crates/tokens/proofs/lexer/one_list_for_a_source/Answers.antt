use Rattle.tokens.proofs.TokenLaws.{one_list}
use Rattle.tokens.proofs.lexer.one_list_for_a_source.Goals as goal

pub returns : goal.returns
returns c = one_list
