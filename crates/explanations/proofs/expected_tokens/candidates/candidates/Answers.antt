use Rattle.std.proofs.Common.{refl}
use Rattle.explanations.specs.expected_tokens.Candidates.{punctuation, operands, operators, types, keywords, candidates}
use Rattle.explanations.proofs.expected_tokens.candidates.candidates.Goals as goal

pub returns : goal.returns
unfolding candidates punctuation operands operators types keywords
returns c = refl
