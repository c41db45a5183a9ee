use Rattle.linked_calls.proofs.Words.{word_is_taken}
use Rattle.linked_calls.proofs.laws.word_is_taken.Goals as goal

pub returns : goal.returns
returns c = word_is_taken
