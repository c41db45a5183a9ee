use Rattle.syntax.proofs.AnswerLaws.{one_answer}
use Rattle.syntax.proofs.parser.one_answer_for_a_source.Goals as goal

pub returns : goal.returns
returns c = one_answer
