use Rattle.syntax.proofs.MachineAnswers.{one_program}
use Rattle.syntax.proofs.parser.one_program_for_tokens.Goals as goal

pub returns : goal.returns
returns c = one_program
