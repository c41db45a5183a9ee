use Rattle.elf_runs.proofs.Promises.{one_answer}
use Rattle.elf_runs.proofs.laws.function_certificates_agree.Goals as goal

pub returns : goal.returns
returns c = one_answer
