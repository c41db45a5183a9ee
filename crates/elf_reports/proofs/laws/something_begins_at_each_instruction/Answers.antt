use Rattle.elf_reports.proofs.Standing.{begins_there}
use Rattle.elf_reports.proofs.laws.something_begins_at_each_instruction.Goals as goal

pub returns : goal.returns
returns c = begins_there
