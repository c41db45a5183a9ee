use Rattle.elf_runs.proofs.Answering.{segments_below}
use Rattle.elf_runs.proofs.laws.segments_end_below_the_stack.Goals as goal

pub returns : goal.returns
returns c = segments_below
