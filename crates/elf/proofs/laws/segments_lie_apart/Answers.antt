use Rattle.elf.proofs.Apart.{segments_apart}
use Rattle.elf.proofs.laws.segments_lie_apart.Goals as goal

pub returns : goal.returns
returns c = segments_apart
