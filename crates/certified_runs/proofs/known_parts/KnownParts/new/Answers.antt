-- Each mask is 0.
use Rattle.certified_runs.proofs.Marks.{zero_masks}
use Rattle.certified_runs.proofs.known_parts.KnownParts.new.Goals as goal

pub returns-clause-registers : goal.returns-clause-registers
returns-clause-registers g c = zero_masks 32
