use Rattle.std.proofs.Common.{ap}
use Rattle.rv_machine.specs.Entries.{entries_of}
use Rattle.rv_machine.proofs.EntryLaws.{entries_of-injective}
use Rattle.rv_machine.proofs.laws.entries_tell_observations_apart.Goals as goal

pub returns : goal.returns
returns c = λ one other. (entries_of-injective one other, ap entries_of)
