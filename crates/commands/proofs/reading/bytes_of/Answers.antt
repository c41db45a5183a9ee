use Rattle.std.proofs.Common.{refl}
use Rattle.commands.specs.Unread.{unread, out_of_memory}
use Rattle.commands.proofs.reading.bytes_of.Goals as goal

pub returns-in_default-clause-fault : goal.returns-in_default-clause-fault
returns-in_default-clause-fault g c = unread refl

pub returns-in-Err-Source-clause-fault : goal.returns-in-Err-Source-clause-fault
returns-in-Err-Source-clause-fault g c = unread refl

pub returns-in-Err-Memory-clause-fault : goal.returns-in-Err-Memory-clause-fault
returns-in-Err-Memory-clause-fault g c = out_of_memory (c.memory.ensures.rule, c.memory.ensures.place)
