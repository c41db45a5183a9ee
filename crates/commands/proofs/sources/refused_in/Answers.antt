use Rattle.commands.specs.Judged.{as_told}
use Rattle.commands.proofs.SourceLemmas.{told_without_memory}
use Rattle.commands.proofs.sources.refused_in.Goals as goal

pub returns-in-Ok : goal.returns-in-Ok
returns-in-Ok c = as_told c.in-Ok.ensures.told

pub returns-in-Err : goal.returns-in-Err
returns-in-Err c = told_without_memory c.in-Err.ensures.memory.0 c.in-Err.ensures.memory.1
