use Rattle.std.proofs.Common.{refl}
use Rattle.commands.specs.Commanded.{performed, said}
use Rattle.commands.proofs.performing.command.Goals as goal

pub returns-in-Ok-clause-commanded : goal.returns-in-Ok-clause-commanded
returns-in-Ok-clause-commanded g c = λ files out err.
    performed c.in-Ok.asked.request c.in-Ok.asked.format c.in-Ok.ensures.asked c.in-Ok.ensures.apart
    (c.perform.ensures.performed files out err)

pub returns-clause-commanded : goal.returns-clause-commanded
returns-clause-commanded g c = λ files out err. said refl (c.explain-in-Err.ensures.told out err)

pub returns-in-Some-clause-commanded : goal.returns-in-Some-clause-commanded
returns-in-Some-clause-commanded g c = λ files out err. said refl (c.explain.ensures.told out err)
