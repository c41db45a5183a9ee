-- The number is put where its place is.
use Rattle.std.proofs.Common.{ap, ◌∙◌}
use Rattle.rv_machine.specs.Bytes.{with_number}
use Rattle.rv_machine.specs.Flat.{flat_bytes}
use Rattle.rv_machine.specs.Sizes.{byte_count}
use Rattle.rv_machine.proofs.flat.FlatMemoryMemory.store.Goals as goal

pub returns-clause-stored : goal.returns-clause-stored
returns-clause-stored c = λ _.
    c.put.ensures ∙ ap (λ x. with_number (flat_bytes c.args.self.now) (byte_count c.args.n) x c.args.v)
    c.in-Some.ensures.within.0
