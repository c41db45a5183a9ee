-- The number that stands where its place is.
use Rattle.std.proofs.Common.{sym, ap, ◌∙◌}
use Rattle.rv_machine.specs.Bytes.{number_at}
use Rattle.rv_machine.specs.Flat.{flat_bytes}
use Rattle.rv_machine.specs.Sizes.{byte_count}
use Rattle.rv_machine.proofs.flat.FlatMemoryMemory.load.Goals as goal

pub returns-clause-number : goal.returns-clause-number
returns-clause-number c =
    sym (ap (number_at (flat_bytes c.args.self.now) (byte_count c.args.n)) (sym c.in_ok-start.ensures.within.0)
    ∙ c.number.ensures.number)
