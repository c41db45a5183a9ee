-- The marks are where they were.
use Rattle.certified_runs.specs.Below.{byte_count}
use Rattle.certified_runs.proofs.Marks.{store_extent}
use Rattle.certified_runs.proofs.known_parts.KnownParts.set_bytes.Goals as goal

pub returns-clause-extent : goal.returns-clause-extent
returns-clause-extent g c =
    let marks = g.M.Memory.bytes c.args.self.now.marks in
    store_extent marks _ (byte_count c.args.n) c.args.a c.args.mask c.store.result c.store.ensures.answer
    c.store.ensures.stored c.store.ensures.unchanged
