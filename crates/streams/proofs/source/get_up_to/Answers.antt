use Rattle.std.proofs.Common.{arith}
use Rattle.streams.proofs.Pieces.{LosesPart-append}
use Rattle.streams.proofs.source.get_up_to.Goals as goal

pub returns-in-Err-clause-part : goal.returns-in-Err-clause-part
returns-in-Err-clause-part g c =
    λ tells.
    rw (c.loop-source.invariant.1 tells)
    (LosesPart-append c.loop-source.bytes.items (g.S.Source.coming c.loop-source.source)
    (g.S.Source.coming c.get_more.new.source) c.args.limit (omega arith)
    (rw (← c.loop-source.bytes.ok.0) (c.in-Err.ensures.part tells)))
