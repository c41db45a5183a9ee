use Rattle.std.proofs.Common.{◌-◌, ◌≡◌, ◌≤◌, ◌++◌, vec_len, IsTrue}
use Rattle.streams.proofs.source.get_up_to.Given as goal

abbrev pub invariant-loop-source : goal.invariant-loop-source
invariant-loop-source g l =
    (vec_len l.bytes ≤ l.limit)
    × (IsTrue g.S.Source.TELLS
    → g.S.Source.coming l.initial.source ≡ l.bytes.items ++ g.S.Source.coming l.source)
    × (g.S.Source.failures l.source ≡ g.S.Source.failures l.initial.source)

abbrev pub decreases-loop-source : goal.decreases-loop-source
decreases-loop-source g l = l.limit - vec_len l.bytes
