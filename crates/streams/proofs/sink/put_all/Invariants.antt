use Rattle.std.proofs.Common.{length, ◌-◌, ◌≡◌, ◌≤◌, ◌++◌, take, IsTrue}
use Rattle.streams.proofs.sink.put_all.Given as goal

abbrev pub invariant-loop-put : goal.invariant-loop-put
invariant-loop-put g l =
    (l.put ≤ length l.bytes)
    × (IsTrue g.S.Sink.TELLS → g.S.Sink.taken l.sink ≡ g.S.Sink.taken l.initial.sink ++ take l.put l.bytes)
    × (g.S.Sink.failures l.sink ≡ g.S.Sink.failures l.initial.sink)

abbrev pub decreases-loop-put : goal.decreases-loop-put
decreases-loop-put g l = length l.bytes - l.put
