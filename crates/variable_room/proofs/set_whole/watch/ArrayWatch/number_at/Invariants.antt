use Rattle.std.proofs.Common.{◌≡◌, drop}
use Rattle.variable_room.specs.set_whole.Watching.{number_at}
use Rattle.variable_room.proofs.set_whole.watch.ArrayWatch.number_at.Given as goal

-- the counters that are left say what all say
abbrev pub invariant-loop-counter : goal.invariant-loop-counter
invariant-loop-counter l =
    number_at (drop l.counter-index l.self.counters.items) l.variable
    ≡ number_at l.fn.self.counters.items l.fn.variable
