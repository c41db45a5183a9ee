use Rattle.std.proofs.Common.{◌≡◌, drop, map}
use Rattle.variable_room.specs.Below.{term_tree}
use Rattle.variable_room.specs.set_whole.Watching.{may_read_all, watch_of}
use Rattle.variable_room.proofs.set_whole.watch.ArrayWatch.may_read_all.Given as goal

-- those that are left decide
abbrev pub invariant-loop-term : goal.invariant-loop-term
invariant-loop-term l =
    may_read_all (watch_of l.self) l.flags (map term_tree (drop l.term-index l.terms))
    ≡ may_read_all (watch_of l.self) l.flags (map term_tree l.terms)
