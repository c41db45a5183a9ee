use Rattle.std.proofs.Common.{◌≡◌, drop, map}
use Rattle.variable_room.specs.Below.{term_tree}
use Rattle.variable_room.specs.set_first.Order.{all_read_known}
use Rattle.variable_room.proofs.set_first.all_read_known.Given as goal

-- those that are left decide
abbrev pub invariant-loop-term : goal.invariant-loop-term
invariant-loop-term l =
    all_read_known l.known (map term_tree (drop l.term-index l.terms)) ≡ all_read_known l.known (map term_tree l.terms)
