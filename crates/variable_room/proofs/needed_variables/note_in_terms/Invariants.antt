use Rattle.std.proofs.Common.{◌≡◌, drop, map}
use Rattle.variable_room.specs.Below.{term_tree}
use Rattle.variable_room.specs.needed_variables.private.Named.{named_in_terms}
use Rattle.variable_room.proofs.needed_variables.note_in_terms.Given as goal

-- with those in the expressions that are left, all are named
abbrev pub invariant-loop-term : goal.invariant-loop-term
invariant-loop-term l =
    named_in_terms (map term_tree (drop l.term-index l.terms)) l.named
    ≡ named_in_terms (map term_tree l.terms) l.fn.named
