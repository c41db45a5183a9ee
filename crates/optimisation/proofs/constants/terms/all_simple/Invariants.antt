use Rattle.std.proofs.Common.{◌≡◌, map, take}
use Rattle.optimisation.specs.Below.{term_tree}
use Rattle.optimisation.specs.constants.private.Known.{words_of}
use Rattle.optimisation.specs.constants.private.Folding.{simple}
use Rattle.optimisation.proofs.constants.terms.all_simple.Given as goal

-- the expressions before this one are done
abbrev pub invariant-loop-term : goal.invariant-loop-term
invariant-loop-term l = map term_tree l.simpler.items
    ≡ map (simple (words_of l.known)) (map term_tree (take l.term-index l.terms))
