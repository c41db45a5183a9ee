use Rattle.std.proofs.Common.{◌+◌, ◌*◌}
use Rattle.inline.specs.FlatSize.{term_nodes}
use Rattle.optimisation.specs.Below.{term_tree}
use Rattle.optimisation.proofs.constants.terms.+simple.Given as goal

-- Each call is for a part of what it is called in.

abbrev pub decreases-simple : goal.decreases-simple
decreases-simple l = 3 * term_nodes (term_tree l.term.now)

abbrev pub decreases-boxed : goal.decreases-boxed
decreases-boxed l = 3 * term_nodes (term_tree l.term.now) + 1

abbrev pub decreases-select : goal.decreases-select
decreases-select l = 3 * (term_nodes (term_tree l.accepted.now) + term_nodes (term_tree l.otherwise.now)) + 2
