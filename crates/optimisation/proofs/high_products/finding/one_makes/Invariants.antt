use Rattle.std.proofs.Common.{◌≡◌, drop, map}
use Rattle.optimisation.specs.Below.{term_tree}
use Rattle.optimisation.specs.high_products.private.Replacing.{one_makes}
use Rattle.optimisation.proofs.high_products.finding.one_makes.Given as goal

-- those that are left decide
abbrev pub invariant-loop-term : goal.invariant-loop-term
invariant-loop-term l = one_makes (map term_tree (drop l.term-index l.terms)) ≡ one_makes (map term_tree l.terms)
