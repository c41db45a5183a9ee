use Rattle.std.proofs.Common.{◌∙◌, map}
use Rattle.inline.proofs.CostLemmas.{bodies_alike, bytes_alike, nodes_alike}
use Rattle.inline.specs.Measured.{extents_in}
use Rattle.inline.specs.Below.{extents_of, procedure_tree}
use Rattle.inline.proofs.costs.size_costs.Goals as goal

pub returns-clause-nodes : goal.returns-clause-nodes
returns-clause-nodes c =
    c.costs_of.ensures.nodes
    ∙ nodes_alike (extents_in c.in_ok-known.known) (extents_of (map procedure_tree c.args.earlier.now))
    c.in_ok-known.ensures.counts (procedure_tree c.args.export.now)

pub returns-clause-bodies : goal.returns-clause-bodies
returns-clause-bodies c =
    c.costs_of.ensures.bodies
    ∙ bodies_alike (extents_in c.in_ok-known.known) (extents_of (map procedure_tree c.args.earlier.now))
    c.in_ok-known.ensures.counts (procedure_tree c.args.export.now)

pub returns-clause-declared_bytes : goal.returns-clause-declared_bytes
returns-clause-declared_bytes c =
    c.costs_of.ensures.declared_bytes
    ∙ bytes_alike (extents_in c.in_ok-known.known) (extents_of (map procedure_tree c.args.earlier.now))
    c.in_ok-known.ensures.counts (procedure_tree c.args.export.now)
