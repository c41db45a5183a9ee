use Rattle.std.proofs.Common.{IfOk, List, map, subst}
use Rattle.inline.proofs.CostLemmas.{passed_is}
use Rattle.inline.specs.Below.{AreInOrder, extents_of, procedure_tree}
use Rattle.language.specs.declared.typing.Violation.{Violation}
use Rattle.inline.proofs.size_limits.limits_passed.Goals as goal

pub returns : goal.returns
returns c =
    let is = passed_is (extents_of (map procedure_tree c.args.earlier.now)) (procedure_tree c.args.export.now)
    c.in_ok-costs.costs c.in_ok-costs.ensures.nodes c.in_ok-costs.ensures.bodies c.in_ok-costs.ensures.declared_bytes in
    subst (λ (all : List Violation). IfOk c.in_order.result (λ found. AreInOrder all found.items)) is
    (subst (λ (all : List Violation). IfOk c.in_order.result (λ found. AreInOrder all found.items))
    c.in_ok-all_passed.ensures c.in_order.ensures)
