use Rattle.std.proofs.Common.{◌∙◌, ap, inr, length, map, subst, sym}
use Rattle.inline.proofs.Below.{found_first}
use Rattle.inline.proofs.CostLemmas.{limits_alike, nodes_told}
use Rattle.inline.specs.Measured.{extents_in}
use Rattle.inline.specs.Below.{extents_of, IsNamed, procedure_tree, size_violations}
use Rattle.inline.proofs.size_limits.measure.Goals as goal

pub returns-in-Ok-clause-nodes : goal.returns-in-Ok-clause-nodes
returns-in-Ok-clause-nodes c =
    nodes_told (extents_in c.in_ok-known.known) (extents_of (map procedure_tree c.args.earlier.now))
    c.in_ok-known.ensures.counts (procedure_tree c.args.export.now) c.in-Ok.nodes c.in-Ok.ensures.nodes

pub returns-in-Ok-clause-within : goal.returns-in-Ok-clause-within
returns-in-Ok-clause-within c =
    ap length (sym (limits_alike (extents_in c.in_ok-known.known)
    (extents_of (map procedure_tree c.args.earlier.now)) c.in_ok-known.ensures.counts
    (procedure_tree c.args.export.now)))
    ∙ c.in-Ok.ensures.within

pub returns-clause-refused : goal.returns-clause-refused
returns-clause-refused c =
    let violation = c.in-Err.violation in
    let named = subst (λ all. IsNamed all violation) (limits_alike (extents_in c.in_ok-known.known)
    (extents_of (map procedure_tree c.args.earlier.now)) c.in_ok-known.ensures.counts
    (procedure_tree c.args.export.now)) c.in-Err.ensures.named in
    inr (
      violation,
      found_first (size_violations (map procedure_tree c.args.earlier.now) (procedure_tree c.args.export.now)) violation
          named,
      c.of.ensures.rule,
      c.of.ensures.place,
    )

pub returns-clause-told : goal.returns-clause-told
returns-clause-told c =
    let violation = c.in-Err.violation in
    let named = subst (λ all. IsNamed all violation) (limits_alike (extents_in c.in_ok-known.known)
    (extents_of (map procedure_tree c.args.earlier.now)) c.in_ok-known.ensures.counts
    (procedure_tree c.args.export.now)) c.in-Err.ensures.named in
    inr (violation, named, record { rule = c.of.ensures.rule; place = c.of.ensures.place; why = c.of.ensures.why })
