use Rattle.std.proofs.Common.{◌≡◌, drop, map}
use Rattle.codegen.specs.private.MirrorUses.{reached_in_terms}
use Rattle.codegen.specs.Below.{term_tree}
use Rattle.codegen.proofs.mirror_uses.count_in_terms.Given as goal

-- with those in the expressions that are left, the counts are those of all
abbrev pub invariant-loop-term : goal.invariant-loop-term
invariant-loop-term l =
    let declared = l.elements.declared.now in
    let bytes = l.elements.bytes in
    reached_in_terms declared bytes l.weight (map term_tree (drop l.term-index l.terms)) l.counts
    ≡ reached_in_terms declared bytes l.weight (map term_tree l.terms) l.fn.counts
