use Rattle.std.proofs.Common.{◌≡◌, drop, fold, map}
use Rattle.intervals.specs.Below.{noted, term_tree}
use Rattle.intervals.specs.Ranges.{terms_violations}
use Rattle.intervals.proofs.terms.note_terms.Given as goal

-- what is left of the expressions leads to the same first violation as all of them
abbrev pub invariant-loop-term : goal.invariant-loop-term
invariant-loop-term l =
    fold noted l.findings (terms_violations l.declared l.bounds (map term_tree (drop l.term-index l.terms)))
    ≡ fold noted l.fn.findings (terms_violations l.declared l.bounds (map term_tree l.terms))
