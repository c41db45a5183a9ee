use Rattle.std.proofs.Common.{drop, map}
use Rattle.inline.proofs.TableLemmas.{Knows}
use Rattle.inline.specs.Counts.{counted_extent}
use Rattle.inline.specs.Measured.{extent_of_measured}
use Rattle.inline.specs.Below.{extent_of, extents_of, procedure_tree}
use Rattle.inline.proofs.sizes.measure_all.Given as goal

-- the table counts what is known so far
abbrev pub invariant-loop-procedure : goal.invariant-loop-procedure
invariant-loop-procedure l =
    Knows extent_of_measured counted_extent extent_of l.table (drop l.procedure-index l.procedures)
    (extents_of (map procedure_tree l.procedures))
