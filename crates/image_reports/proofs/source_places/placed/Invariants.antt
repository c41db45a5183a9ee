-- The line is placed among the libraries that are left.
use Rattle.std.proofs.Common.{◌≡◌, drop}
use Rattle.image_reports.specs.source_places.Placed.{numbered_of, placed}
use Rattle.image_reports.proofs.source_places.placed.Given as goal

abbrev pub invariant-loop-library : goal.invariant-loop-library
invariant-loop-library l =
    placed (numbered_of l.libraries) l.line ≡ placed (numbered_of (drop l.library-index l.libraries)) l.left
