-- The layers so far, and those that are left, are all.
use Rattle.std.proofs.Common.{◌≡◌, ◌++◌, drop}
use Rattle.std.specs.String.{string_bytes}
use Rattle.run_reports.specs.pictures.Page.{layers_text}
use Rattle.run_reports.proofs.pictures.layers.layers_text.Given as goal

abbrev pub invariant-loop-layer : goal.invariant-loop-layer
invariant-loop-layer l = string_bytes l.text ++ layers_text l.cells (drop l.layer-index l.layers)
    ≡ layers_text l.cells l.layers
