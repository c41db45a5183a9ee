-- The cells so far, and those that are left, are all.
use Rattle.std.proofs.Common.{◌≡◌, ◌++◌, drop}
use Rattle.std.specs.String.{string_bytes}
use Rattle.run_reports.specs.pictures.Page.{cells_text}
use Rattle.run_reports.proofs.pictures.layers.cells_text.Given as goal

abbrev pub invariant-loop-number : goal.invariant-loop-number
invariant-loop-number l =
    string_bytes l.text ++ cells_text l.layer l.number (drop l.number l.cells) ≡ cells_text l.layer 0 l.cells
