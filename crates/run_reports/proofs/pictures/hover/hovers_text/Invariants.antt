-- What is shown over the cells so far, and over those that are left, is shown over all.
use Rattle.std.proofs.Common.{◌≡◌, ◌++◌, drop}
use Rattle.std.specs.String.{string_bytes}
use Rattle.run_reports.specs.pictures.Hover.{hovers_text}
use Rattle.run_reports.proofs.pictures.hover.hovers_text.Given as goal

abbrev pub invariant-loop-number : goal.invariant-loop-number
invariant-loop-number l =
    string_bytes l.text ++ hovers_text l.steps l.area l.number (drop l.number l.cells)
    ≡ hovers_text l.steps l.area 0 l.cells
