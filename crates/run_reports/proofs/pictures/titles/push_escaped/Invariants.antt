-- The bytes so far, and those that are left, are all.
use Rattle.std.proofs.Common.{◌≡◌, ◌++◌, drop}
use Rattle.run_reports.specs.pictures.Titles.{escaped}
use Rattle.run_reports.proofs.pictures.titles.push_escaped.Given as goal

abbrev pub invariant-loop-byte : goal.invariant-loop-byte
invariant-loop-byte l =
    l.page.items ++ escaped (drop l.byte-index l.text) ≡ l.fn.page.items ++ escaped l.text
