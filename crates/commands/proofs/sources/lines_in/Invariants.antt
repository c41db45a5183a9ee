-- The line feeds that are left make the lines whole.
use Rattle.std.proofs.Common.{◌≡◌, ◌+◌, ◌≤◌, drop}
use Rattle.std.specs.List.{count_by}
use Rattle.commands.specs.Sources.{is_line_feed}
use Rattle.commands.proofs.sources.lines_in.Given as goal

abbrev pub invariant-loop-byte : goal.invariant-loop-byte
invariant-loop-byte l = record {
  counted :
      l.lines + count_by is_line_feed (drop l.byte-index l.bytes) ≡ count_by is_line_feed l.bytes + 1;
  few : l.lines ≤ l.byte-index + 1;
}
