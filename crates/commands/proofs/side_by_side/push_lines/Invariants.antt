-- The bytes so far, and those that are left with their fronts, are all.
use Rattle.std.proofs.Common.{◌≡◌, ◌++◌, true, drop}
use Rattle.std.specs.String.{string_bytes}
use Rattle.commands.specs.HartsText.{with_fronts}
use Rattle.commands.proofs.side_by_side.push_lines.Given as goal

abbrev pub invariant-loop-byte : goal.invariant-loop-byte
invariant-loop-byte l =
    l.text.items ++ with_fronts (string_bytes l.front) l.begins (drop l.byte-index l.lines) ≡ l.fn.text.items
    ++ with_fronts (string_bytes l.front) true l.lines
