-- The lines so far, and those of the parameters that are left, are all.
use Rattle.std.proofs.Common.{◌≡◌, ◌++◌, drop}
use Rattle.std.specs.String.{string_bytes}
use Rattle.commands.specs.OutcomeText.{array_lines}
use Rattle.commands.proofs.outcome.push_arrays.Given as goal

abbrev pub invariant-loop-number : goal.invariant-loop-number
invariant-loop-number l =
    string_bytes l.text ++ array_lines l.number (drop l.number l.params) l.left ≡ string_bytes l.fn.text
    ++ array_lines 0 l.params l.arrays
