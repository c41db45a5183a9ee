-- Those before this one are told.
use Rattle.std.proofs.Common.{take}
use Rattle.commands.specs.Below.{numbered_of}
use Rattle.commands.specs.Violations.{AreToldBy}
use Rattle.commands.proofs.violations.all_told.Given as goal

abbrev pub invariant-loop-violation : goal.invariant-loop-violation
invariant-loop-violation l =
    AreToldBy l.text (numbered_of l.libraries) l.explain (take l.violation-index l.found) l.faults.items
