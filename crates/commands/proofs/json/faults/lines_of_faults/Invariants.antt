-- The lines so far, and those of the faults that are left, are all.
use Rattle.std.proofs.Common.{◌≡◌, ◌++◌, drop}
use Rattle.commands.specs.json.Faults.{lines_of_faults}
use Rattle.commands.proofs.json.faults.lines_of_faults.Given as goal

abbrev pub invariant-loop-fault : goal.invariant-loop-fault
invariant-loop-fault l =
    l.text.items ++ lines_of_faults l.subject (drop l.fault-index l.faults) ≡ lines_of_faults l.subject l.faults
