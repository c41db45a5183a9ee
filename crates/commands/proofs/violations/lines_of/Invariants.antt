-- The lines so far, and those of the faults that are left, are all.
use Rattle.std.proofs.Common.{◌≡◌, ◌++◌, drop}
use Rattle.std.specs.String.{string_bytes}
use Rattle.commands.specs.Violations.{fault_lines}
use Rattle.commands.proofs.violations.lines_of.Given as goal

abbrev pub invariant-loop-fault : goal.invariant-loop-fault
invariant-loop-fault l = string_bytes l.text ++ fault_lines (drop l.fault-index l.faults) ≡ fault_lines l.faults
