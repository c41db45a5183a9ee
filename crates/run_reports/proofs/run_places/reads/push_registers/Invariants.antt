-- The registers so far, and those that are left, are all.
use Rattle.std.proofs.Common.{◌≡◌, ◌++◌, drop}
use Rattle.run_reports.specs.Below.{regs_of}
use Rattle.run_reports.specs.run_places.Reads.{registers_text}
use Rattle.run_reports.proofs.run_places.reads.push_registers.Given as goal

abbrev pub invariant-loop-register : goal.invariant-loop-register
invariant-loop-register l =
    l.text.items ++ registers_text (regs_of l.hart) (drop l.register-index l.registers) ≡ l.fn.text.items
    ++ registers_text (regs_of l.hart) l.registers
