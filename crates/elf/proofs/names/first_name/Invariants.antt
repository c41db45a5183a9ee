use Rattle.std.proofs.Common.{◌≡◌, ◌++◌, take, drop}
use Rattle.elf.specs.Lookup.{up_to_zero}
use Rattle.elf.proofs.names.first_name.Given as goal

abbrev pub invariant-bytes : goal.invariant-bytes
invariant-bytes l = up_to_zero l.strings ≡ take l.i l.strings ++ up_to_zero (drop l.i l.strings)
