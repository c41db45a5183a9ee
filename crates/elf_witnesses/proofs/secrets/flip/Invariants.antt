-- The bytes so far are flipped.
use Rattle.std.proofs.Common.{◌≡◌, ◌++◌, drop, take}
use Rattle.elf_witnesses.specs.Drawn.{flipped}
use Rattle.elf_witnesses.proofs.secrets.flip.Given as goal

abbrev pub invariant-bytes : goal.invariant-bytes
invariant-bytes l = l.bytes ≡ flipped (take l.byte-index l.fn.bytes) ++ drop l.byte-index l.fn.bytes
