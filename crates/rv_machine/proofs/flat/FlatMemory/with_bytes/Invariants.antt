use Rattle.std.proofs.Common.{◌≡◌, take}
use Rattle.rv_machine.specs.Flat.{flat_bytes, loaded_bytes}
use Rattle.rv_machine.proofs.flat.FlatMemory.with_bytes.Given as goal

-- the bytes so far are there
abbrev pub invariant-loop-k : goal.invariant-loop-k
invariant-loop-k l = flat_bytes l.memory ≡ loaded_bytes l.fn.base l.fn.size (take l.k l.bytes)
