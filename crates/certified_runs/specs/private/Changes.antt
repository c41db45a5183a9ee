-- What the change of an instruction in what is known goes by.
use Rattle.std.specs.Prelude.{◌≡◌, ℕ, true, is_some}
use Rattle.certified_runs.specs.Below.{address_of, byte_count, ByteMap, Instr, number_at, Store, store_size}

-- the bytes that an instruction stores with these registers, if it stores, are data
abbrev pub StoresData : ByteMap → Instr → (ℕ → ℕ) → Type 0
StoresData bytes (Store operation rs2 rs1 offset) regs =
    is_some (number_at bytes (byte_count (store_size operation)) (address_of regs rs1 offset)) ≡ true
StoresData bytes _ regs = Unit {0}
