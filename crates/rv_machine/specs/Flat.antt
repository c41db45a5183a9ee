-- The bytes of one stretch of addresses.
use Rattle.std.specs.Prelude.{ℕ, ◌+◌, ◌-◌, List, Some, None, nat_le, nat_lt, ◌&&◌, if◌then◌else◌, slice_index_or}
use Rattle.rv_machine.specs.Bytes.{ByteMap, bytes_from}
use Rattle.rv_machine.specs.declared.flat.FlatMemory.{FlatMemory}

abbrev pub flat_bytes : FlatMemory → ByteMap
flat_bytes memory = bytes_from memory.base memory.bytes.items

-- so many bytes from an address on, and no other data: these, and then zeros
abbrev pub loaded_bytes : ℕ → ℕ → List ℕ → ByteMap
loaded_bytes address size bytes a =
    if nat_le address a && nat_lt a (address + size) then Some (slice_index_or bytes (a - address) 0) else None
