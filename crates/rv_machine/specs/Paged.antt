-- The bytes of ranges of addresses, and of pages.
use Rattle.std.specs.Prelude.{ℕ, List, [], ◌∷◌, Option, Some, None, Bool, nat_le, nat_lt, ◌&&◌, if◌then◌else◌}
use Rattle.std.specs.List.{list_any}
use Rattle.rv_machine.specs.Bytes.{ByteMap}
use Rattle.rv_machine.specs.Flat.{flat_bytes}
use Rattle.rv_machine.specs.declared.flat.FlatMemory.{FlatMemory}
use Rattle.rv_machine.specs.declared.paged.AddressRange.{AddressRange}
use Rattle.rv_machine.specs.declared.paged.PagedMemory.{PagedMemory}

abbrev pub lies_in : ℕ → AddressRange → Bool
lies_in a range = nat_le range.begin a && nat_lt a range.end

-- zero at each address that lies in one of the ranges, and no other data
abbrev pub zeros_in : List AddressRange → ByteMap
zeros_in ranges a = if list_any (lies_in a) ranges then Some 0 else None

abbrev pub first_of : Option ℕ → Option ℕ → Option ℕ
first_of (Some byte) other = Some byte
first_of None other = other

-- the byte at an address, of the first page that has it
abbrev pub bytes_in : List FlatMemory → ByteMap
bytes_in [] a = None
bytes_in (page ∷ pages) a = first_of (flat_bytes page a) (bytes_in pages a)

abbrev pub paged_bytes : PagedMemory → ByteMap
paged_bytes memory = bytes_in memory.pages.items
