-- What ranges of memory are to a machine: what may be stored to, and what they have for each address.
use Rattle.std.specs.Prelude.{ℕ, ◌+◌, ◌-◌, ◌&&◌, Bool, not, List, [], ◌∷◌, length, Option, None, nat_le, nat_lt}
use Rattle.std.specs.Prelude.{slice_get, if◌then◌else◌}
use Rattle.std.specs.List.{list_any}
use Rattle.std.specs.Option.{option_or}
use Rattle.elf_memory.specs.Below.{ByteMap}
use Rattle.elf_memory.specs.Memory.{RangeState}

-- the range may be stored to. What is executed stays as it is, so a range that may be executed may not be stored to
abbrev pub is_variable : RangeState → Bool
is_variable range = range.access.writable && not range.access.executable

-- the address is one of the range's
abbrev pub has_address : ℕ → RangeState → Bool
has_address a range = nat_le range.address a && nat_lt a (range.address + length range.bytes)

-- the byte at an address may be stored to
abbrev pub may_be_stored_to : List RangeState → ℕ → Bool
may_be_stored_to ranges a = list_any (λ range. is_variable range && has_address a range) ranges

-- the item for an address, of items of which the first is for this one
abbrev pub item_for : ℕ → ℕ → List ℕ → Option ℕ
item_for a begin items = if nat_le begin a then slice_get items (a - begin) else None

-- the item for an address, of the last range that has one: no two ranges have an address in common
abbrev pub item_at : (RangeState → List ℕ) → List RangeState → ByteMap
item_at items [] a = None
item_at items (range ∷ ranges) a = option_or (item_at items ranges a) (item_for a range.address (items range))
