-- What the memory holds when a run begins: ranges of addresses, each with its bytes, and for each byte which of its
-- bits are not known.
use Rattle.std.specs.Prelude.{ℕ, ◌+◌, ◌-◌, ◌*◌, ◌&&◌, Bool, true, false, List, [], ◌∷◌, ◌++◌, length, map, replicate}
use Rattle.std.specs.Prelude.{take, drop, Option, None, Some, nat_le, if◌then◌else◌}
use Rattle.std.specs.Int.{to_le_bytes, w32}
use Rattle.std.specs.List.{fold, flat_map}
use Rattle.elf_memory.specs.Below.{Access, Executable, LoadedSegment, Object}
use Rattle.elf_memory.specs.Arguments.{pushed, rounded, stack_begin, words_of}
use Rattle.elf_memory.specs.Objects.{object_of}
use Rattle.elf_memory.specs.declared.asked.Asked.{Asked}
use Rattle.elf_memory.specs.declared.asked.Secret.{Secret}
use Rattle.elf_memory.specs.declared.asked.Setting.{Setting}
use Rattle.elf_memory.specs.declared.memory_range.MemoryRange.{MemoryRange}
use Rattle.elf_memory.specs.declared.words.Word.{Word}

-- a range of memory: its first address, its bytes, a mask for each that has the bits that are not known, and what may
-- be done with it
pub record RangeState : Type 0 where
  pub address : ℕ
  pub bytes : List ℕ
  pub unknown : List ℕ
  pub access : Access

-- a range as the code has it
abbrev pub range_of : MemoryRange → RangeState
range_of range =
    record {
      address = range.address;
      bytes = range.bytes.items;
      unknown = range.unknown.items;
      access = range.access;
    }

-- the items, with a part of them from a place on replaced
abbrev pub with_part : ℕ → List ℕ → List ℕ → List ℕ
with_part place part items = take place items ++ part ++ drop (place + length part) items

-- each byte of the object is one of so many from an address on
abbrev pub is_within : ℕ → ℕ → Object → Bool
is_within address size object =
    nat_le address object.address && nat_le (object.address + object.size) (address + size)

-- the items from an address on, with a part at an object's address if it is one of theirs
abbrev pub with_object : ℕ → Object → List ℕ → List ℕ → List ℕ
with_object address object part items =
    if is_within address (length items) object then with_part (object.address - address) part items else items

-- a range in which an object begins with these bytes
abbrev pub with_bytes : Object → List ℕ → RangeState → RangeState
with_bytes object bytes range =
    record {
      address = range.address;
      bytes = with_object range.address object bytes range.bytes;
      unknown = range.unknown;
      access = range.access;
    }

-- a range in which no bit of an object is known
abbrev pub with_secret : Object → RangeState → RangeState
with_secret object range =
    record {
      address = range.address;
      bytes = range.bytes;
      unknown = with_object range.address object (replicate object.size 255) range.unknown;
      access = range.access;
    }

abbrev pub set_object : List RangeState → List ℕ → Option Object → List RangeState
set_object ranges bytes None = ranges
set_object ranges bytes (Some object) = map (with_bytes object bytes) ranges

abbrev pub hide_object : List RangeState → Option Object → List RangeState
hide_object ranges None = ranges
hide_object ranges (Some object) = map (with_secret object) ranges

-- with what is set, and with what is secret
abbrev pub set_in : Executable → List RangeState → Setting → List RangeState
set_in program ranges setting = set_object ranges setting.bytes.items (object_of program setting.object.items)

abbrev pub hide_in : Executable → List RangeState → Secret → List RangeState
hide_in program ranges secret = hide_object ranges (object_of program secret.object.items)

-- a segment: what the file has of it, and zeros behind that. A file that is read has no more of it than its size
abbrev pub loaded : LoadedSegment → RangeState
loaded segment =
    record {
      address = segment.address;
      bytes = take segment.size segment.bytes ++ replicate (segment.size - length segment.bytes) 0;
      unknown = replicate segment.size 0;
      access = segment.access;
    }

-- the bytes of words on a stack of this size. Below and behind them it has the same byte throughout
abbrev pub on_stack : ℕ → ℕ → List ℕ → List ℕ
on_stack size byte words =
    let room = rounded (4 * length words) in
    replicate (size - room) byte
    ++ flat_map (to_le_bytes w32) words
    ++ replicate (room - 4 * length words) byte

-- the stack: nothing of it is known but the arguments there
abbrev pub stack_range : ℕ → List Word → RangeState
stack_range size words =
    record {
      address = stack_begin size;
      bytes = on_stack size 0 (map (λ word. word.value) words);
      unknown = on_stack size 255 (map (λ word. word.unknown) words);
      access = record { readable = true; writable = true; executable = false };
    }

-- the segments in the order of the file, with what is secret and what is set, and the stack
abbrev pub memory_at_start : Executable → Asked → List RangeState
memory_at_start program asked =
    fold (set_in program) (fold (hide_in program) (map loaded program.segments) asked.secrets.items)
    asked.settings.items
    ++ stack_range asked.stack (pushed (words_of program asked.arguments.items)) ∷ []
