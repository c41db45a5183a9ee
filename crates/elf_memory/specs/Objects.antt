-- Where the objects of a program lie in its memory.
use Rattle.std.specs.Prelude.{ℕ, ◌+◌, ◌&&◌, Bool, List, Option, None, Some, nat_le, if◌then◌else◌}
use Rattle.std.specs.List.{list_any}
use Rattle.elf_memory.specs.Below.{Executable, LoadedSegment, Object, object_named}

-- each of its bytes is one of the segment's
abbrev pub lies_in : Object → LoadedSegment → Bool
lies_in object segment =
    nat_le segment.address object.address
    && nat_le (object.address + object.size) (segment.address + segment.size)

abbrev pub in_memory : List LoadedSegment → Option Object → Option Object
in_memory segments None = None
in_memory segments (Some object) = if list_any (lies_in object) segments then Some object else None

-- the object of a name, where it lies in a segment
abbrev pub object_of : Executable → List ℕ → Option Object
object_of program name = in_memory program.segments (object_named program name)

abbrev pub size_of : Option Object → ℕ
size_of None = 0
size_of (Some object) = object.size
