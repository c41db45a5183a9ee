-- An image loaded with what is given of its arguments, and what is known of that state: all but the bytes of the
-- arguments that are not given.
use Rattle.std.specs.Prelude.{ℕ, ◌+◌, ◌-◌, ◌*◌, ◌^◌, ◌&&◌, List, [], ◌∷◌, nat_le, nat_lt, Option, Some, None}
use Rattle.std.specs.Prelude.{if◌then◌else◌}
use Rattle.image_reports.specs.Below.{Arg, ByteMap, element_bytes, Fields, FixedArray, Form, initial_registers, Kind}
use Rattle.image_reports.specs.Below.{KnownState, MutableArray, no_masks, Shifts, SingleWord, Slot, with_argument}
use Rattle.image_reports.specs.Below.{zeros}

-- how many bytes from its slot's offset on an argument takes: a word 4, an array its elements
abbrev pub argument_bytes : Form → Kind → ℕ → ℕ
argument_bytes SingleWord kind count = 4
argument_bytes FixedArray kind count = element_bytes kind * count
argument_bytes MutableArray kind count = element_bytes kind * count

-- the bytes with an argument at its slot, where it is given
abbrev pub with_one : ℕ → ByteMap → Slot → Option Arg → ByteMap
with_one frame bytes slot (Some arg) = with_argument frame bytes slot arg
with_one frame bytes slot None = bytes

-- the marks with so many bytes from an address on that are unknown in each bit
abbrev pub with_unknown : ByteMap → ℕ → ℕ → ByteMap
with_unknown marks n a x = if nat_le a x && nat_lt x (a + n) then Some (2 ^ 8 - 1) else marks x

-- the marks with the bytes of an argument that is not given unknown
abbrev pub marks_with_one : ℕ → ByteMap → Slot → Option Arg → ByteMap
marks_with_one frame marks slot (Some arg) = marks
marks_with_one frame marks slot None =
    with_unknown marks (argument_bytes slot.param.form slot.param.kind slot.param.length) (frame + slot.offset)

-- the bytes with each argument that is given at its parameter's slot
abbrev pub with_given : ℕ → ByteMap → List Slot → List (Option Arg) → ByteMap
with_given frame bytes [] given = bytes
with_given frame bytes (slot ∷ slots) [] = bytes
with_given frame bytes (slot ∷ slots) (one ∷ given) = with_given frame (with_one frame bytes slot one) slots given

-- the marks with the bytes of each argument that is not given unknown
abbrev pub marks_with_given : ℕ → ByteMap → List Slot → List (Option Arg) → ByteMap
marks_with_given frame marks [] given = marks
marks_with_given frame marks (slot ∷ slots) [] = marks
marks_with_given frame marks (slot ∷ slots) (one ∷ given) =
    marks_with_given frame (marks_with_one frame marks slot one) slots given

-- loaded as an image is with arguments: all registers are known, and the frame's bytes but those of arguments that
-- are not given, where zeros stand; and amounts of shifts are seen or not
abbrev pub known_at : ℕ → ℕ → Fields → List (Option Arg) → Shifts → KnownState
known_at code_base frame_base image given shifts = record {
  state = record {
    pc = code_base;
    regs = initial_registers frame_base;
    bytes = with_given frame_base (zeros frame_base image.frame_bytes) image.slots given;
  };
  registers = no_masks;
  bytes = marks_with_given frame_base (zeros frame_base image.frame_bytes) image.slots given;
  shifts = shifts;
}
