-- Bytes of the frame that an expression joins to a word. Elements of arrays at indices that are known are such bytes, a
-- shift by whole bytes moves them up in the word, and an OR joins those that follow each other.
use Rattle.std.specs.Prelude.{ℕ, ◌+◌, ◌/◌, ◌%◌, ◌==◌, ◌&&◌, Bool, List, nat_lt, Option, None, Some, if◌then◌else◌}
use Rattle.expression_code.specs.declared.frame_bytes.FrameBytes.{FrameBytes}
use Rattle.expression_code.specs.Allocation.{Allocation}
use Rattle.expression_code.specs.NearElements.{kind_at, near_element}
use Rattle.expression_code.specs.NumberRows.{number_of}
use Rattle.expression_code.specs.Below.{binary, BinaryOperator, convert, element, element_bytes, FlatVariable, Kind}
use Rattle.expression_code.specs.Below.{TermTree}
use Rattle.expression_code.specs.Below.{Uint32, W32, Width}
use Rattle.language.specs.declared.operators.BinaryOperator.TheVariants as operators

-- an element at an offset that is near: its bytes, from the word's lowest one
abbrev pub element_at : Kind → Option ℕ → Option FrameBytes
element_at kind None = None
element_at kind (Some offset) = Some (record { offset = offset; count = element_bytes kind; place = 0 })

-- bytes moved up by so many bits, where these are whole bytes and leave them all in the word
abbrev pub moved_up : FrameBytes → Option ℕ → Option FrameBytes
moved_up bytes None = None
moved_up bytes (Some amount) =
    let place = bytes.place + amount / 8 in
    if amount % 8 == 0 && nat_lt (place + bytes.count) 5
    then Some (record { offset = bytes.offset; count = bytes.count; place = place }) else None

-- whether bytes follow lower ones both in the frame and in the word
abbrev pub follow : FrameBytes → FrameBytes → Bool
follow low high = low.offset + low.count == high.offset
    && (low.place + low.count == high.place && nat_lt (high.place + high.count) 5)

-- those and these
abbrev pub with_next : FrameBytes → FrameBytes → FrameBytes
with_next low high = record { offset = low.offset; count = low.count + high.count; place = low.place }

-- bytes of which either follow the others
abbrev pub joined_bytes : FrameBytes → Option FrameBytes → Option FrameBytes
joined_bytes left None = None
joined_bytes left (Some right) =
    if follow left right then Some (with_next left right) else
    if follow right left then Some (with_next right left) else None

-- the bytes that an operator makes of those of its left operand, of the right one's or the number that this is
abbrev pub operated_bytes : Option FrameBytes → BinaryOperator → Width → Option FrameBytes → Option ℕ
    → Option FrameBytes
operated_bytes None operator width right amount = None
operated_bytes (Some left) operators.BitOr width right amount = joined_bytes left right
operated_bytes (Some left) operators.ShiftLeft W32 right amount = moved_up left amount
operated_bytes (Some left) operator width right amount = None

-- the bytes that an expression is
abbrev pub frame_bytes : List FlatVariable → Allocation → TermTree → Option FrameBytes
frame_bytes declared allocation (element source x size index) =
    element_at (kind_at declared x) (near_element declared allocation x index)
frame_bytes declared allocation (convert Uint32 e) = frame_bytes declared allocation e
frame_bytes declared allocation (binary source operator width left right) =
    operated_bytes (frame_bytes declared allocation left) operator width (frame_bytes declared allocation right)
    (number_of right)
frame_bytes declared allocation e = None

-- the offset of four bytes, which are a word there, where it is a multiple of 4
abbrev pub whole_word : Option FrameBytes → Option ℕ
whole_word None = None
whole_word (Some bytes) = if bytes.count == 4 && bytes.offset % 4 == 0 then Some bytes.offset else None

-- the offset of the word that an operator makes of its operands
abbrev pub joined_word : List FlatVariable → Allocation → BinaryOperator → Width → TermTree → TermTree → Option ℕ
joined_word declared allocation operator width left right =
    whole_word (operated_bytes (frame_bytes declared allocation left) operator width
    (frame_bytes declared allocation right) (number_of right))
