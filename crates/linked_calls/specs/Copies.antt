-- An argument that points to an array: the array is copied into its slot before the body, and back behind it where it
-- may be changed.
use Rattle.std.specs.Prelude.{◌≡◌, ◌≢◌, ◌⊎◌, ℕ, ◌+◌, ◌*◌, ◌%◌, ◌^◌, ◌<◌, ◌≤◌, List, length, map, Option, Some}
use Rattle.std.specs.Prelude.{None}
use Rattle.linked_calls.specs.Below.{Array, ByteMap, MachineCode, Div, element_bytes, Event, Fields, FixedArray, Load}
use Rattle.linked_calls.specs.Below.{Kind, Mul, MutableArray, number_at, numbers_at, Slot, Store, with_argument}
use Rattle.linked_calls.specs.Below.{with_numbers}
use Rattle.linked_calls.specs.FunctionCode.{argument_offset, array_bytes, argument_code, called_code, copied_code}
use Rattle.linked_calls.specs.FunctionCode.{copied_in_code, copied_out_code, copier_code, copier_of, copies_code}
use Rattle.linked_calls.specs.FunctionCode.{copy_out_code, stacked_offset}
use Rattle.linked_calls.specs.Paces.{times}
use Rattle.linked_calls.specs.Sections.{copier_steps, handed_steps, taken_steps}
use Rattle.linked_calls.specs.Does.{Data, Does, AreThere}
use Rattle.linked_calls.specs.Meant.{meant}
use Rattle.linked_calls.specs.Passing.{passed_in}
use Rattle.linked_calls.specs.Stretches.{AreBytes, AreData, LiesIn}
use Rattle.linked_calls.specs.declared.pace.Pace.{Pace}
use Rattle.linked_calls.specs.declared.round.Round.{Round}

-- where the frame of a call lies, which argument it is, and where the argument points
pub record Pointed : Type 0 where
  pub frame : ℕ
  pub index : ℕ
  pub pointer : ℕ

-- where the pointer may stand: with the caller before the body, and behind it in the room as well
abbrev pub place_before : Fields → Pointed → ℕ
place_before image spot = spot.frame + stacked_offset image spot.index

abbrev pub place_behind : Fields → Pointed → ℕ
place_behind image spot = spot.frame + argument_offset image spot.index

-- where the slot lies
abbrev pub slot_of : Slot → Pointed → ℕ
slot_of slot spot = spot.frame + slot.offset

-- two stretches of so many bytes do not meet
abbrev pub AreApart : ℕ → ℕ → ℕ → Type 0
AreApart n one other = (one + n ≤ other) ⊎ (other + n ≤ one)

-- an array and its slot lie so that the one can be copied to the other, and so does a word for the pointer
pub record CanBeCopied (slot : Slot) (spot : Pointed) (place : ℕ) : Type 0 where
  pub some : 0 < slot.param.length
  pub frame_aligned : spot.frame % 4 ≡ 0
  pub array_aligned : spot.pointer % element_bytes slot.param.kind ≡ 0
  pub slot_aligned : slot_of slot spot % 4 ≡ 0
  pub place_aligned : place % 4 ≡ 0
  pub place_ends : place < 2 ^ 32
  pub array_ends : spot.pointer + array_bytes slot ≤ 2 ^ 32
  pub slot_ends : slot_of slot spot + array_bytes slot < 2 ^ 32
  pub apart : AreApart (array_bytes slot) spot.pointer (slot_of slot spot)

-- the frame's base is in x2, an argument is the pointer, array and slot are data, and data is bytes
pub record HasArray (slot : Slot) (spot : Pointed) (argument : Data → Option ℕ) (s : Data) : Type 0 where
  pub stack : s.regs 2 ≡ spot.frame
  pub points : argument s ≡ Some spot.pointer
  pub array_there : AreData spot.pointer (spot.pointer + array_bytes slot) s.bytes
  pub slot_there : AreData (slot_of slot spot) (slot_of slot spot + array_bytes slot) s.bytes
  pub bytes : AreBytes s.bytes

-- the elements from an address on, as many as the slot's array has
abbrev pub elements_at : Slot → ByteMap → ℕ → List ℕ
elements_at slot bytes a = numbers_at bytes (element_bytes slot.param.kind) a slot.param.length

-- no register has changed but those that the copying code writes
abbrev pub OthersAsBefore : Data → Data → Type 0
OthersAsBefore s t = (q : ℕ) → q ≢ 5 → q ≢ 6 → q ≢ 7 → q ≢ 28 → q ≢ 30 → t.regs q ≡ s.regs q

-- where a function has a copier, it stands so many instructions behind an address, which a jump reaches
abbrev pub CopierStands : MachineCode → ℕ → ℕ → Option Round → Type 0
CopierStands code end behind None = Unit {0}
CopierStands code end behind (Some round) = (behind < 2 ^ 17) × AreThere code (end + 4 * behind) (copier_code round)

-- where the stack pointer is the frame's base: loads of the raw argument and of one stretch of so many bytes, stores to
-- another, and no other access
abbrev pub IsCopying : ℕ → ℕ → ℕ → ℕ → ℕ → ℕ → Option Event → Type 0
IsCopying frame place n from to sp None = Unit {0}
IsCopying frame place n from to sp (Some (Load a size)) = ((a ≡ place) ⊎ LiesIn from (from + n) a size) × (sp ≡ frame)
IsCopying frame place n from to sp (Some (Store a size)) = LiesIn to (to + n) a size × (sp ≡ frame)
IsCopying frame place n from to sp (Some (Div a b)) = ⊥
IsCopying frame place n from to sp (Some (Mul a b)) = ⊥

-- the slot holds the elements of the array, each as it is meant
pub record IsArrayTaken (slot : Slot) (spot : Pointed) (s t : Data) : Type 0 where
  pub bytes : t.bytes ≡ with_argument spot.frame s.bytes slot
      (Array (map (meant slot.param.kind) (elements_at slot s.bytes spot.pointer)))
  pub others : OthersAsBefore s t

-- the code that takes an array does so, whether it may be changed or not
abbrev pub ArrayIsTaken : Type 0
ArrayIsTaken =
    (code : MachineCode) (start behind : ℕ) (image : Fields) (pace : Pace) (slot : Slot) (spot : Pointed)
    → AreThere code start (argument_code image pace behind spot.index slot FixedArray)
    → CopierStands code (start + 4 * length (argument_code image pace behind spot.index slot FixedArray)) behind
    (copier_of image pace)
    → CanBeCopied slot spot (place_before image spot)
    → Does code start (argument_code image pace behind spot.index slot FixedArray)
    (taken_steps image pace spot.index slot spot.pointer)
    (IsCopying spot.frame (place_before image spot) (array_bytes slot) spot.pointer (slot_of slot spot))
    (HasArray slot spot (passed_in image spot.frame spot.index)) (IsArrayTaken slot spot)

-- the array holds what the slot holds
pub record IsHandedBack (slot : Slot) (spot : Pointed) (s t : Data) : Type 0 where
  pub bytes : t.bytes ≡ with_numbers s.bytes (element_bytes slot.param.kind) spot.pointer
      (elements_at slot s.bytes (slot_of slot spot))
  pub others : OthersAsBefore s t

-- the code that hands an array back does so
abbrev pub ArrayIsHandedBack : Type 0
ArrayIsHandedBack =
    (code : MachineCode) (start behind : ℕ) (image : Fields) (pace : Pace) (slot : Slot) (spot : Pointed)
    → AreThere code start (copy_out_code image pace behind spot.index slot MutableArray)
    → CopierStands code (start + 4 * length (copy_out_code image pace behind spot.index slot MutableArray)) behind
    (copier_of image pace)
    → CanBeCopied slot spot (place_behind image spot)
    → Does code start (copy_out_code image pace behind spot.index slot MutableArray)
    (handed_steps image pace spot.index slot spot.pointer)
    (IsCopying spot.frame (place_behind image spot) (array_bytes slot) (slot_of slot spot) spot.pointer)
    (HasArray slot spot (λ s. number_at s.bytes 4 (place_behind image spot))) (IsHandedBack slot spot)

-- The copier.

-- so many rounds of it, with x2, where the bytes are and where they go; one of both places is a pointer, and the other
-- a multiple of 4
pub record Moving : Type 0 where
  pub frame : ℕ
  pub from : ℕ
  pub to : ℕ
  pub rounds : ℕ
  pub pointer : ℕ

abbrev pub bytes_moved : Round → Moving → ℕ
bytes_moved round moving = 4 * (times round * moving.rounds)

-- they lie so that they can be copied
pub record CanBeMoved (round : Round) (moving : Moving) : Type 0 where
  pub some : 0 < moving.rounds
  pub from_ends : moving.from + bytes_moved round moving ≤ 2 ^ 32
  pub to_ends : moving.to + bytes_moved round moving ≤ 2 ^ 32
  pub few : bytes_moved round moving < 2 ^ 32
  pub apart : AreApart (bytes_moved round moving) moving.from moving.to
  pub aligned : ((moving.from ≡ moving.pointer) × (moving.to % 4 ≡ 0))
      ⊎ ((moving.to ≡ moving.pointer) × (moving.from % 4 ≡ 0))

-- x5 and x6 are there, x7 is where x5 ends, all of it is data, and data is bytes
pub record HasMoving (round : Round) (moving : Moving) (s : Data) : Type 0 where
  pub stack : s.regs 2 ≡ moving.frame
  pub from : s.regs 5 ≡ moving.from % 2 ^ 32
  pub to : s.regs 6 ≡ moving.to % 2 ^ 32
  pub end : s.regs 7 ≡ (moving.from + bytes_moved round moving) % 2 ^ 32
  pub from_there : AreData moving.from (moving.from + bytes_moved round moving) s.bytes
  pub to_there : AreData moving.to (moving.to + bytes_moved round moving) s.bytes
  pub bytes : AreBytes s.bytes

-- the bytes are copied, and x5 and x6 are behind them
pub record IsMoved (round : Round) (moving : Moving) (s t : Data) : Type 0 where
  pub bytes : t.bytes ≡ with_numbers s.bytes 1 moving.to (numbers_at s.bytes 1 moving.from (bytes_moved round moving))
  pub from : t.regs 5 ≡ (moving.from + bytes_moved round moving) % 2 ^ 32
  pub to : t.regs 6 ≡ (moving.to + bytes_moved round moving) % 2 ^ 32
  pub others : (q : ℕ) → q ≢ 5 → q ≢ 6 → q ≢ 28 → t.regs q ≡ s.regs q

-- the copier does so, up to its jump back
abbrev pub CopierCopies : Type 0
CopierCopies =
    (code : MachineCode) (start : ℕ) (round : Round) (moving : Moving)
    → AreThere code start (copies_code round)
    → CanBeMoved round moving
    → Does code start (copies_code round) (copier_steps round moving.rounds moving.pointer)
    (IsCopying moving.frame moving.from (bytes_moved round moving) moving.from moving.to) (HasMoving round moving)
    (IsMoved round moving)

-- The code that copies elements, by a loop of its own or by a call, for so many of them.
pub record AreShort (pace : Pace) (round : Round) (behind : ℕ) (kind : Kind) (count : ℕ) : Type 0 where
  pub taken : length (copied_code pace (copied_in_code kind) kind count) ≤ 64
  pub handed : length (copied_code pace (copied_out_code kind) kind count) ≤ 64
  pub called : length (called_code round behind kind count) ≤ 64

abbrev pub CopiesAreShort : Type 0
CopiesAreShort =
    (pace : Pace) (round : Round) (behind : ℕ) (kind : Kind) (count : ℕ) → AreShort pace round behind kind count
