-- A frame that is zeroed before the body, and all the room of a call, zeroed behind it.
use Rattle.std.specs.Prelude.{◌≡◌, ◌≢◌, ℕ, ◌+◌, ◌%◌, ◌^◌, ◌<◌, ◌≤◌, ◌==◌, length, Option, Some, None, if◌then◌else◌}
use Rattle.linked_calls.specs.Below.{MachineCode, constant_code, Div, Event, Load, Mul, Store}
use Rattle.linked_calls.specs.FunctionCode.{zeroed_code, wipe_code}
use Rattle.linked_calls.specs.Sections.{blocks_steps}
use Rattle.linked_calls.specs.Does.{Data, Does, AreThere}
use Rattle.linked_calls.specs.Stretches.{AreData, AreZeroed, LiesIn}

-- stores that lie in a stretch and not below the stack pointer, and no other access
abbrev pub IsStoreIn : ℕ → ℕ → ℕ → Option Event → Type 0
IsStoreIn low high sp None = Unit {0}
IsStoreIn low high sp (Some (Load a size)) = ⊥
IsStoreIn low high sp (Some (Store a size)) = LiesIn low high a size × (sp ≤ a)
IsStoreIn low high sp (Some (Div a b)) = ⊥
IsStoreIn low high sp (Some (Mul a b)) = ⊥

-- so many bytes below x2 are data
pub record HasFrame (bottom room : ℕ) (s : Data) : Type 0 where
  pub stack : s.regs 2 ≡ bottom + room
  pub there : AreData bottom (bottom + room) s.bytes

-- they are zeros, and x2 is where they begin
pub record IsZeroFrame (bottom room : ℕ) (s t : Data) : Type 0 where
  pub stack : t.regs 2 ≡ bottom
  pub zeroed : AreZeroed bottom (bottom + room) s.bytes t.bytes
  pub others : (q : ℕ) → q ≢ 2 → q ≢ 5 → t.regs q ≡ s.regs q

abbrev pub frame_steps : ℕ → ℕ
frame_steps room = if room == 0 then 0 else length (constant_code 5 room) + 1 + blocks_steps room

-- the code that zeroes a frame does so
abbrev pub FrameIsZeroed : Type 0
FrameIsZeroed =
    (code : MachineCode) (start bottom room : ℕ)
    → AreThere code start (zeroed_code room)
    → bottom % 16 ≡ 0
    → room % 16 ≡ 0
    → bottom + room < 2 ^ 32
    → Does code start (zeroed_code room) (frame_steps room)
    (IsStoreIn bottom (bottom + room)) (HasFrame bottom room) (IsZeroFrame bottom room)

-- x2 is where a room of so many bytes begins, and x5 where it ends
pub record HasRoomBounds (bottom room : ℕ) (s : Data) : Type 0 where
  pub stack : s.regs 2 ≡ bottom
  pub top : s.regs 5 ≡ bottom + room
  pub there : AreData bottom (bottom + room) s.bytes

-- it is zeros, and x2 is where it ends
pub record IsWiped (bottom room : ℕ) (s t : Data) : Type 0 where
  pub stack : t.regs 2 ≡ bottom + room
  pub zeroed : AreZeroed bottom (bottom + room) s.bytes t.bytes
  pub others : (q : ℕ) → q ≢ 2 → t.regs q ≡ s.regs q

-- the code that wipes a room does so
abbrev pub RoomIsWiped : Type 0
RoomIsWiped =
    (code : MachineCode) (start bottom room : ℕ)
    → AreThere code start (wipe_code room)
    → bottom % 16 ≡ 0
    → room % 16 ≡ 0
    → bottom + room < 2 ^ 32
    → Does code start (wipe_code room) (blocks_steps room)
    (IsStoreIn bottom (bottom + room)) (HasRoomBounds bottom room) (IsWiped bottom room)
