-- What the code before the body hands to it, and what the code behind it takes over: the two halves of a call, so
-- that they can be proved apart from each other and from the body.
use Rattle.compilation.specs.Begun.{IsBegun}
use Rattle.compilation.specs.Needs.{Needs}
use Rattle.std.specs.Prelude.{sum}
use Rattle.std.proofs.Common.{◌≡◌, ℕ, suc, ◌+◌, ◌*◌, ◌%◌, ◌^◌, ◌<◌, ◌≤◌, List, [], ◌∷◌, length, map, Some}
use Rattle.std.proofs.Common.{false, None}
use Rattle.linked_calls.proofs.Below.{AreBytes, AreData, argument_offset, arguments_end, arguments_of, array_bytes}
use Rattle.linked_calls.proofs.Below.{body_words, ByteMap, MachineCode, enter_code, enter_sections, Fields, FixedArray, Form}
use Rattle.linked_calls.proofs.Below.{frame_room, goes_on, IsCalled, IsImage, IsLeft}
use Rattle.linked_calls.proofs.Below.{is_written, kept_of}
use Rattle.linked_calls.proofs.Below.{IsOfCall, IsSite, LeadsWithin, leave_sections, moved_to, MutableArray, number_at}
use Rattle.linked_calls.proofs.Below.{Observation, observed, results_in, room_base, saved_registers, section_steps}
use Rattle.linked_calls.proofs.Below.{SingleWord, CallSite, Slot, State, Step}
use Rattle.linked_calls.proofs.Bytes.{IsOutside}
use Rattle.linked_calls.proofs.SameRegisters.{AreSame}
use Rattle.linked_calls.specs.Callable.{return_at}
use Rattle.linked_calls.specs.FunctionCode.{from_body}
use Rattle.linked_calls.specs.Sections.{onward_steps}
use Rattle.linked_calls.specs.declared.pace.Pace.{Pace}

-- where the body begins, and the code behind it
abbrev pub body_at : Fields → Needs → Pace → CallSite → ℕ
body_at image needs pace site = site.entry + 4 * length (enter_code image needs pace (from_body image pace))

abbrev pub leave_at : Fields → Needs → Pace → CallSite → ℕ
leave_at image needs pace site = body_at image needs pace site + 4 * length (body_words image.words)

-- their steps, by where the arguments point

abbrev pub enter_steps : Fields → Needs → Pace → (ℕ → ℕ) → ℕ
enter_steps image needs pace pointers = sum (map (section_steps image pace pointers) (enter_sections image needs pace))

abbrev pub leave_steps : Fields → Pace → (ℕ → ℕ) → ℕ
leave_steps image pace pointers =
    sum (map (section_steps image pace pointers) (leave_sections image pace)) + onward_steps image pace

-- what registers held stands in words from an address on
abbrev pub AreSaved : ByteMap → (ℕ → ℕ) → ℕ → List ℕ → Type 0
AreSaved bytes regs a [] = Unit {0}
AreSaved bytes regs a (r ∷ rs) = (number_at bytes 4 a ≡ Some (regs r)) × AreSaved bytes regs (a + 4) rs

-- two functions agree on each of a list that these words do not write
abbrev pub AreLeft : List ℕ → (ℕ → ℕ) → (ℕ → ℕ) → List ℕ → Type 0
AreLeft words f g [] = Unit {0}
AreLeft words f g (r ∷ rs) = (is_written words r ≡ false → f r ≡ g r) × AreLeft words f g rs

-- ra, gp and tp, which neither the body nor the code around it touches
abbrev pub untouched_registers : List ℕ
untouched_registers = 1 ∷ 3 ∷ 4 ∷ []

-- the caller's registers, above the frame
abbrev pub saved_at : Fields → CallSite → ℕ
saved_at image site = room_base image site + frame_room image

-- an argument's place behind the body lies above the frame, in the room or with the caller
pub record PlaceBehind (image : Fields) (site : CallSite) (offset : ℕ) : Type 0 where
  pub aligned : (room_base image site + offset) % 4 ≡ 0
  pub above : saved_at image site ≤ room_base image site + offset
  pub inside : room_base image site + offset + 4 ≤ arguments_end image site

-- an array's pointer stands at its argument's place, and the array is data
pub record ReadyArray (image : Fields) (site : CallSite) (bytes : ByteMap) (i : ℕ) (slot : Slot) : Type 0 where
  pub place : PlaceBehind image site (argument_offset image i)
  pub pointer : number_at bytes 4 (room_base image site + argument_offset image i) ≡ Some (site.pointers i)
  pub array : AreData (site.pointers i) (site.pointers i + array_bytes slot) bytes

abbrev pub IsReady : Fields → CallSite → ByteMap → ℕ → Slot → Form → Type 0
IsReady image site bytes i slot SingleWord = Unit {0}
IsReady image site bytes i slot FixedArray = Unit {0}
IsReady image site bytes i slot MutableArray = ReadyArray image site bytes i slot

-- those from the i-th argument on
abbrev pub AreReady : Fields → CallSite → ByteMap → ℕ → List Slot → Type 0
AreReady image site bytes i [] = Unit {0}
AreReady image site bytes i (slot ∷ slots) = IsReady image site bytes i slot slot.param.form
    × AreReady image site bytes (i + 1) slots

-- an address before the room of the call or behind it
abbrev pub IsOutsideRoom : Fields → CallSite → ℕ → Type 0
IsOutsideRoom image site x = IsOutside (room_base image site) site.stack x

-- Before the body.

-- from a state in which the function is called to one in which its body begins
pub record IsEntered (image : Fields) (needs : Needs) (pace : Pace) (site : CallSite) (s t : State) : Type 0 where
  pub at_body : t.pc ≡ body_at image needs pace site
  pub begun : IsBegun image needs (room_base image site) (arguments_of image site s) t
  pub untouched : AreSame t.regs s.regs untouched_registers
  pub still : AreSame t.regs s.regs saved_registers
  pub saved : AreSaved t.bytes s.regs (saved_at image site) (kept_of image)
  pub ready : AreReady image site t.bytes 0 image.slots
  pub outside : (x : ℕ) → IsOutsideRoom image site x → t.bytes x ≡ s.bytes x
  pub there : AreData (room_base image site) site.stack t.bytes

pub record EntersFrom (image : Fields) (needs : Needs) (pace : Pace) (code : MachineCode) (site : CallSite)
    (list : List Observation) (s : State) : Type 0 where
  pub end : State
  pub leads : LeadsWithin code (IsOfCall image site) (enter_steps image needs pace site.pointers) s list end
  pub entered : IsEntered image needs pace site s end

pub record Enters (image : Fields) (needs : Needs) (pace : Pace) (code : MachineCode) (site : CallSite) : Type 0 where
  pub shown : List Observation
  pub runs : (s : State) → IsCalled image site s → EntersFrom image needs pace code site shown s

abbrev pub EnteringLeads : Type 0
EnteringLeads = (image : Fields) (needs : Needs) (pace : Pace) (code : MachineCode) (site : CallSite) → IsImage image
    → IsSite image needs pace code site → Enters image needs pace code site

-- Behind the body.

-- the body is done, of a call whose caller had these registers
pub record CanLeave (image : Fields) (needs : Needs) (pace : Pace) (site : CallSite) (regs : ℕ → ℕ) (s : State) : Type 0 where
  pub at_leave : s.pc ≡ leave_at image needs pace site
  pub base : s.regs 2 ≡ room_base image site
  pub stack : regs 2 ≡ site.stack
  pub untouched : AreSame s.regs regs untouched_registers
  pub words : (r : ℕ) → regs r < 2 ^ 32
  pub saved : AreSaved s.bytes regs (saved_at image site) (kept_of image)
  -- the others that the caller may count on are as they were
  pub left : AreLeft (body_words image.words) s.regs regs saved_registers
  pub bytes : AreBytes s.bytes
  pub there : AreData (room_base image site) (arguments_end image site) s.bytes
  pub ready : AreReady image site s.bytes 0 image.slots

pub record LeavesFrom (image : Fields) (needs : Needs) (pace : Pace) (code : MachineCode) (site : CallSite) (list : List Observation) (regs : ℕ
    → ℕ) (s : State) : Type 0 where
  pub step_count : ℕ
  pub counted : suc step_count ≡ leave_steps image pace site.pointers
  pub end : State
  pub leads : LeadsWithin code (IsOfCall image site) step_count s list end
  pub at_last : end.pc ≡ return_at image needs pace site
  pub left : IsLeft image site regs s.bytes (results_in (room_base image site) image s.bytes) end
  pub goes_back : regs 1 % 4 ≡ 0 → Step code end (goes_on (observed end None) (moved_to end (regs 1)))

pub record Leaves (image : Fields) (needs : Needs) (pace : Pace) (code : MachineCode) (site : CallSite) : Type 0 where
  pub shown : List Observation
  pub runs : (regs : ℕ → ℕ) (s : State) → CanLeave image needs pace site regs s → LeavesFrom image needs pace code site shown regs s

abbrev pub LeavesEverywhere : Type 0
LeavesEverywhere = (image : Fields) (needs : Needs) (pace : Pace) (code : MachineCode) (site : CallSite) → IsImage image
    → IsSite image needs pace code site → Leaves image needs pace code site
