-- An argument that is a word, of which what it means is put into its slot before the body, and the result behind it.
use Rattle.std.specs.Prelude.{◌≡◌, ◌≢◌, ℕ, ◌+◌, ◌%◌, ◌^◌, ◌<◌, ◌≤◌, length, Option, Some, None, is_some, true}
use Rattle.linked_calls.specs.Below.{MachineCode, Event, Fields, ResultSlot, Slot, with_argument, word_in}
use Rattle.linked_calls.specs.Convention.{result_register}
use Rattle.linked_calls.specs.FunctionCode.{argument_register, result_code, stacked_offset, word_code}
use Rattle.language.specs.declared.values.Arg.TheVariants.{Word}
use Rattle.linked_calls.specs.Does.{Data, Does, AreThere}
use Rattle.linked_calls.specs.Meant.{meant}
use Rattle.linked_calls.specs.Passing.{passed_in, raw_in}
use Rattle.linked_calls.specs.Stretches.{AreData}
use Rattle.rv_machine.specs.declared.memory.Size.TheVariants as sizes
use Rattle.rv_machine.specs.declared.observation.Event.TheVariants as event

-- the place of the raw argument on the stack and the slot are words at multiples of 4, below 2^32
pub record CanBePut (image : Fields) (slot : Slot) (frame i : ℕ) : Type 0 where
  pub frame_aligned : frame % 4 ≡ 0
  pub slot_aligned : (frame + slot.offset) % 4 ≡ 0
  pub place_ends : frame + stacked_offset image i < 2 ^ 32
  pub slot_ends : frame + slot.offset < 2 ^ 32

-- the frame's base is in x2, the raw argument is there, and the slot is data
pub record HasWordArgument (image : Fields) (slot : Slot) (frame i : ℕ) (s : Data) : Type 0 where
  pub stack : s.regs 2 ≡ frame
  pub passed : is_some (passed_in image frame i s) ≡ true
  pub slot_there : AreData (frame + slot.offset) (frame + slot.offset + 4) s.bytes

-- what the raw argument means
abbrev pub meant_in : Fields → Slot → ℕ → ℕ → Data → ℕ
meant_in image slot frame i s = meant slot.param.kind (raw_in image frame i s)

-- the slot holds it
pub record IsArgumentPut (image : Fields) (slot : Slot) (frame i : ℕ) (s t : Data) : Type 0 where
  pub bytes : t.bytes ≡ with_argument frame s.bytes slot (Word (meant_in image slot frame i s))
  pub others : (q : ℕ) → q ≢ argument_register i → q ≢ 28 → t.regs q ≡ s.regs q

-- one load of a word, one store of a word, neither below the stack pointer, and no other access
abbrev pub IsPutting : ℕ → ℕ → ℕ → Option Event → Type 0
IsPutting place target sp None = Unit {0}
IsPutting place target sp (Some (event.Load a size)) = (a ≡ place) × (size ≡ sizes.Word) × (sp ≤ a)
IsPutting place target sp (Some (event.Store a size)) = (a ≡ target) × (size ≡ sizes.Word) × (sp ≤ a)
IsPutting place target sp (Some (event.Div a b)) = ⊥
IsPutting place target sp (Some (event.Mul a b)) = ⊥

-- the code that takes a word does so, and shows nothing of it
abbrev pub WordIsTaken : Type 0
WordIsTaken =
    (code : MachineCode) (start : ℕ) (image : Fields) (slot : Slot) (frame i : ℕ)
    → AreThere code start (word_code image i slot)
    → CanBePut image slot frame i
    → Does code start (word_code image i slot) (length (word_code image i slot))
    (IsPutting (frame + stacked_offset image i) (frame + slot.offset)) (HasWordArgument image slot frame i)
    (IsArgumentPut image slot frame i)

-- The result, which a call hands back in a0.

-- the frame's base is in x2, and the result's slot is data
pub record HasResultSlot (slot : ResultSlot) (frame : ℕ) (s : Data) : Type 0 where
  pub stack : s.regs 2 ≡ frame
  pub slot_there : AreData (frame + slot.offset) (frame + slot.offset + 4) s.bytes

-- a0 is what the slot holds, and nothing else has changed
pub record IsReturned (slot : ResultSlot) (frame : ℕ) (s t : Data) : Type 0 where
  pub result : t.regs result_register ≡ word_in frame s.bytes slot.offset
  pub others : (q : ℕ) → q ≢ result_register → t.regs q ≡ s.regs q
  pub bytes : t.bytes ≡ s.bytes

-- one load of a word, not below the stack pointer, and no other access
abbrev pub IsLoadOf : ℕ → ℕ → Option Event → Type 0
IsLoadOf place sp None = Unit {0}
IsLoadOf place sp (Some (event.Load a size)) = (a ≡ place) × (size ≡ sizes.Word) × (sp ≤ a)
IsLoadOf place sp (Some (event.Store a size)) = ⊥
IsLoadOf place sp (Some (event.Div a b)) = ⊥
IsLoadOf place sp (Some (event.Mul a b)) = ⊥

-- the code that hands a result back does so, and shows nothing of it
abbrev pub ResultIsHandedBack : Type 0
ResultIsHandedBack =
    (code : MachineCode) (start : ℕ) (slot : ResultSlot) (frame : ℕ)
    → AreThere code start (result_code (Some slot))
    → (frame + slot.offset) % 4 ≡ 0
    → frame + slot.offset < 2 ^ 32
    → Does code start (result_code (Some slot)) (length (result_code (Some slot)))
    (IsLoadOf (frame + slot.offset)) (HasResultSlot slot frame) (IsReturned slot frame)
