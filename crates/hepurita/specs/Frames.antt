-- Where the data of a frame is, and what space there is for its arrays.
use Rattle.std.specs.Prelude.{◌≡◌, ℕ, ◌+◌, ◌*◌, ◌^◌, ◌<◌, ◌≤◌, true, is_some, List, [], length, map, All}
use Rattle.std.specs.Prelude.{vec_capacity}
use Rattle.hepurita.specs.Below.{arrays_in, ByteMap, element_bytes, Fields, numbers_at, Slot, slot_end}
use Rattle.hepurita.specs.declared.results.ArraySpace.{ArraySpace}
use Rattle.hepurita.specs.declared.results.ResultSpace.{ResultSpace}

-- each byte of the slot is data, in the frame that begins at an address
pub record HoldsSlot (frame : ℕ) (bytes : ByteMap) (slot : Slot) : Type 0 where
  pub below : frame + slot_end slot < 2 ^ 32
  pub data_there : (x : ℕ) → frame + slot.offset ≤ x → x < frame + slot_end slot → is_some (bytes x) ≡ true

-- the elements in a slot
abbrev pub elements_in : ℕ → ByteMap → Slot → List ℕ
elements_in frame bytes slot =
    numbers_at bytes (element_bytes slot.param.kind) (frame + slot.offset) slot.param.length

-- an empty list, with space for the elements of an array that lies in a frame of so many bytes
pub record HasSpace (frame_bytes : ℕ) (one : ArraySpace) : Type 0 where
  pub inside : one.slot.offset + element_bytes one.slot.param.kind * one.slot.param.length ≤ frame_bytes
  pub empty : one.words.items ≡ []
  pub enough : one.slot.param.length ≤ vec_capacity one.words

-- space for each array that an image's run may change, in the order of their slots
pub record IsSpaceFor (image : Fields) (space : ResultSpace) : Type 0 where
  pub each : All (HasSpace image.frame_bytes) space.each.items
  pub in_order : (frame : ℕ) (bytes : ByteMap)
      → map (λ one. elements_in frame bytes one.slot) space.each.items ≡ arrays_in frame bytes image.slots
  pub empty : space.arrays.items ≡ []
  pub enough : length space.each.items ≤ vec_capacity space.arrays
