-- Arguments that are as the caller passed them, while the room of the call is written: before the body those that are not
-- taken yet, and behind it those that point to arrays which may be changed.
use Rattle.std.specs.Prelude.{◌⊎◌, is_some}
use Rattle.std.proofs.Common.{◌≡◌, ℕ, ◌+◌, ◌<◌, ◌≤◌, List, [], ◌∷◌, length, Some, inl, inr, ap, ◌∙◌, arith}
use Rattle.std.proofs.Math.Nat.{le-max_left, le-max_right}
use Rattle.linked_calls.proofs.Below.{argument_offset, array_bytes, ByteMap, Data, Fields, Form, IsReadable}
use Rattle.linked_calls.proofs.Below.{LiesWell, LieWell, MutableArray, needed_for, needed_from, needed_of, number_at}
use Rattle.linked_calls.proofs.Below.{number_at_same, passed_in, raw_argument, room_base, CallSite, Slot}
use Rattle.linked_calls.proofs.Below.{State}
use Rattle.linked_calls.specs.Calls.{IsPassed, ArePassed}
use Rattle.linked_calls.proofs.Between.{AreReady, IsOutsideRoom, IsReady, saved_at}
use Rattle.linked_calls.proofs.Rooms.{RoomNumbers, needed_own, outside_frame, place_is}
use Rattle.linked_calls.proofs.Bytes.{IsOutside}

-- an array lies outside the room
pub array_outside : (image : Fields) (site : CallSite) (i : ℕ) (slot : Slot) → IsReadable image site i slot
    → (x : ℕ) → site.pointers i ≤ x → x < site.pointers i + array_bytes slot → IsOutsideRoom image site x
array_outside image site i slot readable x from to = by readable.beside_room
  where
    by : (site.pointers i + array_bytes slot ≤ room_base image site) ⊎ (site.stack ≤ site.pointers i)
        → IsOutsideRoom image site x
    by (inl low) = inl (omega arith)
    by (inr high) = inr (omega arith)

-- arguments from the i-th on are as they were at a call, and so is what lies outside the room
pub record Passes (image : Fields) (site : CallSite) (s : State) (i : ℕ) (d : Data) : Type 0 where
  pub raw : (j : ℕ) → i ≤ j → j < length image.slots
      → passed_in image (room_base image site) j d ≡ Some (raw_argument site s j)
  pub outside : (x : ℕ) → IsOutsideRoom image site x → d.bytes x ≡ s.bytes x

-- each argument that is needed behind the body stands at its place, and nothing changed outside the room
pub record StandAsPassed (image : Fields) (site : CallSite) (s : State) (bytes : ByteMap) : Type 0 where
  pub raw : (i : ℕ) → (i < 8 → i < length (needed_of image)) → i < length image.slots
      → number_at bytes 4 (room_base image site + argument_offset image i) ≡ Some (raw_argument site s i)
  pub outside : (x : ℕ) → IsOutsideRoom image site x → bytes x ≡ s.bytes x

module _ (image : Fields) (site : CallSite) (numbers : RoomNumbers image site) (s : State) where
  -- also after the frame is written
  pub still_passed : (old new : ByteMap)
      → ((x : ℕ) → IsOutside (room_base image site) (saved_at image site) x → new x ≡ old x)
      → StandAsPassed image site s old → StandAsPassed image site s new
  still_passed old new same passed = record {
    raw = λ i stored few.
        let place = place_is image site numbers i stored few in
        number_at_same old new 4 (room_base image site + argument_offset image i)
        (λ x low high. same x (inr (omega (arith, place.above))))
        ∙ passed.raw i stored few;
    outside = λ x outside. same x (outside_frame image site numbers x outside) ∙ passed.outside x outside;
  }

  -- the arrays that may be changed are ready
  module _ (bytes : ByteMap) (passed : StandAsPassed image site s bytes) where
    ready : (i : ℕ) (slot : Slot) (form : Form) → needed_for i form ≤ length (needed_of image)
        → i < length image.slots → LiesWell image site i slot form → IsPassed site s i slot form
        → IsReady image site bytes i slot form
    ready i slot MutableArray fits few lies is =
        let stored = needed_own i (length (needed_of image)) fits in
        record {
          place = place_is image site numbers i stored few;
          pointer = passed.raw i stored few ∙ ap Some is.pointer;
          array = λ x from to. ap is_some
              (passed.outside x (array_outside image site i slot lies.readable x from to))
              ∙ is.there x from to;
        }
    ready i slot form fits few lies is = tt

    pub all_ready : (i : ℕ) (slots : List Slot) → needed_from i slots ≤ length (needed_of image)
        → i + length slots ≡ length image.slots → LieWell image site i slots
        → ArePassed site s i slots → AreReady image site bytes i slots
    all_ready i [] fits count lie are = tt
    all_ready i (slot ∷ slots) fits count lie are =
        let own = le-max_left (needed_for i slot.param.form) (needed_from (i + 1) slots) in
        let rest = le-max_right (needed_for i slot.param.form) (needed_from (i + 1) slots) in (
          ready i slot slot.param.form (omega arith) (omega arith) lie.0 are.0,
          all_ready (i + 1) slots (omega arith) (omega arith) lie.1 are.1,
        )
