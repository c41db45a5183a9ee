-- What is known of the arguments of a call before any state: their slots lie in the frame, their words in the room or
-- on the stack, and arrays apart from the room.
use Rattle.std.specs.List.{AllByRecursion}
use Rattle.std.proofs.Common.{◌≡◌, ℕ, ◌+◌, ◌*◌, ◌%◌, ◌^◌, ◌<◌, ◌≤◌, nat_le, true, ◌&&◌, List, [], ◌∷◌, length}
use Rattle.std.proofs.Common.{inl, inr, arith}
use Rattle.std.proofs.Math.Nat.{le-max_left, le-max_right}
use Rattle.std.proofs.lemmas.Bool.Decides.{nat_tests}
use Rattle.linked_calls.proofs.Below.{AreApart, arguments_end, array_bytes, array_words, bytes_within}
use Rattle.linked_calls.proofs.Below.{argument_offset, CanBeCopied, Fields, FixedArray, Form, IsBesides, IsImage}
use Rattle.linked_calls.proofs.Below.{IsReadable, LiesWell, LieWell, most_elements, MutableArray, ReadsAnArray}
use Rattle.linked_calls.proofs.Below.{needed_for, needed_from, needed_of, ReadsArray, room_base, SingleWord, CallSite, Size, Slot}
use Rattle.linked_calls.proofs.Below.{stacked_offset, WritesAnArray}
use Rattle.linked_calls.proofs.Below.{WritesArray}
use Rattle.linked_calls.specs.Below.{AreSlots, is_length, slot_bytes, slot_end}
use Rattle.linked_calls.proofs.AllArguments.{AreKnown, IsKnown, KnownArray, KnownWord, spot_at}
use Rattle.linked_calls.proofs.CopyElements.{elements_fit, some_bytes}
use Rattle.linked_calls.proofs.Rooms.{RoomNumbers, needed_own, place_is}

-- Slots.

some_elements : (n : ℕ) → (nat_le 1 n && nat_le n most_elements) ≡ true → 0 < n
some_elements n h = grind (arith, nat_tests)

beside : (a n low high at : ℕ) → low ≤ at → at + n ≤ high → IsBesides a n low high → AreApart n a at
beside a n low high at from to (inl before) = inl (omega arith)
beside a n low high at from to (inr behind) = inr (omega arith)

both_beside : (a n low mid high : ℕ) → 0 < n → IsBesides a n low mid → IsBesides a n mid high → IsBesides a n low high
both_beside a n low mid high some (inl below) other = inl below
both_beside a n low mid high some (inr above) (inl below) = absurd (omega arith)
both_beside a n low mid high some (inr above) (inr beyond) = inr beyond

module _ (image : Fields) (site : CallSite) (is : IsImage image) (lie_well : LieWell image site 0 image.slots)
    (numbers : RoomNumbers image site) where
  abbrev frame : ℕ
  frame = room_base image site

  module _ (i : ℕ) (few : i < length image.slots) (slot : Slot) (aligned : slot.offset % 4 ≡ 0) where
    word_known : slot.offset + 4 ≤ image.frame_bytes → KnownWord image site i slot
    word_known inside =
        record {
          can = record {
            frame_aligned = omega arith;
            slot_aligned = omega arith;
            place_ends = omega arith;
            slot_ends = omega arith;
          };
          inside = omega arith;
        }

    module _ (some : 0 < slot.param.length) (ends_inside : slot.offset + array_bytes slot ≤ image.frame_bytes)
        (readable : IsReadable image site i slot) where
      slot_inside : frame + slot.offset + array_bytes slot ≤ site.stack
      slot_inside = omega arith

      can_copy : (place : ℕ) → place % 4 ≡ 0 → place < 2 ^ 32 → CanBeCopied slot (spot_at image site i) place
      can_copy place even below =
          let inside = slot_inside in
          record {
            some = some;
            frame_aligned = omega arith;
            array_aligned = readable.aligned;
            slot_aligned = omega arith;
            place_aligned = even;
            place_ends = below;
            array_ends = readable.ends;
            slot_ends = omega arith;
            apart = beside (site.pointers i) (array_bytes slot) frame site.stack (frame + slot.offset) (omega arith)
                inside readable.beside_room;
          }

      array_known : ((a : ℕ) (size : Size) → ReadsArray site i slot FixedArray a size
          → ReadsAnArray site 0 image.slots a size) → KnownArray image site i slot
      array_known reads =
          let inside = slot_inside in
          record {
            can = can_copy (frame + stacked_offset image i) (omega arith) (omega arith);
            readable = readable;
            reads = reads;
            inside = omega arith;
          }

    array_ends : slot.offset + 4 * array_words slot.param.kind slot.param.length ≤ image.frame_bytes
        → slot.offset + array_bytes slot ≤ image.frame_bytes
    array_ends ends = omega (arith, bytes_within slot.param.kind slot.param.length)

    known : (form : Form) → needed_for i form ≤ length (needed_of image) → is_length form slot.param.length ≡ true
        → slot.offset + slot_bytes form slot.param.kind slot.param.length ≤ image.frame_bytes
        → LiesWell image site i slot form
        → ((a : ℕ) (size : Size) → ReadsArray site i slot form a size → ReadsAnArray site 0 image.slots a size)
        → ((a : ℕ) (size : Size) → WritesArray site i slot form a size → WritesAnArray site 0 image.slots a size)
        → IsKnown image site i slot form
    known SingleWord fits long ends lies reads writes = word_known ends
    known FixedArray fits long ends lies reads writes =
        array_known (some_elements slot.param.length long) (array_ends ends) lies reads
    known MutableArray fits long ends lies reads writes =
        let some = some_elements slot.param.length long in
        let one = some_bytes slot.param.kind in
        let fit = elements_fit slot.param.kind 0 slot.param.length some in
        let place = place_is image site numbers i (needed_own i (length (needed_of image)) fits) few in
        record {
          known = array_known some (array_ends ends) lies.readable reads;
          back = can_copy some (array_ends ends) lies.readable (frame + argument_offset image i) place.aligned
              (omega (arith, place.inside));
          place = place;
          writes = writes;
          beside = both_beside (site.pointers i) (array_bytes slot) frame site.stack (arguments_end image site)
              (omega arith) lies.readable.beside_room lies.beside_arguments;
        }

  known_from : (i low : ℕ) (slots : List Slot) → needed_from i slots ≤ length (needed_of image)
      → i + length slots ≡ length image.slots → AreSlots low slots
      → AllByRecursion (λ slot. slot_end slot ≤ image.frame_bytes) slots
      → LieWell image site i slots
      → ((a : ℕ) (size : Size) → ReadsAnArray site i slots a size → ReadsAnArray site 0 image.slots a size)
      → ((a : ℕ) (size : Size) → WritesAnArray site i slots a size → WritesAnArray site 0 image.slots a size)
      → AreKnown image site i slots
  known_from i low [] fits count are ends lie reads writes = tt
  known_from i low (slot ∷ slots) fits count are ends lie reads writes =
      let own = le-max_left (needed_for i slot.param.form) (needed_from (i + 1) slots) in
      let rest = le-max_right (needed_for i slot.param.form) (needed_from (i + 1) slots) in (
        known i (omega arith) slot are.0.aligned slot.param.form (omega arith) are.0.length ends.0 lie.0
            (λ a size h. reads a size (inl h)) (λ a size h. writes a size (inl h)),
        known_from (i + 1) (slot_end slot) slots (omega arith) (omega arith) are.1 ends.1 lie.1
            (λ a size h. reads a size (inr h)) (λ a size h. writes a size (inr h)),
      )

  -- all of them
  pub all_known : AreKnown image site 0 image.slots
  all_known = known_from 0 0 image.slots (omega (arith, numbers.needed_count)) (omega arith) is.slots is.slots_inside lie_well (λ a size h. h)
      (λ a size h. h)
