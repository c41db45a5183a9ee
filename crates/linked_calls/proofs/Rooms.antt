-- The room of a call: where its frame, the saved registers and the arguments lie in it, in numbers.
use Rattle.compilation.specs.Needs.{Needs}
use Rattle.std.proofs.Common.{◌≡◌, ℕ, ◌+◌, ◌-◌, ◌*◌, ◌%◌, ◌^◌, ◌<◌, ◌≤◌, Bool, true, false, List, []}
use Rattle.std.proofs.Common.{◌∷◌, length, inl, inr, refl, ap, arith, nat_lt, if◌then◌else◌}
use Rattle.std.proofs.Math.Nat.{max-le}
use Rattle.std.proofs.lemmas.Bool.{lt-ltb, ltb-false, ltb-true}
use Rattle.std.proofs.lemmas.List.{length-take-le}
use Rattle.linked_calls.proofs.Below.{above_frame, argument_offset, arguments_end, body_words, MachineCode, Fields}
use Rattle.linked_calls.proofs.Below.{argument_registers, first_argument, Form, frame_room, IsSite, is_written, kept_of}
use Rattle.linked_calls.proofs.Below.{MutableArray, needed_for, needed_from, needed_of, Slot, stacked_offset}
use Rattle.linked_calls.proofs.Below.{saved_registers, written_of}
use Rattle.linked_calls.proofs.Below.{room_base, CallSite}
use Rattle.linked_calls.proofs.Between.{IsOutsideRoom, PlaceBehind, saved_at}
use Rattle.linked_calls.proofs.Bytes.{IsOutside}
use Rattle.linked_calls.specs.declared.pace.Pace.{Pace}

pub record RoomNumbers (image : Fields) (site : CallSite) : Type 0 where
  pub ends : room_base image site + (frame_room image + above_frame image) ≡ site.stack
  pub above_whole : above_frame image % 16 ≡ 0
  pub above_least : 4 * (length (kept_of image) + length (needed_of image)) ≤ above_frame image
  pub above_most : above_frame image ≤ 80
  pub needed_count : length (needed_of image) ≡ needed_from 0 image.slots
  pub even : room_base image site % 16 ≡ 0
  pub whole : frame_room image % 16 ≡ 0
  pub holds : image.frame_bytes ≤ frame_room image
  pub arguments : site.stack ≤ arguments_end image site
  pub below : arguments_end image site < 2 ^ 32

-- no more registers are kept than may have to be
pub written_few : (words rs : List ℕ) → length (written_of words rs) ≤ length rs
written_few words [] = omega arith
written_few words (r ∷ rs) = by (is_written words r) (written_few words rs)
  where
    by : (b : Bool) → length (written_of words rs) ≤ length rs
        → length (if b then r ∷ written_of words rs else written_of words rs) ≤ length (r ∷ rs)
    by true few = omega arith
    by false few = omega arith

-- no more are needed behind the body than there are registers for arguments

form_few : (i : ℕ) (form : Form) → needed_for i form ≤ 8
form_few i MutableArray = by (nat_lt i 8) refl
  where
    by : (b : Bool) → nat_lt i 8 ≡ b → (if b then i + 1 else 0) ≤ 8
    by true h = let few = ltb-true i 8 h in omega arith
    by false h = omega arith
form_few i form = omega arith

pub needed_few : (i : ℕ) (slots : List Slot) → needed_from i slots ≤ 8
needed_few i [] = omega arith
needed_few i (slot ∷ slots) = max-le (form_few i slot.param.form) (needed_few (i + 1) slots)

-- up to that of each array that may be changed
pub needed_own : (i n : ℕ) → needed_for i MutableArray ≤ n → i < 8 → i < n
needed_own i n fits few =
    let own : (if nat_lt i 8 then i + 1 else 0) ≡ i + 1 = ap (λ b. if b then i + 1 else 0) (lt-ltb i 8 few) in
    omega (arith, own, fits)

pub room_numbers : (image : Fields) {needs : Needs} {pace : Pace} (code : MachineCode) (site : CallSite) → IsSite image needs pace code site
    → RoomNumbers image site
room_numbers image code site is =
    let few : length (kept_of image) ≤ 12 = written_few (body_words image.words) saved_registers in
    let most = needed_few 0 image.slots in
    let needed : length (needed_of image) ≡ needed_from 0 image.slots =
    length-take-le (needed_from 0 image.slots) argument_registers most in
    record {
      ends = omega arith;
      above_whole = omega arith;
      above_least = omega arith;
      above_most = omega arith;
      needed_count = needed;
      even = omega arith;
      whole = omega arith;
      holds = omega arith;
      arguments = omega arith;
      below = is.stack_ends;
    }

module _ (image : Fields) (site : CallSite) (numbers : RoomNumbers image site) where
  -- an argument's place behind the body, where a register of it is stored
  pub place_is : (i : ℕ) → (i < 8 → i < length (needed_of image)) → i < length image.slots
      → PlaceBehind image site (argument_offset image i)
  place_is i stored few = by (nat_lt i 8) refl
    where
      by : (b : Bool) → nat_lt i 8 ≡ b
          → PlaceBehind image site (if b then frame_room image + first_argument image + 4 * i else stacked_offset image i)
      by true h =
          let own = stored (ltb-true i 8 h) in
          record { aligned = omega arith; above = omega arith; inside = omega arith }
      by false h =
          let many = ltb-false i 8 h in
          record { aligned = omega arith; above = omega arith; inside = omega arith }

  -- one that no register holds is the caller's own
  pub place_stacked : (i : ℕ) → room_base image site + stacked_offset image i ≡ site.stack + 4 * (i - 8)
  place_stacked i = omega arith

  -- what lies outside the room lies outside the frame
  pub outside_frame : (x : ℕ) → IsOutsideRoom image site x
      → IsOutside (room_base image site) (saved_at image site) x
  outside_frame x (inl low) = inl low
  outside_frame x (inr high) = inr (omega arith)
