-- What stays as it was while the room of a call is written: pointers, arrays, and bytes outside the room.
use Rattle.std.proofs.Common.{◌≡◌, ℕ, ◌+◌, ◌≤◌, ◌<◌, List, [], ◌∷◌, ◌∙◌, arith}
use Rattle.linked_calls.proofs.Below.{argument_offset, arguments_end, arrays_behind, ByteMap, element_bytes, Fields}
use Rattle.linked_calls.proofs.Below.{FixedArray, Form, MutableArray, number_at_same, room_base, SingleWord, CallSite}
use Rattle.linked_calls.proofs.Below.{Slot, with_array, with_arrays}
use Rattle.linked_calls.proofs.Between.{AreReady, IsReady, saved_at}
use Rattle.linked_calls.proofs.Bytes.{SameData, numbers_agree}

-- Arrays that are ready stay so where nothing above the frame changes, and what is data stays data.
module _ (image : Fields) (site : CallSite) (old new : ByteMap)
    (same : (x : ℕ) → saved_at image site ≤ x → x < arguments_end image site → new x ≡ old x)
    (data_same : SameData old new) where
  stays_ready : (i : ℕ) (slot : Slot) (form : Form) → IsReady image site old i slot form
      → IsReady image site new i slot form
  stays_ready i slot MutableArray ready =
      let place = ready.place in
      record {
        place = place;
        pointer = number_at_same old new 4 (room_base image site + argument_offset image i)
            (λ x low high. same x (omega (arith, place.above)) (omega (arith, place.inside))) ∙ ready.pointer;
        array = λ x low high. data_same x ∙ ready.array x low high;
      }
  stays_ready i slot form ready = ready

  pub stay_ready : (i : ℕ) (slots : List Slot) → AreReady image site old i slots → AreReady image site new i slots
  stay_ready i [] ready = tt
  stay_ready i (slot ∷ slots) ready =
      (stays_ready i slot slot.param.form ready.0, stay_ready (i + 1) slots ready.1)

-- the same arrays put into two maps that agree at an address
module _ (site : CallSite) (x : ℕ) where
  array_agrees : (one other : ByteMap) (i : ℕ) (slot : Slot) (form : Form) (arrays : List (List ℕ)) → one x ≡ other x
      → with_array site one i slot form arrays x ≡ with_array site other i slot form arrays x
  array_agrees one other i slot SingleWord arrays same = same
  array_agrees one other i slot FixedArray arrays same = same
  array_agrees one other i slot MutableArray [] same = same
  array_agrees one other i slot MutableArray (array ∷ arrays) same =
      numbers_agree one other (element_bytes slot.param.kind) (site.pointers i) array x same

  pub arrays_agree : (one other : ByteMap) (i : ℕ) (slots : List Slot) (arrays : List (List ℕ)) → one x ≡ other x
      → with_arrays site one i slots arrays x ≡ with_arrays site other i slots arrays x
  arrays_agree one other i [] arrays same = same
  arrays_agree one other i (slot ∷ slots) arrays same =
      arrays_agree (with_array site one i slot slot.param.form arrays)
      (with_array site other i slot slot.param.form arrays) (i + 1) slots (arrays_behind slot.param.form arrays)
      (array_agrees one other i slot slot.param.form arrays same)
