-- Space for arrays, made slot by slot, and filled array by array.
use Rattle.std.proofs.Common.{◌≡◌, ◌≢◌, ℕ, ◌+◌, ◌*◌, ◌<◌, ◌≤◌, List, [], ◌∷◌, ◌++◌, length, map, drop, slice_index_or}
use Rattle.std.proofs.Common.{refl, ap, arith, drop-cons, add-one, append_assoc}
use Rattle.std.proofs.lemmas.List.{map-append}
use Rattle.hepurita.specs.Below.{array_in, arrays_in, ByteMap, element_bytes, Form, MutableArray, Slot, slot_bytes}
use Rattle.hepurita.specs.Below.{slot_end}
use Rattle.hepurita.specs.declared.results.ArraySpace.{ArraySpace}
use Rattle.hepurita.specs.Frames.{elements_in}
use Rattle.hepurita.proofs.DataLemmas.{bytes_within}

-- an array's elements lie below the end of its slot
pub array_inside : (bound : ℕ) (slot : Slot) → slot.param.form ≡ MutableArray → slot_end slot ≤ bound
    → slot.offset + element_bytes slot.param.kind * slot.param.length ≤ bound
array_inside bound slot is inside =
    let end : slot_end slot ≡ slot.offset + slot_bytes MutableArray slot.param.kind slot.param.length =
    ap (λ form. slot.offset + slot_bytes form slot.param.kind slot.param.length) is in
    omega (arith, bytes_within slot.param.kind slot.param.length)

no_array : (frame : ℕ) (bytes : ByteMap) (slot : Slot) (form : Form) → form ≢ MutableArray
    → array_in frame bytes form slot ≡ []
no_array frame bytes slot MutableArray other = absurd (other refl)
no_array frame bytes slot form other = refl

module _ (frame : ℕ) (bytes : ByteMap) where
  next_slot : (slots : List Slot) (i : ℕ) (d : Slot) → i < length slots
      → arrays_in frame bytes (drop i slots)
      ≡ array_in frame bytes (slice_index_or slots i d).param.form (slice_index_or slots i d)
      ++ arrays_in frame bytes (drop (i + 1) slots)
  next_slot slots i d below = rw (add-one i, drop-cons slots i d below)

  -- past a slot that holds no such array
  pub past_other : (slots : List Slot) (i : ℕ) (d : Slot) → i < length slots
      → (slice_index_or slots i d).param.form ≢ MutableArray
      → arrays_in frame bytes (drop i slots) ≡ arrays_in frame bytes (drop (i + 1) slots)
  past_other slots i d below other =
      let slot = slice_index_or slots i d in
      rw (next_slot slots i d below, no_array frame bytes slot slot.param.form other)

  -- past one that does
  pub past_array : (slots : List Slot) (i : ℕ) (d : Slot) → i < length slots
      → (slice_index_or slots i d).param.form ≡ MutableArray
      → arrays_in frame bytes (drop i slots) ≡ elements_in frame bytes (slice_index_or slots i d)
      ∷ arrays_in frame bytes (drop (i + 1) slots)
  past_array slots i d below is = rw (next_slot slots i d below, is)

  pub in_order_more : (each : List ArraySpace) (one : ArraySpace) (left rest total : List (List ℕ))
      → left ≡ elements_in frame bytes one.slot ∷ rest
      → map (λ x. elements_in frame bytes x.slot) each ++ left ≡ total
      → map (λ x. elements_in frame bytes x.slot) (each ++ one ∷ []) ++ rest ≡ total
  in_order_more each one left rest total is all =
      simp (map-append, append_assoc) (rw is at all)
