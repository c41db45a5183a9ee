-- The data of a loaded image is its frame, and its outcome is read from its frame alone.
use Rattle.std.proofs.Common.{◌≡◌, ℕ, zero, suc, ◌+◌, ◌*◌, ◌<◌, ◌≤◌, Bool, true, false, ◌&&◌, nat_le, nat_lt, List, []}
use Rattle.std.proofs.Common.{◌∷◌, ◌++◌, length, map, Option, Some, None, IfSome, cond, is_some, unwrap_or, refl, sym}
use Rattle.std.proofs.Common.{ap, ap₂, ◌∙◌, arith}
use Rattle.std.proofs.Math.Nat.{mul-suc}
use Rattle.std.proofs.lemmas.Bool.Decides.{nat_tests}
use Rattle.std.specs.List.{AllByRecursion}
use Rattle.std.specs.Option.{option_map}
use Rattle.harts.specs.Below.{AreWithin, Arg, array_in, arrays_in, ByteMap, element_bytes, Fields, IsImage, loaded_at}
use Rattle.harts.specs.Below.{number_at, numbers_at, params_of, result_end, results_in, Slot, slot_bytes, slot_end}
use Rattle.harts.specs.Below.{with_argument, with_arguments, word_in, zeros}
use Rattle.expression_code.specs.declared.image_fields.slot.ResultSlot.{ResultSlot}
use Rattle.language.specs.declared.signature.Form.{Form}
use Rattle.language.specs.declared.signature.Form.TheVariants.{MutableArray}
use Rattle.harts.proofs.Below.{argument_extent, bytes_within, number_at_same, zeros_there}

-- each byte from one address up to another is data
abbrev pub IsData : ByteMap → ℕ → ℕ → Type 0
IsData bytes low high = (x : ℕ) → low ≤ x → x < high → is_some (bytes x) ≡ true

-- Arguments.

arguments_extent : (frame n : ℕ) (slots : List Slot) (args : List Arg) (bytes : ByteMap)
    → IsData bytes frame (frame + n) → AllByRecursion (λ slot. slot_end slot ≤ n) slots
    → AreWithin (map (λ (slot : Slot). slot.param) slots) args → (x : ℕ)
    → is_some (with_arguments frame bytes slots args x) ≡ is_some (bytes x)
arguments_extent frame n (slot ∷ slots) (arg ∷ args) bytes there inside within x =
    let here : slot_end slot ≤ n = inside.0 in
    let first = argument_extent frame bytes slot (λ y low high. there y (omega arith) (omega arith)) arg
    within.0.shape in
    arguments_extent frame n slots args (with_argument frame bytes slot arg)
    (λ y low high. first y ∙ there y low high) inside.1 within.1 x ∙ first x
arguments_extent frame n slots args bytes there inside within x = refl

-- The loaded frame.

some_where : (b : Bool) → is_some {T = ℕ} (cond b (Some 0) None) ≡ true → b ≡ true
some_where true there = refl
some_where false there = there

zeros_only : (base n x : ℕ) → is_some (zeros base n x) ≡ true → (base ≤ x) × (x < base + n)
zeros_only base n x there =
    let inside : (nat_le base x && nat_lt x (base + n)) ≡ true =
    some_where (nat_le base x && nat_lt x (base + n)) there in
    (grind (arith, nat_tests), grind (arith, nat_tests))

module _ (code frame : ℕ) (image : Fields) (is : IsImage image) (args : List Arg)
    (within : AreWithin (params_of image) args) where
  loaded_extent : (x : ℕ) → is_some ((loaded_at code frame image args).bytes x)
      ≡ is_some (zeros frame image.frame_bytes x)
  loaded_extent =
      arguments_extent frame image.frame_bytes image.slots args (zeros frame image.frame_bytes)
      (zeros_there frame image.frame_bytes) is.slots_inside within

  -- the frame is data
  pub frame_there : IsData (loaded_at code frame image args).bytes frame (frame + image.frame_bytes)
  frame_there x low high = loaded_extent x ∙ zeros_there frame image.frame_bytes x low high

  -- and nothing else is
  pub frame_only : (x : ℕ) → is_some ((loaded_at code frame image args).bytes x) ≡ true
      → (frame ≤ x) × (x < frame + image.frame_bytes)
  frame_only x there = zeros_only frame image.frame_bytes x (sym (loaded_extent x) ∙ there)

-- The outcome.

module _ (frame n : ℕ) (old new : ByteMap) (same : (x : ℕ) → frame ≤ x → x < frame + n → new x ≡ old x) where
  number_same : (size at : ℕ) → frame ≤ at → at + size ≤ frame + n → number_at new size at ≡ number_at old size at
  number_same size at above below =
      number_at_same old new size at (λ x low high. same x (omega (arith, low, above)) (omega (arith, high, below)))

  numbers_same : (size at count : ℕ) → frame ≤ at → at + size * count ≤ frame + n
      → numbers_at new size at count ≡ numbers_at old size at count
  numbers_same size at zero above below = refl
  numbers_same size at (suc count) above below =
      let all = mul-suc size count in
      ap₂ (λ (o : Option ℕ) (left : List ℕ). unwrap_or o 0 ∷ left) (number_same size at above (omega arith))
      (numbers_same size (at + size) count (omega arith) (omega arith))

  array_same : (form : Form) (slot : Slot) → slot.offset + slot_bytes form slot.param.kind slot.param.length ≤ n
      → array_in frame new form slot ≡ array_in frame old form slot
  array_same MutableArray slot inside =
      ap (λ (words : List ℕ). words ∷ [])
      (numbers_same (element_bytes slot.param.kind) (frame + slot.offset) slot.param.length (omega arith)
      (omega (arith, bytes_within slot.param.kind slot.param.length)))
  array_same form slot inside = refl

  arrays_same : (slots : List Slot) → AllByRecursion (λ slot. slot_end slot ≤ n) slots
      → arrays_in frame new slots ≡ arrays_in frame old slots
  arrays_same [] inside = refl
  arrays_same (slot ∷ slots) inside =
      ap₂ (λ (one rest : List (List ℕ)). one ++ rest) (array_same slot.param.form slot inside.0)
      (arrays_same slots inside.1)

  word_same : (offset : ℕ) → offset + 4 ≤ n → word_in frame new offset ≡ word_in frame old offset
  word_same offset inside =
      ap (λ (o : Option ℕ). unwrap_or o 0) (number_same 4 (frame + offset) (omega arith) (omega (arith, inside)))

  returned_same : (returned : Option ResultSlot) → IfSome returned (λ slot. result_end slot ≤ n)
      → option_map (λ (slot : ResultSlot). word_in frame new slot.offset) returned
      ≡ option_map (λ (slot : ResultSlot). word_in frame old slot.offset) returned
  returned_same None inside = refl
  returned_same (Some slot) inside = ap Some (word_same slot.offset inside)

-- bytes that agree on the frame hold one outcome
pub outcome_same : (frame : ℕ) (image : Fields) (is : IsImage image) (old new : ByteMap)
    → ((x : ℕ) → frame ≤ x → x < frame + image.frame_bytes → new x ≡ old x)
    → results_in frame image new ≡ results_in frame image old
outcome_same frame image is old new same = λ i. record {
  returned = returned_same frame image.frame_bytes old new same image.returned is.returned_inside i;
  arrays = arrays_same frame image.frame_bytes old new same image.slots is.slots_inside i;
}
