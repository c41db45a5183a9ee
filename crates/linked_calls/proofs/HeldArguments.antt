-- What stands in the slots where the body begins: the arguments, but that a slot which is skipped holds some numbers of
-- its kind. So it is within the parameters' types, and agrees with the arguments but where they are spared.
use Rattle.std.specs.Prelude.{slice_get, unwrap_or}
use Rattle.std.proofs.Common.{◌≡◌, ℕ, suc, ◌+◌, ◌≤◌, ◌&&◌, Bool, true, false, List, [], ◌∷◌, map, All}
use Rattle.std.proofs.Common.{refl, sym, ap, ◌∙◌, arith}
use Rattle.std.proofs.lemmas.List.{length-map}
use Rattle.linked_calls.proofs.Below.{argument_of, arguments_from, ByteMap, CallSite, element_bytes, Fields, FixedArray}
use Rattle.linked_calls.proofs.Below.{elements_at, Form, meant, MutableArray, room_base, SingleWord, Slot, State}
use Rattle.linked_calls.proofs.AllArguments.{all_held, held, taken}
use Rattle.linked_calls.proofs.Bytes.{numbers_count}
use Rattle.linked_calls.proofs.WithinParameters.{all_meant, shape_within, values_within}
use Rattle.linked_calls.specs.FunctionCode.{is_open, is_skipped}
use Rattle.language.specs.arguments.Within.{AreWithin, greatest_of, HasShape, words_of}
use Rattle.compilation.specs.Below.{AgreeBut}

module _ (image : Fields) (site : CallSite) (s : State) where
  shape_held : (skipped : Bool) (bytes : ByteMap) (i : ℕ) (slot : Slot) (form : Form)
      → HasShape form slot.param.length (held image site s skipped bytes i slot form)
  shape_held skipped bytes i slot SingleWord = shape_within site s i slot SingleWord
  shape_held skipped bytes i slot FixedArray = shape_within site s i slot FixedArray
  shape_held true bytes i slot MutableArray =
      let a = room_base image site + slot.offset in
      length-map (elements_at slot bytes a) (meant slot.param.kind)
      ∙ numbers_count bytes (element_bytes slot.param.kind) a slot.param.length
  shape_held false bytes i slot MutableArray = shape_within site s i slot MutableArray

  values_held : (skipped : Bool) (bytes : ByteMap) (i : ℕ) (slot : Slot) (form : Form)
      → All (λ word. word ≤ greatest_of slot.param.kind) (words_of (held image site s skipped bytes i slot form))
  values_held skipped bytes i slot SingleWord = values_within site s i slot SingleWord
  values_held skipped bytes i slot FixedArray = values_within site s i slot FixedArray
  values_held true bytes i slot MutableArray =
      all_meant slot.param.kind (elements_at slot bytes (room_base image site + slot.offset))
  values_held false bytes i slot MutableArray = values_within site s i slot MutableArray

  pub held_within : (spared : List Bool) (bytes : ByteMap) (i : ℕ) (slots : List Slot)
      → AreWithin (map (λ slot. slot.param) slots) (all_held image site s spared bytes i slots)
  held_within spared bytes i [] = tt
  held_within spared bytes i (slot ∷ slots) =
      let skipped = is_skipped spared i slot in (
        record {
          shape = shape_held skipped bytes i slot slot.param.form;
          values = values_held skipped bytes i slot slot.param.form;
        },
        held_within spared (taken image site s skipped bytes i slot slot.param.form) (i + 1) slots,
      )

  -- what is not skipped is the argument
  held_argument : (skipped : Bool) (bytes : ByteMap) (i : ℕ) (slot : Slot) (form : Form) → skipped ≡ false
      → argument_of site s i slot form ≡ held image site s skipped bytes i slot form
  held_argument skipped bytes i slot SingleWord is = refl
  held_argument skipped bytes i slot FixedArray is = refl
  held_argument true bytes i slot MutableArray is = cc
  held_argument false bytes i slot MutableArray is = refl

  not_skipped : (b other : Bool) → b ≡ false → b && other ≡ false
  not_skipped true other is = cc
  not_skipped false other is = refl

  -- of the slots from the i-th on, which those of a list are spared
  module _ (spared : List Bool) where
    abbrev AreOf : List Bool → ℕ → Type 0
    AreOf rest i = (k : ℕ) → unwrap_or (slice_get rest k) false ≡ unwrap_or (slice_get spared (i + k)) false

    are_next : (b : Bool) (rest : List Bool) (i : ℕ) → AreOf (b ∷ rest) i → AreOf rest (i + 1)
    are_next b rest i are k =
        let next : i + suc k ≡ i + 1 + k = omega arith in
        are (suc k) ∙ ap (λ j. unwrap_or (slice_get spared j) false) next

    none_next : (i : ℕ) → AreOf [] i → AreOf [] (i + 1)
    none_next i are k =
        let next : i + suc k ≡ i + 1 + k = omega arith in
        are (suc k) ∙ ap (λ j. unwrap_or (slice_get spared j) false) next

    first_is : (bytes : ByteMap) (i : ℕ) (slot : Slot) → false ≡ unwrap_or (slice_get spared (i + 0)) false
        → argument_of site s i slot slot.param.form
        ≡ held image site s (is_skipped spared i slot) bytes i slot slot.param.form
    first_is bytes i slot is =
        let here : i + 0 ≡ i = omega arith in
        held_argument (is_skipped spared i slot) bytes i slot slot.param.form
        (not_skipped (unwrap_or (slice_get spared i) false) (is_open slot.param.form slot.param.kind)
        (ap (λ j. unwrap_or (slice_get spared j) false) (sym here) ∙ sym is))

    agree_from : (rest : List Bool) (bytes : ByteMap) (i : ℕ) (slots : List Slot) → AreOf rest i
        → AgreeBut rest (arguments_from site s i slots) (all_held image site s spared bytes i slots)
    agree_from rest bytes i [] are = tt
    agree_from [] bytes i (slot ∷ slots) are = (
      first_is bytes i slot (are 0),
      agree_from [] (taken image site s (is_skipped spared i slot) bytes i slot slot.param.form) (i + 1) slots
          (none_next i are),
    )
    agree_from (true ∷ rest) bytes i (slot ∷ slots) are =
        agree_from rest (taken image site s (is_skipped spared i slot) bytes i slot slot.param.form) (i + 1) slots
        (are_next true rest i are)
    agree_from (false ∷ rest) bytes i (slot ∷ slots) are = (
      first_is bytes i slot (are 0),
      agree_from rest (taken image site s (is_skipped spared i slot) bytes i slot slot.param.form) (i + 1) slots
          (are_next false rest i are),
    )

    pub held_agree : (bytes : ByteMap)
        → AgreeBut spared (arguments_from site s 0 image.slots) (all_held image site s spared bytes 0 image.slots)
    held_agree bytes =
        agree_from spared bytes 0 image.slots (λ k.
        let same : k ≡ 0 + k = omega arith in
        ap (λ j. unwrap_or (slice_get spared j) false) same)
