-- All arrays that may be changed, handed back one after another: each is read from its slot, since only the caller's
-- arrays are written, which lie beside the room and the arguments.
use Rattle.std.specs.Prelude.{is_some}
use Rattle.std.proofs.Common.{◌≡◌, ℕ, ◌+◌, ◌*◌, ◌<◌, ◌≤◌, List, [], ◌∷◌, ◌++◌, length, inl, inr, refl, sym, ap, ap₂}
use Rattle.std.proofs.Common.{◌∙◌, subst, arith}
use Rattle.expression_code.proofs.program_logic_lemmas.Counted.{no_code, Setting}
use Rattle.linked_calls.proofs.Below.{AreBytes, AreData, argument_offset, arguments_end, Data, array_bytes, array_in, arrays_behind}
use Rattle.linked_calls.proofs.Below.{arrays_in, ByteMap, MachineCode, copy_out_code, element_bytes, elements_at, Fields, FixedArray, Form}
use Rattle.linked_calls.proofs.Below.{IsBesides, IsOnStack, MutableArray, Placed, Placed-left, Placed-right}
use Rattle.linked_calls.proofs.Below.{results_code, room_base, SingleWord, CallSite}
use Rattle.linked_calls.proofs.Below.{Size, Slot, with_array, with_arrays, with_numbers}
use Rattle.linked_calls.proofs.AllArguments.{AreKnown, ArgumentsBegin, IsKnown, copying_registers}
use Rattle.linked_calls.proofs.AllArguments.{call_setting, on_stack, place_allowed, slot_within, spot_at}
use Rattle.linked_calls.proofs.Between.{AreReady, IsReady}
use Rattle.linked_calls.proofs.Bytes.{IsOutside, SameData, numbers_count, numbers_outside, is_some-with_numbers}
use Rattle.linked_calls.proofs.ByteData.{numbers_stay}
use Rattle.linked_calls.proofs.Bytes.{numbers_same}
use Rattle.linked_calls.proofs.Copies.{handed_runs as handed_by}
use Rattle.linked_calls.proofs.SectionSteps.{output_steps, outputs_steps}
use Rattle.linked_calls.proofs.PlacedRuns.{behind_first, here, RunsHere, then_here, weaken_here}
use Rattle.linked_calls.proofs.Rooms.{RoomNumbers}
use Rattle.linked_calls.proofs.SameRegisters.{IsNone, same_beside}
use Rattle.linked_calls.proofs.Staying.{stay_ready}
use Rattle.linked_calls.specs.Copies.{CopierStands}
use Rattle.linked_calls.specs.FunctionCode.{copier_of}
use Rattle.linked_calls.specs.declared.pace.Pace.{Pace}

-- the bytes are those that a function gives, and no register has changed but those that copying writes
pub record HandsBack (goal : Data → ByteMap) (s t : Data) : Type 0 where
  pub bytes : t.bytes ≡ goal s
  pub others : (q : ℕ) → IsNone copying_registers q → t.regs q ≡ s.regs q

module _ (image : Fields) (code : MachineCode) (site : CallSite) (numbers : RoomNumbers image site) where
  abbrev z : Setting
  z = call_setting image code site

  abbrev base : ℕ
  base = room_base image site

  abbrev end : ℕ
  end = arguments_end image site

  -- the elements in a slot
  abbrev outcome_at : ByteMap → Slot → List ℕ
  outcome_at bytes slot = elements_at slot bytes (base + slot.offset)

  -- the bytes with an array handed back
  abbrev handed : ByteMap → ℕ → Slot → Form → ByteMap
  handed bytes i slot SingleWord = bytes
  handed bytes i slot FixedArray = bytes
  handed bytes i slot MutableArray =
      with_numbers bytes (element_bytes slot.param.kind) (site.pointers i) (outcome_at bytes slot)

  abbrev all_handed : ByteMap → ℕ → List Slot → ByteMap
  all_handed bytes i [] = bytes
  all_handed bytes i (slot ∷ slots) = all_handed (handed bytes i slot slot.param.form) (i + 1) slots

  -- what lies in the room lies in the room and the arguments
  longer : (a : ℕ) (size : Size) → IsOnStack base site.stack base a size → IsOnStack base end base a size
  longer a size lies = ((lies.0.0, omega (arith, lies.0.1)), lies.1)

  output_here : (pace : Pace) (p behind i : ℕ) (slot : Slot) (form : Form) → IsKnown image site i slot form
      → Placed code p (copy_out_code image pace behind i slot form)
      → CopierStands code (p + 4 * length (copy_out_code image pace behind i slot form)) behind (copier_of image pace)
      → RunsHere z p (output_steps image pace site.pointers i slot form) (copy_out_code image pace behind i slot form)
      (ArgumentsBegin image site (λ bytes. IsReady image site bytes i slot form))
      (HandsBack (λ s. handed s.bytes i slot form))
  output_here pace p behind i slot MutableArray known stands shared =
      weaken_here z {P' = ArgumentsBegin image site (λ bytes. IsReady image site bytes i slot MutableArray)}
      {R' = HandsBack (λ s. handed s.bytes i slot MutableArray)}
      (handed_by image pace slot (spot_at image site i) known.back z
      (place_allowed image site code numbers (argument_offset image i) known.place.inside)
      (λ a size lies.
      inl (longer a size (on_stack image site code numbers (base + slot.offset) (array_bytes slot) (omega arith)
      (slot_within image site code numbers slot (array_bytes slot) known.known.inside) a size lies)))
      (λ a size lies. inr (known.writes a size lies)) p behind stands shared)
      (λ s begins.
      let under = numbers.arguments in
      record {
        stack = begins.stack;
        points = begins.ready.pointer;
        array_there = begins.ready.array;
        slot_there = λ x l h. begins.there x (omega arith)
            (omega (arith, slot_within image site code numbers slot (array_bytes slot) known.known.inside));
        bytes = begins.bytes;
      })
      (λ s t begins back. record {
        bytes = back.bytes;
        others = λ q none. back.others q none.0 none.1.0 none.1.1.0 none.1.1.1.0 none.1.1.1.1.0;
      })
  output_here pace p behind i slot form known stands shared =
      here z stands (no_code z (λ s begins. record { bytes = refl; others = λ q none. refl }))

  -- Only arrays change, and what is data stays data.

  outcome_count : (bytes : ByteMap) (slot : Slot) → length (outcome_at bytes slot) ≡ slot.param.length
  outcome_count bytes slot = numbers_count bytes (element_bytes slot.param.kind) (base + slot.offset) slot.param.length

  array_apart : (bytes : ByteMap) (i : ℕ) (slot : Slot) (x : ℕ)
      → IsBesides (site.pointers i) (array_bytes slot) base end → base ≤ x → x < end
      → with_numbers bytes (element_bytes slot.param.kind) (site.pointers i) (outcome_at bytes slot) x ≡ bytes x
  array_apart bytes i slot x beside low up =
      let n = element_bytes slot.param.kind in
      let a = site.pointers i in
      numbers_outside bytes n a (outcome_at bytes slot) x
      (subst (λ k. IsOutside a (a + n * k) x) (sym (outcome_count bytes slot))
      (elim beside [ inl below ↦ inr (omega arith) | inr above ↦ inl (omega arith) ]))

  handed_apart : (bytes : ByteMap) (i : ℕ) (slot : Slot) (form : Form) (x : ℕ) → IsKnown image site i slot form
      → base ≤ x → x < end → handed bytes i slot form x ≡ bytes x
  handed_apart bytes i slot MutableArray x known low up = array_apart bytes i slot x known.beside low up
  handed_apart bytes i slot form x known low up = refl

  handed_stays : (bytes : ByteMap) (i : ℕ) (slot : Slot) (form : Form) → AreBytes bytes
      → AreBytes (handed bytes i slot form)
  handed_stays bytes i slot MutableArray are =
      numbers_stay bytes (element_bytes slot.param.kind) (site.pointers i) (outcome_at bytes slot) are
  handed_stays bytes i slot form are = are

  handed_data : (bytes : ByteMap) (i : ℕ) (slot : Slot) (form : Form) → IsReady image site bytes i slot form
      → SameData bytes (handed bytes i slot form)
  handed_data bytes i slot MutableArray ready x =
      let n = element_bytes slot.param.kind in
      is_some-with_numbers bytes n (site.pointers i) (outcome_at bytes slot)
      (subst (λ k. AreData (site.pointers i) (site.pointers i + n * k) bytes)
      (sym (outcome_count bytes slot)) ready.array) x
  handed_data bytes i slot form ready x = refl

  pub all_handed_apart : (bytes : ByteMap) (i : ℕ) (slots : List Slot) (x : ℕ) → AreKnown image site i slots
      → base ≤ x → x < end → all_handed bytes i slots x ≡ bytes x
  all_handed_apart bytes i [] x known low up = refl
  all_handed_apart bytes i (slot ∷ slots) x known low up =
      all_handed_apart (handed bytes i slot slot.param.form) (i + 1) slots x known.1 low up
      ∙ handed_apart bytes i slot slot.param.form x known.0 low up

  -- What is handed back is what the slots hold at the beginning.

  module _ (old new : ByteMap) (same : (x : ℕ) → base ≤ x → x < end → new x ≡ old x) where
    one_same : (i : ℕ) (slot : Slot) (form : Form) → IsKnown image site i slot form
        → array_in base new form slot ≡ array_in base old form slot
    one_same i slot MutableArray known =
        ap (λ (vs : List ℕ). vs ∷ [])
        (numbers_same old new (element_bytes slot.param.kind) (base + slot.offset) slot.param.length
        (λ x l h. same x (omega arith) (omega arith)))
    one_same i slot form known = refl

    arrays_same : (i : ℕ) (slots : List Slot) → AreKnown image site i slots
        → arrays_in base new slots ≡ arrays_in base old slots
    arrays_same i [] known = refl
    arrays_same i (slot ∷ slots) known =
        ap₂ (λ (x xs : List (List ℕ)). x ++ xs) (one_same i slot slot.param.form known.0)
        (arrays_same (i + 1) slots known.1)

  one_handed : (bytes : ByteMap) (i : ℕ) (slot : Slot) (form : Form) (rest : List (List ℕ))
      → with_array site bytes i slot form (array_in base bytes form slot ++ rest) ≡ handed bytes i slot form
  one_handed bytes i slot SingleWord rest = refl
  one_handed bytes i slot form rest = refl

  one_behind : (bytes : ByteMap) (slot : Slot) (form : Form) (rest : List (List ℕ))
      → arrays_behind form (array_in base bytes form slot ++ rest) ≡ rest
  one_behind bytes slot SingleWord rest = refl
  one_behind bytes slot form rest = refl

  pub all_handed_are : (bytes : ByteMap) (i : ℕ) (slots : List Slot) → AreKnown image site i slots
      → all_handed bytes i slots ≡ with_arrays site bytes i slots (arrays_in base bytes slots)
  all_handed_are bytes i [] known = refl
  all_handed_are bytes i (slot ∷ slots) known =
      let form = slot.param.form in
      let next = handed bytes i slot form in
      let rest = arrays_in base bytes slots in
      all_handed_are next (i + 1) slots known.1
      ∙ ap (λ (arrays : List (List ℕ)). with_arrays site next (i + 1) slots arrays)
      (arrays_same bytes next (λ x low up. handed_apart bytes i slot form x known.0 low up) (i + 1) slots known.1)
      ∙ ap₂ (λ (b : ByteMap) (arrays : List (List ℕ)). with_arrays site b (i + 1) slots arrays)
      (sym (one_handed bytes i slot form rest)) (sym (one_behind bytes slot form rest))

  handed_here : (pace : Pace) (p behind i : ℕ) (slots : List Slot) → i + length slots ≡ length image.slots
      → AreKnown image site i slots → Placed code p (results_code image pace behind i slots)
      → CopierStands code p (length (results_code image pace behind i slots) + behind) (copier_of image pace)
      → RunsHere z p (outputs_steps image pace site.pointers i slots) (results_code image pace behind i slots)
      (ArgumentsBegin image site (λ bytes. AreReady image site bytes i slots))
      (HandsBack (λ s. all_handed s.bytes i slots))
  handed_here pace p behind i [] count known stands shared =
      here z stands (no_code z (λ s begins. record { bytes = refl; others = λ q none. refl }))
  handed_here pace p behind i (slot ∷ slots) count known stands shared =
      let form = slot.param.form in
      let rest = results_code image pace behind (i + 1) slots in
      let one = copy_out_code image pace (length rest + behind) i slot form in
      let later = behind_first code p one rest behind (copier_of image pace) shared in
      then_here z {xs = one} {ys = rest}
      (weaken_here z {P' = ArgumentsBegin image site (λ bytes. AreReady image site bytes i (slot ∷ slots))}
      {R' = HandsBack (λ s. handed s.bytes i slot form)}
      (output_here pace p (length rest + behind) i slot form known.0 (Placed-left code p one rest stands) later)
      (λ s begins. record {
        stack = begins.stack;
        bytes = begins.bytes;
        there = begins.there;
        ready = begins.ready.0;
      })
      (λ s t begins takes. takes))
      (handed_here pace (p + 4 * length one) behind (i + 1) slots (omega arith) known.1
      (Placed-right code p one rest stands) later)
      (λ s t begins takes.
      let same = handed_data s.bytes i slot form begins.ready.0 in
      record {
        stack = (same_beside copying_registers t.regs s.regs takes.others (2 ∷ []) refl).0 ∙ begins.stack;
        bytes = subst AreBytes (sym takes.bytes) (handed_stays s.bytes i slot form begins.bytes);
        there = λ x l h. ap (λ (b : ByteMap). is_some (b x)) takes.bytes ∙ same x ∙ begins.there x l h;
        ready = subst (λ (b : ByteMap). AreReady image site b (i + 1) slots) (sym takes.bytes)
            (stay_ready image site s.bytes (handed s.bytes i slot form)
            (λ x low up. handed_apart s.bytes i slot form x known.0 (omega arith) up) same
            (i + 1) slots begins.ready.1);
      })
      (λ s t u begins takes more. record {
        bytes = more.bytes ∙ ap (λ (b : ByteMap). all_handed b (i + 1) slots) takes.bytes;
        others = λ q none. more.others q none ∙ takes.others q none;
      })

  -- the outcome of each, as the slots hold it at the beginning
  pub results_here : (pace : Pace) (p behind : ℕ) → AreKnown image site 0 image.slots
      → Placed code p (results_code image pace behind 0 image.slots)
      → CopierStands code p (length (results_code image pace behind 0 image.slots) + behind) (copier_of image pace)
      → RunsHere z p (outputs_steps image pace site.pointers 0 image.slots) (results_code image pace behind 0 image.slots)
      (ArgumentsBegin image site (λ bytes. AreReady image site bytes 0 image.slots))
      (HandsBack (λ s. with_arrays site s.bytes 0 image.slots (arrays_in base s.bytes image.slots)))
  results_here pace p behind known stands shared =
      weaken_here z (handed_here pace p behind 0 image.slots (omega arith) known stands shared)
      (λ s begins. begins)
      (λ s t begins takes. record {
        bytes = takes.bytes ∙ all_handed_are s.bytes 0 image.slots known;
        others = takes.others;
      })
