-- How a section's code hangs on where the copier stands: not at all in its length, and otherwise as far as addresses
-- go.
use Rattle.std.proofs.Common.{◌≡◌, ℕ, ◌+◌, ◌*◌, ◌/◌, ◌%◌, ◌^◌, Bool, true, false, if◌then◌else◌, List, [], ◌∷◌, ◌++◌, length}
use Rattle.std.proofs.Common.{Option, Some, None, refl, ap, ◌∙◌, arith, length-append}
use Rattle.linked_calls.proofs.Below.{argument_code, array_code, ArgumentIn, code_of, copied_code, copied_out_code}
use Rattle.linked_calls.proofs.Below.{copy_out_code, element_bytes, elements_code, Fields, Form, Instr, Kind}
use Rattle.linked_calls.proofs.Below.{MutableArray, Section, SingleWord, Slot}
use Rattle.linked_calls.proofs.CopyElements.{element_code}
use Rattle.linked_calls.proofs.MovedBytes.{goes_as_it_is}
use Rattle.linked_calls.specs.Below.{Jump}
use Rattle.linked_calls.specs.FunctionCode.{bound_code, called_code, copier_of, goes_by_call, in_round}
use Rattle.linked_calls.specs.FunctionCode.{places_in_code, places_out_code}
use Rattle.linked_calls.specs.Sections.{CodeIsPlaced, section_code}
use Rattle.linked_calls.specs.declared.pace.Pace.{Pace}
use Rattle.linked_calls.specs.declared.round.Round.{Round}
use Rattle.linked_calls.specs.declared.section.Section.TheVariants.{ArrayOut}

-- The same code.

module _ (image : Fields) (pace : Pace) where
  module _ (m n : ℕ) (same : m % 2 ^ 32 ≡ n % 2 ^ 32) where
    called_same : (round : Round) (kind : Kind) (count : ℕ) → called_code round m kind count ≡ called_code round n kind count
    called_same round kind count =
        let bytes = element_bytes kind in
        let rest = elements_code (copied_out_code kind) bytes 0 (count % in_round round kind) in
        let bound = bound_code (bytes * (in_round round kind * (count / in_round round kind))) in
        let halves : (2 * (length rest + m) + 2) % 2 ^ 20 ≡ (2 * (length rest + n) + 2) % 2 ^ 20 = omega arith in
        ap (λ h. bound ++ Jump 30 h ∷ rest) halves

    array_same : (copier : Option Round) (inward : Bool) (kind : Kind) (count : ℕ)
        → array_code pace copier m (element_code inward kind) (goes_as_it_is inward kind) kind count
        ≡ array_code pace copier n (element_code inward kind) (goes_as_it_is inward kind) kind count
    array_same None inward kind count = refl
    array_same (Some round) inward kind count =
        ap (λ (code : List Instr). if goes_by_call round (goes_as_it_is inward kind) kind count then code
        else copied_code pace (element_code inward kind) kind count) (called_same round kind count)

    argument_same : (i : ℕ) (slot : Slot) (form : Form)
        → argument_code image pace m i slot form ≡ argument_code image pace n i slot form
    argument_same i slot SingleWord = refl
    argument_same i slot form =
        ap (λ (code : List Instr). places_in_code image i slot ++ code)
        (array_same (copier_of image pace) true slot.param.kind slot.param.length)

    output_same : (i : ℕ) (slot : Slot) (form : Form)
        → copy_out_code image pace m i slot form ≡ copy_out_code image pace n i slot form
    output_same i slot MutableArray =
        ap (λ (code : List Instr). places_out_code image i slot ++ code)
        (array_same (copier_of image pace) false slot.param.kind slot.param.length)
    output_same i slot form = refl

    pub section_same : (section : Section) → section_code image pace m section ≡ section_code image pace n section
    section_same (ArgumentIn i slot) = argument_same i slot slot.param.form
    section_same (ArrayOut i slot) = output_same i slot slot.param.form
    section_same section = refl

  pub code_same : (m n : ℕ) → m % 2 ^ 32 ≡ n % 2 ^ 32 → (sections : List Section)
      → code_of image pace m sections ≡ code_of image pace n sections
  code_same m n same [] = refl
  code_same m n same (section ∷ sections) =
      let rest = code_of image pace n sections in
      ap (λ (xs : List Instr). section_code image pace (length xs + m) section ++ xs) (code_same m n same sections)
      ∙ ap (λ (xs : List Instr). xs ++ rest)
      (section_same (length rest + m) (length rest + n) (omega arith) section)

  -- The same length.

  called_length : (m n : ℕ) (round : Round) (kind : Kind) (count : ℕ)
      → length (called_code round m kind count) ≡ length (called_code round n kind count)
  called_length m n round kind count = omega (arith, length-append {A = Instr})

  array_length : (m n : ℕ) (copier : Option Round) (inward : Bool) (kind : Kind) (count : ℕ)
      → length (array_code pace copier m (element_code inward kind) (goes_as_it_is inward kind) kind count)
      ≡ length (array_code pace copier n (element_code inward kind) (goes_as_it_is inward kind) kind count)
  array_length m n None inward kind count = refl
  array_length m n (Some round) inward kind count = by (goes_by_call round (goes_as_it_is inward kind) kind count)
    where
      by : (b : Bool)
          → length (if b then called_code round m kind count else copied_code pace (element_code inward kind) kind count)
          ≡ length (if b then called_code round n kind count else copied_code pace (element_code inward kind) kind count)
      by true = called_length m n round kind count
      by false = refl

  behind_places : (places one other : List Instr) → length one ≡ length other
      → length (places ++ one) ≡ length (places ++ other)
  behind_places places one other same = omega (arith, length-append places one, length-append places other)

  pub section_length : (m n : ℕ) (section : Section)
      → length (section_code image pace m section) ≡ length (section_code image pace n section)
  section_length m n (ArgumentIn i slot) = by slot.param.form
    where
      by : (form : Form) → length (argument_code image pace m i slot form) ≡ length (argument_code image pace n i slot form)
      by SingleWord = refl
      by form = behind_places (places_in_code image i slot) _ _
          (array_length m n (copier_of image pace) true slot.param.kind slot.param.length)
  section_length m n (ArrayOut i slot) = by slot.param.form
    where
      by : (form : Form) → length (copy_out_code image pace m i slot form) ≡ length (copy_out_code image pace n i slot form)
      by MutableArray = behind_places (places_out_code image i slot) _ _
          (array_length m n (copier_of image pace) false slot.param.kind slot.param.length)
      by form = refl
  section_length m n section = refl

  pub code_length : (m n : ℕ) (sections : List Section)
      → length (code_of image pace m sections) ≡ length (code_of image pace n sections)
  code_length m n [] = refl
  code_length m n (section ∷ sections) =
      let one = code_of image pace m sections in
      let other = code_of image pace n sections in
      omega (
        arith,
        length-append (section_code image pace (length one + m) section) one,
        length-append (section_code image pace (length other + n) section) other,
        section_length (length one + m) (length other + n) section,
        code_length m n sections,
      )

pub code_is_placed : CodeIsPlaced
code_is_placed image pace m n = record {
  same = λ same section. section_same image pace m n same section;
  all_same = λ same sections. code_same image pace m n same sections;
  count = λ section. section_length image pace m n section;
  all_count = λ sections. code_length image pace m n sections;
}
