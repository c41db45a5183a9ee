-- How many steps the sections make, before the body and behind it.
use Rattle.std.specs.List.{sum_by}
use Rattle.std.proofs.Common.{◌≡◌, ℕ, ◌+◌, ◌==◌, Bool, true, false, if◌then◌else◌, List, [], ◌∷◌, ◌++◌, length}
use Rattle.std.proofs.Common.{refl, sym, ap, ap₂, ◌∙◌, arith, length-append, map, Some, None}
use Rattle.std.proofs.lemmas.List.Sums.{sum_by-cons, sum_by-append, sum-map}
use Rattle.linked_calls.proofs.Below.{above_code, address_code, argument_sections, first_argument, argument_steps, ArgumentIn, array_section, array_sections}
use Rattle.linked_calls.proofs.Below.{handed_steps, CallersStack, ClearedFrame}
use Rattle.linked_calls.proofs.Below.{constant_code, Fields, FixedArray, Form, frame_room, frame_sections, frame_steps}
use Rattle.linked_calls.proofs.Below.{FrameBase, FrameTop, leave_sections, MutableArray, Register, RestoredRegisters}
use Rattle.linked_calls.proofs.Below.{result_code, ResultOut, room_of, blocks_steps, Section, section_steps, SingleWord, Slot}
use Rattle.linked_calls.proofs.Below.{Sub}
use Rattle.linked_calls.specs.declared.section.Section.TheVariants.{RoomAboveFrame, SavedRegisters, ArgumentRegisters}
use Rattle.linked_calls.proofs.Below.{above_frame, kept_of, needed_of}
use Rattle.linked_calls.proofs.Between.{enter_steps, leave_steps}
use Rattle.linked_calls.proofs.Parts.{loads_length, stores_length}
use Rattle.linked_calls.specs.FunctionCode.{are_few, blanks_code, is_skipped, lowered_code, partly_code}
use Rattle.linked_calls.specs.Sections.{argument_section, onward_steps, own_tail_sections, partly_sections}
use Rattle.linked_calls.specs.Sections.{zeroed_sections}
use Rattle.linked_calls.specs.declared.section.Section.TheVariants.{BlankWord, LoweredStack}
use Rattle.compilation.specs.Blank.{Blank}
use Rattle.compilation.specs.Needs.{Needs}
use Rattle.linked_calls.specs.declared.pace.Pace.{Pace}
use Rattle.linked_calls.specs.declared.pace.Pace.TheVariants.{Fast, Small}

-- of a frame in which the words that have to be are zeroed
abbrev pub steps_for : Pace → ℕ → Blank → ℕ
steps_for pace room None = frame_steps room
steps_for pace room (Some offsets) =
    if are_few pace room offsets then length (partly_code room offsets) else frame_steps room

-- behind the body: the registers restored
abbrev pub restored_steps : Fields → ℕ
restored_steps image = length (address_code 5 (frame_room image)) + length (kept_of image) + 1

-- the room wiped and the others cleared, but for the way back
abbrev pub cleared_steps : Fields → ℕ
cleared_steps image = blocks_steps (room_of image) + 14

-- on to the shared tail
abbrev pub jump_steps : Pace → ℕ
jump_steps Fast = 0
jump_steps Small = 1

module _ (image : Fields) (pace : Pace) (pointers : ℕ → ℕ) where
  abbrev steps_of : List Section → ℕ
  steps_of sections = sum_by (section_steps image pace pointers) sections

  abbrev room : ℕ
  room = frame_room image

  -- of an argument that has to stand in its slot
  abbrev pub needed_steps : List Bool → ℕ → Slot → ℕ
  needed_steps spared i slot =
      if is_skipped spared i slot then 0 else argument_steps image pace pointers i slot slot.param.form

  -- of all arguments from the i-th on
  abbrev pub arguments_steps : List Bool → ℕ → List Slot → ℕ
  arguments_steps spared i [] = 0
  arguments_steps spared i (slot ∷ slots) = needed_steps spared i slot + arguments_steps spared (i + 1) slots

  -- of an array that is handed back
  abbrev pub output_steps : ℕ → Slot → Form → ℕ
  output_steps i slot SingleWord = 0
  output_steps i slot FixedArray = 0
  output_steps i slot MutableArray = handed_steps image pace i slot (pointers i)

  abbrev pub outputs_steps : ℕ → List Slot → ℕ
  outputs_steps i [] = 0
  outputs_steps i (slot ∷ slots) = output_steps i slot slot.param.form + outputs_steps (i + 1) slots

  -- Before the body.

  zeroed_steps_by : (b : Bool) → steps_of (if b then [] else FrameBase ∷ ClearedFrame ∷ [])
      ≡ (if b then 0 else length (constant_code 5 room) + 1 + blocks_steps room)
  zeroed_steps_by true = refl
  zeroed_steps_by false =
      let e = length-append (constant_code 5 room) (Register Sub 5 2 5 ∷ []) in
      let steps : 0 + length (constant_code 5 room ++ Register Sub 5 2 5 ∷ []) + blocks_steps room
      ≡ length (constant_code 5 room) + 1 + blocks_steps room = omega arith in
      steps

  blanks_steps : (offsets : List ℕ) → steps_of (map BlankWord offsets) ≡ length (blanks_code offsets)
  blanks_steps [] = refl
  blanks_steps (offset ∷ offsets) =
      let more : 1 + length (blanks_code offsets) ≡ length (blanks_code (offset ∷ offsets)) = omega arith in
      sum_by-cons (section_steps image pace pointers) (BlankWord offset) (map BlankWord offsets)
      ∙ (ap (λ n. 1 + n) (blanks_steps offsets) ∙ more)

  -- those of a frame of which some words are zeroed are as many as its instructions
  partly_steps : (offsets : List ℕ) (b : Bool) → steps_of (if b then [] else LoweredStack ∷ map BlankWord offsets)
      ≡ length (if b then [] else lowered_code room ++ blanks_code offsets)
  partly_steps offsets true = refl
  partly_steps offsets false =
      sum_by-cons (section_steps image pace pointers) LoweredStack (map BlankWord offsets)
      ∙ (ap (λ n. length (lowered_code room) + n) (blanks_steps offsets)
      ∙ sym (length-append (lowered_code room) (blanks_code offsets)))

  frame_steps_by : (offsets : List ℕ) (few : Bool)
      → steps_of (if few then partly_sections room offsets else zeroed_sections room)
      ≡ (if few then length (partly_code room offsets) else frame_steps room)
  frame_steps_by offsets true = partly_steps offsets (room == 0)
  frame_steps_by offsets false = zeroed_steps_by (room == 0)

  frame_steps_are : (blank : Blank) → steps_of (frame_sections pace room blank) ≡ steps_for pace room blank
  frame_steps_are None = zeroed_steps_by (room == 0)
  frame_steps_are (Some offsets) = frame_steps_by offsets (are_few pace room offsets)

  needed_steps_are : (i : ℕ) (slot : Slot) (skipped : Bool)
      → steps_of (if skipped then [] else ArgumentIn i slot ∷ [])
      ≡ (if skipped then 0 else argument_steps image pace pointers i slot slot.param.form)
  needed_steps_are i slot true = refl
  needed_steps_are i slot false =
      let one : argument_steps image pace pointers i slot slot.param.form + 0
      ≡ argument_steps image pace pointers i slot slot.param.form = omega arith in
      sum_by-cons (section_steps image pace pointers) (ArgumentIn i slot) [] ∙ one

  arguments_steps_are : (spared : List Bool) (i : ℕ) (slots : List Slot)
      → steps_of (argument_sections spared i slots) ≡ arguments_steps spared i slots
  arguments_steps_are spared i [] = refl
  arguments_steps_are spared i (slot ∷ slots) =
      sum_by-append (section_steps image pace pointers) (argument_section spared i slot)
      (argument_sections spared (i + 1) slots)
      ∙ ap₂ (λ m n. m + n) (needed_steps_are i slot (is_skipped spared i slot))
      (arguments_steps_are spared (i + 1) slots)

  -- x2 moved, and one for each register that is stored
  abbrev pub entry_steps : ℕ
  entry_steps = length (above_code (above_frame image)) + (length (kept_of image) + length (needed_of image))

  -- the entry's, and then the frame's and the arguments'
  pub enter_steps_are : (needs : Needs)
      → enter_steps image needs pace pointers
      ≡ entry_steps + steps_for pace room needs.blank + arguments_steps needs.spared 0 image.slots
  enter_steps_are needs =
      let entry = RoomAboveFrame ∷ SavedRegisters ∷ ArgumentRegisters ∷ [] in
      let framed = frame_sections pace room needs.blank in
      let arguments = argument_sections needs.spared 0 image.slots in
      let kept = stores_length 2 0 (kept_of image) in
      let passed = stores_length 2 (first_argument image) (needed_of image) in
      let counted : steps_of entry ≡ entry_steps = omega arith in
      sum-map (section_steps image pace pointers) (entry ++ framed ++ arguments)
      ∙ sum_by-append (section_steps image pace pointers) (entry ++ framed) arguments
      ∙ ap₂ (λ a b. a + b) (sum_by-append (section_steps image pace pointers) entry framed
      ∙ ap₂ (λ a b. a + b) counted (frame_steps_are needs.blank)) (arguments_steps_are needs.spared 0 image.slots)

  -- Behind it.

  array_steps_are : (i : ℕ) (slot : Slot) (form : Form)
      → steps_of (array_section i slot form) ≡ output_steps i slot form
  array_steps_are i slot MutableArray = omega arith
  array_steps_are i slot form = refl

  arrays_steps_are : (i : ℕ) (slots : List Slot) → steps_of (array_sections i slots) ≡ outputs_steps i slots
  arrays_steps_are i [] = refl
  arrays_steps_are i (slot ∷ slots) =
      sum_by-append (section_steps image pace pointers) (array_section i slot slot.param.form) (array_sections (i + 1) slots)
      ∙ ap₂ (λ m n. m + n) (array_steps_are i slot slot.param.form) (arrays_steps_are (i + 1) slots)

  abbrev lasts : Pace → List Section
  lasts pace = FrameTop ∷ RestoredRegisters ∷ CallersStack ∷ own_tail_sections pace

  lasts_steps : (pace' : Pace)
      → steps_of (lasts pace') + onward_steps image pace' ≡ restored_steps image + (jump_steps pace' + cleared_steps image) + 1
  lasts_steps Fast = let kept = loads_length 5 0 (kept_of image) in omega arith
  lasts_steps Small = let kept = loads_length 5 0 (kept_of image) in omega arith

  pub leave_steps_are : leave_steps image pace pointers ≡ length (result_code image.returned) +
      (outputs_steps 0 image.slots + (restored_steps image + (jump_steps pace + cleared_steps image) + 1))
  leave_steps_are =
      let counted = lasts_steps pace in
      let all =
      sum-map (section_steps image pace pointers) (leave_sections image pace)
      ∙ sum_by-cons (section_steps image pace pointers) ResultOut (array_sections 0 image.slots ++ lasts pace)
      ∙ ap (λ n. length (result_code image.returned) + n)
      (sum_by-append (section_steps image pace pointers) (array_sections 0 image.slots) (lasts pace)
      ∙ ap (λ n. n + steps_of (lasts pace)) (arrays_steps_are 0 image.slots)) in
      omega (arith, counted, all)
