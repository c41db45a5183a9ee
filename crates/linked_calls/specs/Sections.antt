-- The code of a function in sections, each with one purpose: what its text says of them, and how many steps they
-- make.
use Rattle.std.specs.Prelude.{◌≡◌, ℕ, ◌+◌, ◌*◌, ◌/◌, ◌%◌, ◌^◌, ◌==◌, Bool, true, nat_lt, List, [], ◌∷◌, ◌++◌}
use Rattle.std.specs.Prelude.{length, map, sum, Option, Some, None, if◌then◌else◌}
use Rattle.linked_calls.specs.Below.{constant_code, element_bytes, Fields, FixedArray, Form, Instr, JumpRegister}
use Rattle.linked_calls.specs.Below.{Kind, MutableArray, Register, SingleWord, Slot, Sub, Uint32, Uint8}
use Rattle.linked_calls.specs.Convention.{link_register, stack_register}
use Rattle.linked_calls.specs.Convention.{scratch_registers}
use Rattle.linked_calls.specs.FunctionCode.{above_frame, bound_code, frame_room, room_of, stores_code, loads_code}
use Rattle.linked_calls.specs.Paces.{few_elements, per_round, times}
use Rattle.compilation.specs.Blank.{Blank}
use Rattle.compilation.specs.Needs.{Needs}
use Rattle.linked_calls.specs.FunctionCode.{above_code, added, address_code, are_few, argument_code, blank_code}
use Rattle.linked_calls.specs.FunctionCode.{clear_registers_code, copied_in_code, copied_out_code, copier_code}
use Rattle.linked_calls.specs.FunctionCode.{copier_of, copy_out_code, down_code, elements_code, first_argument}
use Rattle.linked_calls.specs.FunctionCode.{goes_by_call, goes_in_as_it_is, in_round, is_skipped, kept_of}
use Rattle.linked_calls.specs.FunctionCode.{lowered_code, needed_of, onward_code, places_in_code, places_out_code}
use Rattle.linked_calls.specs.FunctionCode.{result_code, until_equal, wipe_code, word_code}
use Rattle.linked_calls.specs.declared.pace.Pace.{Pace}
use Rattle.linked_calls.specs.declared.pace.Pace.TheVariants.{Fast, Small}
use Rattle.linked_calls.specs.declared.round.Round.{Round}
use Rattle.linked_calls.specs.declared.section.Section.{Section}
use Rattle.linked_calls.specs.declared.section.Section.TheVariants.{RoomAboveFrame, SavedRegisters, ArgumentRegisters}
use Rattle.linked_calls.specs.declared.section.Section.TheVariants.{FrameBase, ClearedFrame, LoweredStack, BlankWord}
use Rattle.linked_calls.specs.declared.section.Section.TheVariants.{ArgumentIn, ResultOut}
use Rattle.linked_calls.specs.declared.section.Section.TheVariants.{ArrayOut, FrameTop, RestoredRegisters}
use Rattle.linked_calls.specs.declared.section.Section.TheVariants.{CallersStack, WipedRoom, ClearedRegisters, Copier}
use Rattle.linked_calls.specs.declared.section.Section.TheVariants.{Return, SharedTail}

-- the sections of a frame that is zeroed whole, where it has room
abbrev pub zeroed_sections : ℕ → List Section
zeroed_sections room = if room == 0 then [] else FrameBase ∷ ClearedFrame ∷ []

-- those of one of which some words are zeroed
abbrev pub partly_sections : ℕ → List ℕ → List Section
partly_sections room offsets = if room == 0 then [] else LoweredStack ∷ map BlankWord offsets

abbrev pub frame_sections : Pace → ℕ → Blank → List Section
frame_sections pace room None = zeroed_sections room
frame_sections pace room (Some offsets) =
    if are_few pace room offsets then partly_sections room offsets else zeroed_sections room

-- that of an argument that has to stand in its slot
abbrev pub argument_section : List Bool → ℕ → Slot → List Section
argument_section spared i slot = if is_skipped spared i slot then [] else ArgumentIn i slot ∷ []

-- those of all arguments from the i-th on
abbrev pub argument_sections : List Bool → ℕ → List Slot → List Section
argument_sections spared i [] = []
argument_sections spared i (slot ∷ slots) =
    argument_section spared i slot ++ argument_sections spared (i + 1) slots

-- before the body
abbrev pub enter_sections : Fields → Needs → Pace → List Section
enter_sections image needs pace =
    RoomAboveFrame ∷ SavedRegisters ∷ ArgumentRegisters ∷ frame_sections pace (frame_room image) needs.blank
    ++ argument_sections needs.spared 0 image.slots

-- only an array that may be changed goes back
abbrev pub array_section : ℕ → Slot → Form → List Section
array_section i slot SingleWord = []
array_section i slot FixedArray = []
array_section i slot MutableArray = ArrayOut i slot ∷ []

-- of the arguments from the i-th on
abbrev pub array_sections : ℕ → List Slot → List Section
array_sections i [] = []
array_sections i (slot ∷ slots) = array_section i slot slot.param.form ++ array_sections (i + 1) slots

-- the tail
abbrev pub tail_sections : List Section
tail_sections = WipedRoom ∷ ClearedRegisters ∷ Return ∷ []

-- that of the function itself
abbrev pub own_tail_sections : Pace → List Section
own_tail_sections Fast = tail_sections
own_tail_sections Small = []

-- behind the body
abbrev pub leave_sections : Fields → Pace → List Section
leave_sections image pace =
    ResultOut ∷ array_sections 0 image.slots
    ++ FrameTop ∷ RestoredRegisters ∷ CallersStack ∷ own_tail_sections pace

-- the copier, where the function has one
abbrev pub copier_sections : Option Round → List Section
copier_sections None = []
copier_sections (Some round) = Copier round ∷ []

-- behind all others: the copier, or on to the shared tail
abbrev pub last_sections : Fields → Pace → List Section
last_sections image Fast = copier_sections (copier_of image Fast)
last_sections image Small = SharedTail ∷ []

-- of a section that stands so many instructions before the copier. How far ahead the shared tail is, is left for the
-- linker
abbrev pub section_code : Fields → Pace → ℕ → Section → List Instr
section_code image pace behind RoomAboveFrame = above_code (above_frame image)
section_code image pace behind SavedRegisters = stores_code stack_register 0 (kept_of image)
section_code image pace behind ArgumentRegisters = stores_code stack_register (first_argument image) (needed_of image)
section_code image pace behind FrameBase = constant_code 5 (frame_room image) ++ Register Sub 5 stack_register 5 ∷ []
section_code image pace behind ClearedFrame = until_equal stack_register 5 down_code
section_code image pace behind LoweredStack = lowered_code (frame_room image)
section_code image pace behind (BlankWord offset) = blank_code offset
section_code image pace behind (ArgumentIn i slot) = argument_code image pace behind i slot slot.param.form
section_code image pace behind ResultOut = result_code image.returned
section_code image pace behind (ArrayOut i slot) = copy_out_code image pace behind i slot slot.param.form
section_code image pace behind FrameTop = address_code 5 (frame_room image)
section_code image pace behind RestoredRegisters = loads_code 5 0 (kept_of image)
section_code image pace behind CallersStack = added 5 (above_frame image) ∷ []
section_code image pace behind WipedRoom = wipe_code (room_of image)
section_code image pace behind ClearedRegisters = clear_registers_code scratch_registers
section_code image pace behind Return = JumpRegister 0 link_register 0 ∷ []
section_code image pace behind (Copier round) = copier_code round
section_code image pace behind SharedTail = onward_code 0 ∷ []

-- of sections of which the last stands so many instructions before the copier
abbrev pub code_of : Fields → Pace → ℕ → List Section → List Instr
code_of image pace behind [] = []
code_of image pace behind (section ∷ sections) =
    let rest = code_of image pace behind sections in
    section_code image pace (length rest + behind) section ++ rest

-- Of where the copier stands the instructions of a section hang on no more than addresses do, and how many they are
-- does not hang on it.
pub record IsCodePlaced (image : Fields) (pace : Pace) (m n : ℕ) : Type 0 where
  pub same : m % 2 ^ 32 ≡ n % 2 ^ 32 → (section : Section)
      → section_code image pace m section ≡ section_code image pace n section
  pub all_same : m % 2 ^ 32 ≡ n % 2 ^ 32 → (sections : List Section)
      → code_of image pace m sections ≡ code_of image pace n sections
  pub count : (section : Section)
      → length (section_code image pace m section) ≡ length (section_code image pace n section)
  pub all_count : (sections : List Section)
      → length (code_of image pace m sections) ≡ length (code_of image pace n sections)

abbrev pub CodeIsPlaced : Type 0
CodeIsPlaced = (image : Fields) (pace : Pace) (m n : ℕ) → IsCodePlaced image pace m n

-- Steps. A loop makes its steps once for each block, or for each round of elements. Those of the copier hang on
-- whether the array's pointer is a multiple of 4: `pointers` is where each argument points.

-- for each block of 16 bytes its stores, x2 moved and the branch
abbrev pub blocks_steps : ℕ → ℕ
blocks_steps room = 6 * (room / 16)

-- the elements, x5 and x6 moved and the branch in each round, and the elements that are left
-- so many rounds of a loop
abbrev pub loop_steps : (ℕ → List Instr) → Kind → ℕ → ℕ → ℕ
loop_steps code kind count rounds = (length (elements_code code (element_bytes kind) 0 count) + 3) * rounds

abbrev pub rounds_steps : Pace → (ℕ → List Instr) → Kind → ℕ → ℕ
rounds_steps pace code kind count =
    let bytes = element_bytes kind in
    let round = per_round pace kind in
    length (bound_code (bytes * (round * (count / round)))) + loop_steps code kind round (count / round)
    + length (elements_code code bytes 0 (count % round))

abbrev pub copied_steps : Pace → (ℕ → List Instr) → Kind → ℕ → ℕ
copied_steps pace code kind count =
    if nat_lt count (few_elements pace kind) then length (elements_code code (element_bytes kind) 0 count)
    else rounds_steps pace code kind count

-- the copier's test and so many rounds of words; or the bytes, and the jump over the words
abbrev pub copier_steps : Round → ℕ → ℕ → ℕ
copier_steps round rounds pointer =
    3 + (if pointer % 4 == 0 then loop_steps (copied_out_code Uint32) Uint32 (times round) rounds
    else loop_steps (copied_out_code Uint8) Uint8 1 (4 * (times round * rounds)) + 1)

-- the call, the copier and the jump back, and the elements that are no whole round
abbrev pub called_steps : Round → Kind → ℕ → ℕ → ℕ
called_steps round kind count pointer =
    let bytes = element_bytes kind in
    length (bound_code (bytes * (in_round round kind * (count / in_round round kind))))
    + (1 + (copier_steps round (count / in_round round kind) pointer + 1))
    + length (elements_code (copied_out_code kind) bytes 0 (count % in_round round kind))

abbrev pub array_steps : Pace → Option Round → (ℕ → List Instr) → Bool → Kind → ℕ → ℕ → ℕ
array_steps pace None code goes kind count pointer = copied_steps pace code kind count
array_steps pace (Some round) code goes kind count pointer =
    if goes_by_call round goes kind count then called_steps round kind count pointer
    else copied_steps pace code kind count

abbrev pub taken_steps : Fields → Pace → ℕ → Slot → ℕ → ℕ
taken_steps image pace i slot pointer =
    let kind = slot.param.kind in
    let goes = goes_in_as_it_is kind in
    length (places_in_code image i slot)
    + array_steps pace (copier_of image pace) (copied_in_code kind) goes kind slot.param.length pointer

abbrev pub argument_steps : Fields → Pace → (ℕ → ℕ) → ℕ → Slot → Form → ℕ
argument_steps image pace pointers i slot SingleWord = length (word_code image i slot)
argument_steps image pace pointers i slot FixedArray = taken_steps image pace i slot (pointers i)
argument_steps image pace pointers i slot MutableArray = taken_steps image pace i slot (pointers i)

abbrev pub handed_steps : Fields → Pace → ℕ → Slot → ℕ → ℕ
handed_steps image pace i slot pointer =
    let kind = slot.param.kind in
    length (places_out_code image i slot)
    + array_steps pace (copier_of image pace) (copied_out_code kind) true kind slot.param.length pointer

abbrev pub section_steps : Fields → Pace → (ℕ → ℕ) → Section → ℕ
section_steps image pace pointers ClearedFrame = blocks_steps (frame_room image)
section_steps image pace pointers (ArgumentIn i slot) = argument_steps image pace pointers i slot slot.param.form
section_steps image pace pointers (ArrayOut i slot) = handed_steps image pace i slot (pointers i)
section_steps image pace pointers WipedRoom = blocks_steps (room_of image)
section_steps image pace pointers section = length (section_code image pace 0 section)

-- on to the shared tail, and those of the tail
abbrev pub onward_steps : Fields → Pace → ℕ
onward_steps image Fast = 0
onward_steps image Small = 1 + sum (map (section_steps image Small (λ i. 0)) tail_sections)

-- of all that stands around the body
abbrev pub around_steps : Fields → Needs → Pace → (ℕ → ℕ) → ℕ
around_steps image needs pace pointers =
    sum (map (section_steps image pace pointers) (enter_sections image needs pace ++ leave_sections image pace))
    + onward_steps image pace
