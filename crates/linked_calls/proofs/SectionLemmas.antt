-- The sections' code, one after another, is the code before the body and that behind it.
use Rattle.compilation.specs.Blank.{Blank}
use Rattle.compilation.specs.Needs.{Needs}
use Rattle.std.proofs.Common.{◌≡◌, ℕ, ◌+◌, ◌==◌, Bool, true, false, List, [], ◌∷◌, ◌++◌, length, map, refl, sym, ap}
use Rattle.std.proofs.Common.{◌∙◌, ap₂, arith, if◌then◌else◌, length-append, Option, Some, None}
use Rattle.std.proofs.lemmas.List.{append_assoc, append-nil}
use Rattle.linked_calls.proofs.Below.{argument_sections, arguments_code, array_section, array_sections}
use Rattle.linked_calls.proofs.Below.{body_words, CallersStack, ClearedFrame, code_of}
use Rattle.linked_calls.proofs.Below.{constant_code, copy_out_code, down_code, enter_code, enter_sections, Fields, Form}
use Rattle.linked_calls.specs.FunctionCode.{are_few, blank_code, blanks_code, frame_code, lowered_code, partly_code}
use Rattle.linked_calls.specs.FunctionCode.{argument_code, copier_end, copier_of, end_code, from_body}
use Rattle.linked_calls.specs.FunctionCode.{is_skipped, last_code, zeroed_code}
use Rattle.linked_calls.specs.Sections.{argument_section, copier_sections, last_sections, own_tail_sections}
use Rattle.linked_calls.specs.Sections.{partly_sections, section_code, zeroed_sections}
use Rattle.linked_calls.specs.declared.section.Section.TheVariants.{ArgumentIn, ArrayOut, BlankWord, Copier}
use Rattle.linked_calls.specs.declared.section.Section.TheVariants.{LoweredStack}
use Rattle.linked_calls.proofs.Below.{frame_room, frame_sections, FrameBase, FrameTop, function_words, Instr}
use Rattle.linked_calls.proofs.Below.{leave_code, leave_sections, MutableArray, Register, RestoredRegisters}
use Rattle.linked_calls.proofs.Below.{results_code, Section, Slot, stack_register, Sub, until_equal}
use Rattle.linked_calls.proofs.Below.{above_frame, added, address_code, clear_registers_code, JumpRegister, kept_of, loads_code}
use Rattle.linked_calls.proofs.Below.{result_code, room_of, scratch_registers, wipe_code}
use Rattle.linked_calls.specs.Below.{word_of}
use Rattle.linked_calls.specs.declared.pace.Pace.{Pace}
use Rattle.linked_calls.specs.declared.pace.Pace.TheVariants.{Fast, Small}
use Rattle.linked_calls.specs.declared.round.Round.{Round}

code_of_both : (image : Fields) (pace : Pace) (behind : ℕ) (one other : List Section)
    → code_of image pace behind (one ++ other)
    ≡ code_of image pace (length (code_of image pace behind other) + behind) one ++ code_of image pace behind other
code_of_both image pace behind [] other = refl
code_of_both image pace behind (section ∷ one) other =
    let rest = code_of image pace behind other in
    let middle = code_of image pace (length rest + behind) one in
    let more : length (middle ++ rest) + behind ≡ length middle + (length rest + behind) =
    omega (arith, length-append middle rest) in
    ap (λ (xs : List Instr). section_code image pace (length xs + behind) section ++ xs)
    (code_of_both image pace behind one other)
    ∙ (ap (λ n. section_code image pace n section ++ (middle ++ rest)) more
    ∙ sym (append_assoc (section_code image pace (length middle + (length rest + behind)) section) middle rest))

alone_code_of : (image : Fields) (pace : Pace) (behind : ℕ) (section : Section)
    → code_of image pace behind (section ∷ []) ≡ section_code image pace behind section
alone_code_of image pace behind section =
    let none : 0 + behind ≡ behind = omega arith in
    append-nil (section_code image pace (0 + behind) section)
    ∙ ap (λ n. section_code image pace n section) none

-- Before the body.

abbrev base : Instr
base = Register Sub 5 stack_register 5

zeroed_code_of : (image : Fields) (pace : Pace) (behind : ℕ) (empty : Bool)
    → code_of image pace behind (if empty then [] else FrameBase ∷ ClearedFrame ∷ [])
    ≡ (if empty then [] else constant_code 5 (frame_room image) ++ base ∷ until_equal stack_register 5 down_code)
zeroed_code_of image pace behind true = refl
zeroed_code_of image pace behind false =
    let number = constant_code 5 (frame_room image) in
    let blocks = until_equal stack_register 5 down_code in
    append_assoc number (base ∷ []) (blocks ++ [])
    ∙ ap (λ (xs : List Instr). number ++ base ∷ xs) (append-nil blocks)

blanks_code_of : (image : Fields) (pace : Pace) (behind : ℕ) (offsets : List ℕ)
    → code_of image pace behind (map BlankWord offsets) ≡ blanks_code offsets
blanks_code_of image pace behind [] = refl
blanks_code_of image pace behind (offset ∷ offsets) =
    ap (λ (xs : List Instr). blank_code offset ++ xs) (blanks_code_of image pace behind offsets)

partly_code_of : (image : Fields) (pace : Pace) (behind : ℕ) (offsets : List ℕ) (empty : Bool)
    → code_of image pace behind (if empty then [] else LoweredStack ∷ map BlankWord offsets)
    ≡ (if empty then [] else lowered_code (frame_room image) ++ blanks_code offsets)
partly_code_of image pace behind offsets true = refl
partly_code_of image pace behind offsets false =
    ap (λ (xs : List Instr). lowered_code (frame_room image) ++ xs) (blanks_code_of image pace behind offsets)

frame_code_by : (image : Fields) (pace : Pace) (behind : ℕ) (offsets : List ℕ) (few : Bool)
    → code_of image pace behind
    (if few then partly_sections (frame_room image) offsets else zeroed_sections (frame_room image))
    ≡ (if few then partly_code (frame_room image) offsets else zeroed_code (frame_room image))
frame_code_by image pace behind offsets true = partly_code_of image pace behind offsets (frame_room image == 0)
frame_code_by image pace behind offsets false = zeroed_code_of image pace behind (frame_room image == 0)

frame_code_of : (image : Fields) (pace : Pace) (behind : ℕ) (blank : Blank)
    → code_of image pace behind (frame_sections pace (frame_room image) blank) ≡ frame_code pace (frame_room image) blank
frame_code_of image pace behind None = zeroed_code_of image pace behind (frame_room image == 0)
frame_code_of image pace behind (Some offsets) =
    frame_code_by image pace behind offsets (are_few pace (frame_room image) offsets)

needed_code_of : (image : Fields) (pace : Pace) (behind i : ℕ) (slot : Slot) (skipped : Bool)
    → code_of image pace behind (if skipped then [] else ArgumentIn i slot ∷ [])
    ≡ (if skipped then [] else argument_code image pace behind i slot slot.param.form)
needed_code_of image pace behind i slot true = refl
needed_code_of image pace behind i slot false = alone_code_of image pace behind (ArgumentIn i slot)

arguments_code_of : (image : Fields) (pace : Pace) (spared : List Bool) (behind i : ℕ) (slots : List Slot)
    → code_of image pace behind (argument_sections spared i slots) ≡ arguments_code image pace spared behind i slots
arguments_code_of image pace spared behind i [] = refl
arguments_code_of image pace spared behind i (slot ∷ slots) =
    let skipped = is_skipped spared i slot in
    code_of_both image pace behind (argument_section spared i slot) (argument_sections spared (i + 1) slots)
    ∙ ap (λ (rest : List Instr). code_of image pace (length rest + behind) (argument_section spared i slot) ++ rest)
    (arguments_code_of image pace spared behind (i + 1) slots)
    ∙ ap (λ (one : List Instr). one ++ arguments_code image pace spared behind (i + 1) slots)
    (needed_code_of image pace (length (arguments_code image pace spared behind (i + 1) slots) + behind) i slot skipped)

pub enter_code_of : (image : Fields) (needs : Needs) (pace : Pace) (behind : ℕ)
    → code_of image pace behind (enter_sections image needs pace) ≡ enter_code image needs pace behind
enter_code_of image needs pace behind =
    rw (
      code_of_both image pace behind (frame_sections pace (frame_room image) needs.blank)
          (argument_sections needs.spared 0 image.slots),
      arguments_code_of image pace needs.spared behind 0 image.slots,
      frame_code_of image pace (length (arguments_code image pace needs.spared behind 0 image.slots) + behind) needs.blank,
    )
    (simp append_assoc)

-- Behind it.

array_code_of : (image : Fields) (pace : Pace) (behind i : ℕ) (slot : Slot) (form : Form) → slot.param.form ≡ form
    → code_of image pace behind (array_section i slot form) ≡ copy_out_code image pace behind i slot form
array_code_of image pace behind i slot MutableArray is =
    alone_code_of image pace behind (ArrayOut i slot) ∙ ap (copy_out_code image pace behind i slot) is
array_code_of image pace behind i slot form is = refl

arrays_code_of : (image : Fields) (pace : Pace) (behind i : ℕ) (slots : List Slot)
    → code_of image pace behind (array_sections i slots) ≡ results_code image pace behind i slots
arrays_code_of image pace behind i [] = refl
arrays_code_of image pace behind i (slot ∷ slots) =
    code_of_both image pace behind (array_section i slot slot.param.form) (array_sections (i + 1) slots)
    ∙ ap (λ (rest : List Instr). code_of image pace (length rest + behind) (array_section i slot slot.param.form) ++ rest)
    (arrays_code_of image pace behind (i + 1) slots)
    ∙ ap (λ (one : List Instr). one ++ results_code image pace behind (i + 1) slots)
    (array_code_of image pace (length (results_code image pace behind (i + 1) slots) + behind) i slot slot.param.form refl)

abbrev end_sections : Pace → List Section
end_sections pace = FrameTop ∷ RestoredRegisters ∷ CallersStack ∷ own_tail_sections pace

tail_grouped : (a l y w k j : List Instr) → a ++ (l ++ (y ++ (w ++ (k ++ j)))) ≡ (a ++ l ++ y) ++ (w ++ k ++ j)
tail_grouped a l y w k j = simp append_assoc

end_grouped : (a l y : List Instr) → a ++ (l ++ (y ++ [])) ≡ a ++ l ++ y
end_grouped a l y = simp (append_assoc, append-nil {A = Instr})

end_code_of : (image : Fields) (pace : Pace) → code_of image pace 0 (end_sections pace) ≡ end_code image pace
end_code_of image Fast =
    tail_grouped (address_code 5 (frame_room image)) (loads_code 5 0 (kept_of image)) (added 5 (above_frame image) ∷ [])
    (wipe_code (room_of image)) (clear_registers_code scratch_registers) (JumpRegister 0 1 0 ∷ [])
end_code_of image Small =
    end_grouped (address_code 5 (frame_room image)) (loads_code 5 0 (kept_of image)) (added 5 (above_frame image) ∷ [])

leave_grouped : (r rs e : List Instr) → r ++ (rs ++ e) ≡ r ++ rs ++ e
leave_grouped r rs e = simp append_assoc

pub leave_code_of : (image : Fields) (pace : Pace)
    → code_of image pace 0 (leave_sections image pace) ≡ leave_code image pace
leave_code_of image pace =
    let end = end_code image pace in
    let none : length end + 0 ≡ length end = omega arith in
    ap (λ (xs : List Instr). result_code image.returned ++ xs)
    (code_of_both image pace 0 (array_sections 0 image.slots) (end_sections pace)
    ∙ ap (λ (rest : List Instr). code_of image pace (length rest + 0) (array_sections 0 image.slots) ++ rest)
    (end_code_of image pace)
    ∙ ap (λ (one : List Instr). one ++ end)
    (arrays_code_of image pace (length end + 0) 0 image.slots
    ∙ ap (λ n. results_code image pace n 0 image.slots) none))
    ∙ leave_grouped (result_code image.returned) (results_code image pace (length end) 0 image.slots) end

-- The last.

copier_code_of : (image : Fields) (pace : Pace) (copier : Option Round)
    → code_of image pace 0 (copier_sections copier) ≡ copier_end copier
copier_code_of image pace None = refl
copier_code_of image pace (Some round) = alone_code_of image pace 0 (Copier round)

pub last_code_of : (image : Fields) (pace : Pace)
    → code_of image pace 0 (last_sections image pace) ≡ last_code image pace 0
last_code_of image Fast = copier_code_of image Fast (copier_of image Fast)
last_code_of image Small = refl

-- The function.

pub words_of_sections : (image : Fields) (needs : Needs) (pace : Pace)
    → map word_of (code_of image pace
    (length (body_words image.words) + length (code_of image pace 0 (leave_sections image pace)))
    (enter_sections image needs pace))
    ++ body_words image.words
    ++ map word_of (code_of image pace 0 (leave_sections image pace))
    ++ map word_of (code_of image pace 0 (last_sections image pace))
    ≡ function_words image needs pace 0
unfolding function_words
words_of_sections image needs pace =
    ap₂ (λ (after last : List Instr).
    map word_of (code_of image pace (length (body_words image.words) + length after) (enter_sections image needs pace))
    ++ body_words image.words ++ map word_of after ++ map word_of last)
    (leave_code_of image pace) (last_code_of image pace)
    ∙ ap (λ (before : List Instr). map word_of before ++ body_words image.words ++ map word_of (leave_code image pace)
    ++ map word_of (last_code image pace 0))
    (enter_code_of image needs pace (from_body image pace))
