-- The text of a function for an assembler. A word stands as a number, with its instruction as a comment, so nothing
-- is left for the assembler to encode; or, where that is asked for, as its instruction, behind a label. What changes
-- for a debugger stands behind the word that changes it: where the caller's x2 was, from which register on, and where
-- the caller's registers are kept.
--
-- The tail that functions share stands behind the function, under a name that no source gives and in a section of
-- which a linker keeps one for all of them. How far the jump to it goes is left for the linker.
use Rattle.std.specs.Prelude.{◌≡◌, ◌≢◌, ℕ, ◌+◌, ◌-◌, ◌^◌, ◌==◌, false, List, [], ◌∷◌, ◌++◌, codes, length}
use Rattle.std.specs.Prelude.{if◌then◌else◌}
use Rattle.std.specs.Fmt.{decimal, digits, padded_integral, format_spec}
use Rattle.functions.specs.Below.{above_frame, body_words, Branch, branch_row, branch_target, code_of}
use Rattle.functions.specs.Below.{enter_sections, Fence, kept_of, last_sections, shared_tail, stack_register}
use Rattle.functions.specs.Below.{stores_code, tail_entry, wipe_code}
use Rattle.functions.specs.Below.{Fields, FixedArray, Form, function_words, Instr, IsInstr, Jump, jump_target}
use Rattle.functions.specs.Below.{leave_sections, Load, MutableArray, P1, P2, Profile, reg_text, room_of, section_code}
use Rattle.functions.specs.Below.{SingleWord, Store, sum_of, text_of, three_operands, two_operands, word_of}
use Rattle.linked_calls.specs.declared.section.Section.{Section}
use Rattle.linked_calls.specs.declared.section.Section.TheVariants.{RoomAboveFrame, SavedRegisters, ArgumentRegisters}
use Rattle.linked_calls.specs.declared.section.Section.TheVariants.{FrameBase, ClearedFrame, LoweredStack, BlankWord}
use Rattle.linked_calls.specs.declared.section.Section.TheVariants.{ArgumentIn, ResultOut}
use Rattle.linked_calls.specs.declared.section.Section.TheVariants.{ArrayOut, FrameTop, RestoredRegisters}
use Rattle.linked_calls.specs.declared.section.Section.TheVariants.{CallersStack, WipedRoom, ClearedRegisters, Copier}
use Rattle.linked_calls.specs.declared.section.Section.TheVariants.{Return, SharedTail}
use Rattle.linked_calls.specs.declared.pace.Pace.{Pace}
use Rattle.linked_calls.specs.declared.pace.Pace.TheVariants.{Fast, Small}
use Rattle.functions.specs.declared.function_text.notation.Notation.{Notation}
use Rattle.functions.specs.declared.function_text.notation.Notation.TheVariants.{Mnemonics, Numbers}
use Rattle.functions.specs.function_text.Functions.{FunctionParts}

-- Words. The position of a word is how many bytes stand before it in the function, counted as the machine counts
-- addresses.

-- the position behind a word's
abbrev pub next_position : ℕ → ℕ
next_position at = sum_of at 4

-- the position behind words or instructions that begin at one
abbrev pub behind : {A : Type 0} → ℕ → List A → ℕ
behind at [] = at
behind at (first ∷ rest) = behind (next_position at) rest

-- the label of the word at a position of the function of this name; an assembler keeps it to itself
abbrev pub label_text : List ℕ → ℕ → List ℕ
label_text name at = codes ".L" ++ name ++ codes "_" ++ decimal at

-- eight hexadecimal digits, in lower case
abbrev pub eight_digits : ℕ → List ℕ
eight_digits word = padded_integral (format_spec 32 0 4 8 (2 ^ 64 - 1)) false [] (digits 16 false word)

-- a word as a number, with a text as its comment
abbrev pub number_text : ℕ → List ℕ → List ℕ
number_text word text = codes ".word 0x" ++ eight_digits word ++ codes "  # " ++ text

-- an instruction at a position, as assemblers take it: a branch or a jump goes to the label of its target, and all else
-- is as in a listing. What a fence orders has no numbers there, so it stays one.
abbrev pub mnemonic_text : List ℕ → ℕ → Instr → List ℕ
mnemonic_text name at (Jump rd offset) =
    two_operands (codes "jal") (reg_text rd) (label_text name (jump_target at offset))
mnemonic_text name at (Branch test rs1 rs2 offset) =
    three_operands (branch_row test).mnemonic (reg_text rs1) (reg_text rs2)
    (label_text name (branch_target at offset))
mnemonic_text name at (Fence mode before after rs1 rd) =
    number_text (word_of (Fence mode before after rs1 rd)) (text_of (Fence mode before after rs1 rd))
mnemonic_text name at instruction = text_of instruction

abbrev pub instruction_text : Notation → List ℕ → ℕ → Instr → List ℕ
instruction_text Numbers name at instruction = number_text (word_of instruction) (text_of instruction)
instruction_text Mnemonics name at instruction = mnemonic_text name at instruction

-- how the line of the word at a position begins
abbrev pub line_start : Notation → List ℕ → ℕ → List ℕ
line_start Numbers name at = codes "    "
line_start Mnemonics name at = label_text name at ++ codes ": "

abbrev pub code_line : Notation → List ℕ → ℕ → List ℕ → List ℕ
code_line notation name at text = line_start notation name at ++ text ++ codes "\n"

-- Lines.

abbrev pub title_line : List ℕ → List ℕ
title_line title = codes "    # " ++ title ++ codes "\n"

-- the caller's x2 is this register's value and a distance more
abbrev pub frame_line : ℕ → ℕ → List ℕ
frame_line register distance = codes "    .cfi_def_cfa " ++ decimal register ++ codes ", " ++ decimal distance
    ++ codes "\n"

-- Sections.

abbrev pub argument_title : Form → List ℕ
argument_title SingleWord = codes ": a word"
argument_title FixedArray = codes ": an array"
argument_title MutableArray = codes ": an array"

abbrev pub section_title : Section → List ℕ
section_title RoomAboveFrame = codes "room above the frame"
section_title SavedRegisters = codes "the caller's registers"
section_title ArgumentRegisters = codes "arguments that are needed behind the body"
section_title FrameBase = codes "the frame's base"
section_title ClearedFrame = codes "the frame, zeroed downward"
section_title LoweredStack = codes "the frame's base"
section_title (BlankWord offset) = codes "the frame's word at " ++ decimal offset ++ codes ", zeroed"
section_title (ArgumentIn i slot) = codes "parameter " ++ decimal i ++ argument_title slot.param.form
section_title ResultOut = codes "the result"
section_title (ArrayOut i slot) = codes "parameter " ++ decimal i ++ codes ": the array, back"
section_title FrameTop = codes "above the frame"
section_title RestoredRegisters = codes "the caller's registers"
section_title CallersStack = codes "the caller's x2"
section_title WipedRoom = codes "all the room, wiped upward"
section_title ClearedRegisters = codes "temporaries, wiped"
section_title Return = codes "back"
section_title (Copier round) = codes "from x5 to x6 up to x7, and back"
section_title SharedTail = codes "on to the tail that functions share"

-- a register of the caller is kept at an offset above the frame
abbrev pub kept_line : Fields → Instr → List ℕ
kept_line image (Store operation register base offset) =
    codes "    .cfi_offset " ++ decimal register ++ codes ", -" ++ decimal (above_frame image - offset) ++ codes "\n"
kept_line image _ = []

abbrev pub kept_lines : Fields → List Instr → List ℕ
kept_lines image [] = []
kept_lines image (instruction ∷ code) = kept_line image instruction ++ kept_lines image code

-- a register of the caller is back
abbrev pub restored_line : Instr → List ℕ
restored_line (Load operation register base offset) = codes "    .cfi_restore " ++ decimal register ++ codes "\n"
restored_line _ = []

-- what changes by an instruction of a section
abbrev pub change_lines : Fields → Section → Instr → List ℕ
change_lines image SavedRegisters instruction = kept_line image instruction
change_lines image RestoredRegisters instruction = restored_line instruction
change_lines image _ instruction = []

-- what is so where a section begins: the copier is run between entering and leaving
abbrev pub start_lines : Fields → Section → List ℕ
start_lines image (Copier round) =
    frame_line 2 (room_of image) ++ kept_lines image (stores_code stack_register 0 (kept_of image))
start_lines image _ = []

-- what changes by all of a section
abbrev pub end_line : Fields → Section → List ℕ
end_line image RoomAboveFrame = codes "    .cfi_def_cfa_offset " ++ decimal (above_frame image) ++ codes "\n"
end_line image FrameBase = frame_line 5 (room_of image)
end_line image ClearedFrame = frame_line 2 (room_of image)
end_line image LoweredStack = frame_line 2 (room_of image)
end_line image CallersStack = frame_line 5 0
end_line image WipedRoom = frame_line 2 0
end_line image _ = []

-- the symbol of the tail that functions share
abbrev pub tail_name : List ℕ
tail_name = codes "factc.tail.1"

-- where a call with so much room enters it, from its beginning on
abbrev pub entry_text : ℕ → List ℕ
entry_text room = if room == 0 then codes "+" ++ decimal (tail_entry 0) else []

abbrev pub tail_target : ℕ → List ℕ
tail_target room = tail_name ++ entry_text room

-- what is written for an instruction of a section at a position
abbrev pub written_text : Notation → List ℕ → Fields → Section → ℕ → Instr → List ℕ
written_text notation name image SharedTail at instruction =
    two_operands (codes "jal") (codes "x0") (tail_target (room_of image))
written_text notation name image _ at instruction = instruction_text notation name at instruction

abbrev pub instruction_lines : Notation → List ℕ → Fields → Section → ℕ → Instr → List ℕ
instruction_lines notation name image section at instruction =
    code_line notation name at (written_text notation name image section at instruction)
    ++ change_lines image section instruction

-- instructions of a section from a position on
abbrev pub code_lines : Notation → List ℕ → Fields → Section → ℕ → List Instr → List ℕ
code_lines notation name image section at [] = []
code_lines notation name image section at (instruction ∷ code) =
    instruction_lines notation name image section at instruction
    ++ code_lines notation name image section (next_position at) code

-- a section from a position on, with its code
abbrev pub section_lines : Notation → List ℕ → Fields → Section → ℕ → List Instr → List ℕ
section_lines notation name image section at code =
    title_line (section_title section) ++ start_lines image section ++ code_lines notation name image section at code
    ++ end_line image section

-- sections of what has this name from a position on, of which the last stands so many instructions before the copier
abbrev pub sections_lines : Notation → List ℕ → FunctionParts → ℕ → ℕ → List Section → List ℕ
sections_lines notation name f distance at [] = []
sections_lines notation name f distance at (section ∷ sections) =
    let code = section_code f.image f.pace (length (code_of f.image f.pace distance sections) + distance) section in
    section_lines notation name f.image section at code
    ++ sections_lines notation name f distance (behind at code) sections

-- The body, whose words are the image's.

-- the line of a word at a position: as its instruction's, or as a number that is no instruction's
pub data IsWordLine (notation : Notation) (name : List ℕ) (at word : ℕ) : List ℕ → Type 0 where
  of_instruction : (i : Instr) → IsInstr i → word_of i ≡ word
      → IsWordLine notation name at word (code_line notation name at (instruction_text notation name at i))
  of_no_instruction : ((i : Instr) → IsInstr i → word_of i ≢ word)
      → IsWordLine notation name at word (code_line notation name at (number_text word (codes "illegal")))

-- the lines of words from a position on
pub data ListsWords (notation : Notation) (name : List ℕ) : ℕ → List ℕ → List ℕ → Type 0 where
  nothing : {at : ℕ} → ListsWords notation name at [] []
  line : {at word : ℕ} {words told rest : List ℕ} → IsWordLine notation name at word told
      → ListsWords notation name (next_position at) words rest
      → ListsWords notation name at (word ∷ words) (told ++ rest)

-- The whole.

abbrev pub profile_text : Profile → List ℕ
profile_text P1 = codes "1"
profile_text P2 = codes "2"

-- how many words are shared
abbrev pub shared_text : Pace → List ℕ
shared_text Fast = []
shared_text Small = codes " and " ++ decimal (length shared_tail) ++ codes " shared"

-- how large the function is, and for which observer
abbrev pub sizes_text : FunctionParts → List ℕ
sizes_text f =
    decimal (length (function_words f.image f.needs f.pace 0)) ++ codes " words" ++ shared_text f.pace ++ codes ", "
    ++ decimal (room_of f.image) ++ codes " bytes of stack, profile " ++ profile_text f.image.profile

abbrev pub first_line : FunctionParts → List ℕ
first_line f = codes "# " ++ f.name ++ codes ": made by factc 1.0.0 function; " ++ sizes_text f ++ codes "\n"

-- its words stand as they are, in a section of their own
abbrev pub place_lines : FunctionParts → List ℕ
place_lines f =
    codes
    "    .option push\n    .option norvc\n    .option norelax\n    .cfi_sections .debug_frame\n    .section .text."
    ++ f.name ++ codes ", \"ax\", @progbits\n    .p2align 2\n"

-- under its name
abbrev pub symbol_lines : FunctionParts → List ℕ
symbol_lines f =
    codes "    .globl " ++ f.name ++ codes "\n    .type " ++ f.name ++ codes ", @function\n" ++ f.name
    ++ codes ":\n    .cfi_startproc\n"

abbrev pub head_lines : FunctionParts → List ℕ
head_lines f = first_line f ++ place_lines f ++ symbol_lines f

-- where a symbol ends
abbrev pub size_lines : List ℕ → List ℕ
size_lines name = codes "    .cfi_endproc\n    .size " ++ name ++ codes ", . - " ++ name ++ codes "\n"

-- how many instructions there are from the body on up to the last section
abbrev pub from_body : FunctionParts → ℕ
from_body f = length (body_words f.image.words) + length (code_of f.image f.pace 0 (leave_sections f.image f.pace))

-- where the body begins, and where what stands behind it does
abbrev pub body_start : FunctionParts → ℕ
body_start f = behind 0 (code_of f.image f.pace (from_body f) (enter_sections f.image f.needs f.pace))

abbrev pub exit_start : FunctionParts → ℕ
exit_start f = behind (body_start f) (body_words f.image.words)

-- the sections before the body
abbrev pub entry_lines : Notation → FunctionParts → List ℕ
entry_lines notation f =
    sections_lines notation f.name f (from_body f) 0 (enter_sections f.image f.needs f.pace)

-- those behind it, from a position on, and the last
abbrev pub behind_lines : Notation → FunctionParts → ℕ → List ℕ
behind_lines notation f at =
    sections_lines notation f.name f 0 at (leave_sections f.image f.pace)
    ++ sections_lines notation f.name f 0 (behind at (code_of f.image f.pace 0 (leave_sections f.image f.pace)))
    (last_sections f.image f.pace)

abbrev pub exit_lines : Notation → FunctionParts → List ℕ
exit_lines notation f = behind_lines notation f (exit_start f)

-- The tail that functions share: in a section of which a linker keeps one, entered with the caller's x2 in x5.

abbrev pub shared_section : List ℕ
shared_section =
    codes "    .section .text.factc.tail.1, \"axG\", @progbits, factc.tail.1, comdat\n    .p2align 2\n"

abbrev pub shared_symbol : List ℕ
shared_symbol = codes "    .globl factc.tail.1\n    .hidden factc.tail.1\n    .type factc.tail.1, @function\n"

abbrev pub shared_start : List ℕ
shared_start = codes "factc.tail.1:\n    .cfi_startproc\n"

abbrev pub shared_place_lines : List ℕ
shared_place_lines = shared_section ++ shared_symbol ++ shared_start ++ frame_line 5 0

-- where a call has a room, it is wiped
abbrev pub shared_wiping_lines : Notation → FunctionParts → List ℕ
shared_wiping_lines notation f = section_lines notation tail_name f.image WipedRoom 0 (wipe_code 16)

abbrev pub shared_lines : Notation → FunctionParts → List ℕ
shared_lines notation f =
    shared_place_lines ++ shared_wiping_lines notation f
    ++ sections_lines notation tail_name f 0 (behind 0 (wipe_code 16)) (ClearedRegisters ∷ Return ∷ [])
    ++ size_lines tail_name

abbrev pub shared_part_lines : Notation → FunctionParts → Pace → List ℕ
shared_part_lines notation f Fast = []
shared_part_lines notation f Small = shared_lines notation f

-- behind the function's words
abbrev pub tail_lines : Notation → FunctionParts → List ℕ
tail_lines notation f = size_lines f.name ++ shared_part_lines notation f f.pace ++ codes "    .option pop\n"

pub record IsAssemblerText (notation : Notation) (f : FunctionParts) (text : List ℕ) : Type 0 where
  pub body : List ℕ
  pub listed : ListsWords notation f.name (body_start f) (body_words f.image.words) body
  pub whole : text ≡ head_lines f ++ entry_lines notation f
      ++ (title_line (codes "the body") ++ body)
      ++ exit_lines notation f ++ tail_lines notation f
