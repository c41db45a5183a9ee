-- The words of a function for C: the code of an image, between code that takes arguments as C passes them and code
-- that hands results back and goes back to the caller. They may stand anywhere.
--
-- The room of a call lies below the caller's sp: the image's frame at its lower end, in whole blocks of 16 bytes,
-- then those of the caller's s0 to s11 that the body writes, and at its upper end those of a0 to a7 that are needed
-- behind the body. Arguments that no register holds stand with the caller, from the end of the room on.
--
-- At a fast pace loops do much in each round, and arrays share one loop, the copier, which stands behind the rest of
-- the function. At a small pace loops do little in each round, and each array has its own. What a call does last is
-- the same for all functions: at a small pace they share its code, the tail, which may stand anywhere.
use Rattle.std.specs.Prelude.{ℕ, ◌+◌, ◌-◌, ◌*◌, ◌/◌, ◌%◌, ◌^◌, ◌==◌, List, [], ◌∷◌, ◌++◌, length, map}
use Rattle.std.specs.Prelude.{max, replicate, slice_get, take, unwrap_or}
use Rattle.std.specs.Prelude.{Bool, true, false, not, ◌&&◌, ◌||◌, nat_le, nat_lt, Option, Some, None, if◌then◌else◌}
use Rattle.std.proofs.Common.{zero, suc}
use Rattle.linked_calls.specs.Below.{Add, Addi, Andi, Beq, Bne, body_words, Boolean, Branch, constant_code, cut_code}
use Rattle.linked_calls.specs.Below.{element_bytes, Fields, FixedArray, Form, Immediate, Instr, is_not_zero_code}
use Rattle.linked_calls.specs.Below.{Jump, JumpRegister, Kind, load_by, load_code, MutableArray, Or, over}
use Rattle.linked_calls.specs.Below.{Register, ResultSlot}
use Rattle.linked_calls.specs.Below.{SingleWord, Slot, store_code, Sub, Uint16, Uint32, Uint8, word_of}
use Rattle.compilation.specs.Blank.{Blank}
use Rattle.compilation.specs.Needs.{Needs}
use Rattle.linked_calls.specs.Convention.{link_register, stack_register, saved_registers, argument_registers}
use Rattle.linked_calls.specs.Convention.{result_register, scratch_registers, whole_blocks}
use Rattle.linked_calls.specs.Paces.{few_elements, least_for_call, most_blanks, per_round, times}
use Rattle.linked_calls.specs.Written.{written_of}
use Rattle.language.specs.Operators.{width_of}
use Rattle.rv_code.specs.declared.instructions.Instr.TheVariants.{Load, Store}
use Rattle.rv_code.specs.declared.operations.LoadOperation.TheVariants.{Lw}
use Rattle.rv_code.specs.declared.operations.StoreOperation.{StoreOperation}
use Rattle.rv_code.specs.declared.operations.StoreOperation.TheVariants.{Sb, Sh, Sw}
use Rattle.linked_calls.specs.declared.pace.Pace.{Pace}
use Rattle.linked_calls.specs.declared.pace.Pace.TheVariants.{Fast, Small}
use Rattle.linked_calls.specs.declared.round.Round.{Round}
use Rattle.linked_calls.specs.declared.round.Round.TheVariants.{One, Two, Four}

-- Sizes.

-- the bytes of the frame, in whole blocks
abbrev pub frame_room : Fields → ℕ
frame_room image = whole_blocks image.frame_bytes

-- those of s0 to s11 that the body writes, which are kept
abbrev pub kept_of : Fields → List ℕ
kept_of image = written_of (body_words image.words) saved_registers

-- how many of a0 to a7 are needed behind the body for an argument: up to its own, where it points to an array that may
-- be changed
abbrev pub needed_for : ℕ → Form → ℕ
needed_for i SingleWord = 0
needed_for i FixedArray = 0
needed_for i MutableArray = if nat_lt i 8 then i + 1 else 0

-- and all from the i-th on
abbrev pub needed_from : ℕ → List Slot → ℕ
needed_from i [] = 0
needed_from i (slot ∷ slots) = max (needed_for i slot.param.form) (needed_from (i + 1) slots)

-- they are stored, with those below them
abbrev pub needed_of : Fields → List ℕ
needed_of image = take (needed_from 0 image.slots) argument_registers

-- the bytes above the frame: a word for each register that is kept, and for each that is needed behind the body
abbrev pub above_frame : Fields → ℕ
above_frame image = whole_blocks (4 * (length (kept_of image) + length (needed_of image)))

-- where a0 is stored, from the frame's end on: at the end of the room
abbrev pub first_argument : Fields → ℕ
first_argument image = above_frame image - 4 * length (needed_of image)

-- how many bytes of stack a call takes
abbrev pub room_of : Fields → ℕ
room_of image = frame_room image + above_frame image

-- where argument i stands with the caller, from x2 on, if no register holds it
abbrev pub stacked_offset : Fields → ℕ → ℕ
stacked_offset image i = room_of image + 4 * (i - 8)

-- where it stands behind the body, if it points to an array that may be changed
abbrev pub argument_offset : Fields → ℕ → ℕ
argument_offset image i =
    if nat_lt i 8 then frame_room image + first_argument image + 4 * i else stacked_offset image i

-- Pieces.

-- registers into one word after another, from an offset of a base on; and back
abbrev pub stores_code : ℕ → ℕ → List ℕ → List Instr
stores_code base offset [] = []
stores_code base offset (r ∷ rs) = Store Sw r base offset ∷ stores_code base (offset + 4) rs

abbrev pub loads_code : ℕ → ℕ → List ℕ → List Instr
loads_code base offset [] = []
loads_code base offset (r ∷ rs) = Load Lw r base offset ∷ loads_code base (offset + 4) rs

-- these instructions, and again from the first on as long as two registers differ
abbrev pub until_equal : ℕ → ℕ → List Instr → List Instr
until_equal one other body = body ++ Branch Bne one other (2 ^ 12 - 2 * length body) ∷ []

-- a number added to a register; 4096 - n takes n away
abbrev pub added : ℕ → ℕ → Instr
added r n = Immediate Addi r r n

-- 16 bytes of zeros from x2 on
abbrev pub zeros_code : List Instr
zeros_code = stores_code stack_register 0 (replicate 4 0)

-- x2 goes down by 16 bytes, which become zeros
abbrev pub down_code : List Instr
down_code = added stack_register (4096 - 16) ∷ zeros_code

-- 16 bytes from x2 on become zeros, and x2 goes up by them
abbrev pub up_code : List Instr
up_code = zeros_code ++ added stack_register 16 ∷ []

-- the address of an offset from x2 on
abbrev pub address_code : ℕ → ℕ → List Instr
address_code r offset =
    if nat_lt offset 2048 then Immediate Addi r stack_register offset ∷ []
    else constant_code r offset ++ Register Add r r stack_register ∷ []

-- Entry.

-- x2 goes down by what stands above the frame, where anything does
abbrev pub above_code : ℕ → List Instr
above_code above = if above == 0 then [] else added stack_register (4096 - above) ∷ []

-- room above the frame: what the caller has in registers that are kept, and those of a0 to a7 that are needed
abbrev pub entry_code : Fields → List Instr
entry_code image =
    above_code (above_frame image) ++ stores_code stack_register 0 (kept_of image)
    ++ stores_code stack_register (first_argument image) (needed_of image)

-- a frame, zeroed block by block downward, so that nothing live ever lies below x2
abbrev pub zeroed_code : ℕ → List Instr
zeroed_code room =
    if room == 0 then [] else
    constant_code 5 room ++ Register Sub 5 stack_register 5 ∷ until_equal stack_register 5 down_code

-- one store zeroes the word at an offset, in a frame of so many bytes
abbrev pub fits_frame : ℕ → ℕ → Bool
fits_frame room offset = (offset % 4 == 0) && nat_lt offset 2048 && nat_le (offset + 4) room

abbrev pub all_fit : ℕ → List ℕ → Bool
all_fit room [] = true
all_fit room (offset ∷ offsets) = fits_frame room offset && all_fit room offsets

-- so few words that they are zeroed one by one
abbrev pub are_few : Pace → ℕ → List ℕ → Bool
are_few pace room offsets = nat_le (length offsets) (most_blanks pace) && all_fit room offsets

-- x2 goes down by a room
abbrev pub lowered_code : ℕ → List Instr
lowered_code room =
    if nat_lt room 2048 then added stack_register ((4096 - room) % 4096) ∷ []
    else constant_code 5 room ++ Register Sub 5 stack_register 5 ∷ Immediate Addi stack_register 5 0 ∷ []

-- the word at an offset from x2 on becomes 0
abbrev pub blank_code : ℕ → List Instr
blank_code offset = stores_code stack_register (offset % 4096) (0 ∷ [])

abbrev pub blanks_code : List ℕ → List Instr
blanks_code [] = []
blanks_code (offset ∷ offsets) = blank_code offset ++ blanks_code offsets

-- a frame of which these words are zeroed, and no others
abbrev pub partly_code : ℕ → List ℕ → List Instr
partly_code room offsets = if room == 0 then [] else lowered_code room ++ blanks_code offsets

-- a frame in which the words that have to be are zeros
abbrev pub frame_code : Pace → ℕ → Blank → List Instr
frame_code pace room None = zeroed_code room
frame_code pace room (Some offsets) =
    if are_few pace room offsets then partly_code room offsets else zeroed_code room

-- what a raw word means by its kind: a bool is whether it is not 0, a number its low bits
abbrev pub meant_code : ℕ → Kind → List Instr
meant_code r Boolean = is_not_zero_code r
meant_code r Uint8 = cut_code r (width_of Uint8)
meant_code r Uint16 = cut_code r (width_of Uint16)
meant_code r Uint32 = []

-- the register that holds an argument: that of a0 to a7 in which it is passed, or x5 once it is loaded
abbrev pub argument_register : ℕ → ℕ
argument_register i = if nat_lt i 8 then 10 + i else 5

-- the load of one that is passed on the stack
abbrev pub stacked_code : Fields → ℕ → List Instr
stacked_code image i = if nat_lt i 8 then [] else load_code 5 (stacked_offset image i)

-- an argument that is a word into its slot
abbrev pub word_code : Fields → ℕ → Slot → List Instr
word_code image i slot = stacked_code image i ++ meant_code (argument_register i) slot.param.kind
    ++ store_code (argument_register i) slot.offset

-- how many bytes the array of a slot has
abbrev pub array_bytes : Slot → ℕ
array_bytes slot = element_bytes slot.param.kind * slot.param.length

-- an argument that points to an array into x5, before the body
abbrev pub pointer_in_code : Fields → ℕ → List Instr
pointer_in_code image i =
    if nat_lt i 8 then Immediate Addi 5 (10 + i) 0 ∷ [] else load_code 5 (stacked_offset image i)

-- and into x6, behind it
abbrev pub pointer_out_code : Fields → ℕ → List Instr
pointer_out_code image i = load_code 6 (argument_offset image i)

-- Where elements are read, into x5, and where they are written, into x6: from the caller's array to its slot, and back.

abbrev pub places_in_code : Fields → ℕ → Slot → List Instr
places_in_code image i slot = pointer_in_code image i ++ address_code 6 slot.offset

abbrev pub places_out_code : Fields → ℕ → Slot → List Instr
places_out_code image i slot = address_code 5 slot.offset ++ pointer_out_code image i

-- both go so many bytes on
abbrev pub next_code : ℕ → List Instr
next_code bytes = added 5 bytes ∷ added 6 bytes ∷ []

-- a bool element as 0 or 1; numbers have their width
abbrev pub element_meant_code : Kind → List Instr
element_meant_code Boolean = is_not_zero_code 28
element_meant_code Uint8 = []
element_meant_code Uint16 = []
element_meant_code Uint32 = []

-- an element's store is as wide as the element
abbrev pub store_by : Kind → StoreOperation
store_by Boolean = Sb
store_by Uint8 = Sb
store_by Uint16 = Sh
store_by Uint32 = Sw

-- what the element at an offset means, where it comes from the caller
abbrev pub copied_in_code : Kind → ℕ → List Instr
copied_in_code kind offset =
    Load (load_by kind) 28 5 offset ∷ element_meant_code kind ++ Store (store_by kind) 28 6 offset ∷ []

-- and the element as it is
abbrev pub copied_out_code : Kind → ℕ → List Instr
copied_out_code kind offset = Load (load_by kind) 28 5 offset ∷ Store (store_by kind) 28 6 offset ∷ []

-- so many elements of so many bytes one after another, the first at an offset
abbrev pub elements_code : (ℕ → List Instr) → ℕ → ℕ → ℕ → List Instr
elements_code code bytes offset zero = []
elements_code code bytes offset (suc count) = code offset ++ elements_code code bytes (offset + bytes) count

-- so many elements and no others in each round, as long as x5 is not where x7 is
abbrev pub loop_code : (ℕ → List Instr) → Kind → ℕ → List Instr
loop_code code kind count =
    until_equal 5 7 (elements_code code (element_bytes kind) 0 count ++ next_code (count * element_bytes kind))

-- so many bytes behind x5 into x7, by a number of its own
abbrev pub far_code : ℕ → List Instr
far_code bytes = constant_code 7 bytes ++ Register Add 7 7 5 ∷ []

-- where a loop ends, which is so many bytes behind x5, into x7; in one instruction, where the number fits it
abbrev pub bound_code : ℕ → List Instr
bound_code bytes = if nat_lt bytes 2048 then Immediate Addi 7 5 bytes ∷ [] else far_code bytes

-- some of them by each round of a loop, up to x7, and those that are left behind it
abbrev pub rounds_code : Pace → (ℕ → List Instr) → Kind → ℕ → List Instr
rounds_code pace code kind count =
    let bytes = element_bytes kind in
    let round = per_round pace kind in
    bound_code (bytes * (round * (count / round))) ++ loop_code code kind round
    ++ elements_code code bytes 0 (count % round)

-- so many elements: by straight code if they are few
abbrev pub copied_code : Pace → (ℕ → List Instr) → Kind → ℕ → List Instr
copied_code pace code kind count =
    if nat_lt count (few_elements pace kind) then elements_code code (element_bytes kind) 0 count
    else rounds_code pace code kind count

-- The copier, which all arrays of a function share: from x5 on to where x6 is, up to x7, and back by x30. It goes by
-- words where x5 and x6 are multiples of 4, and else by bytes.

-- one code where x5 or x6 is no multiple of 4, and another where both are
abbrev pub by_alignment_code : List Instr → List Instr → List Instr
by_alignment_code bytes words =
    Register Or 28 5 6 ∷ Immediate Andi 28 28 3 ∷ Branch Beq 28 0 (2 * length bytes + 4)
    ∷ bytes ++ over (length words) ∷ words

abbrev pub copies_code : Round → List Instr
copies_code round =
    by_alignment_code (loop_code (copied_out_code Uint8) Uint8 1)
    (loop_code (copied_out_code Uint32) Uint32 (times round))

abbrev pub copier_code : Round → List Instr
copier_code round = copies_code round ++ JumpRegister 0 30 0 ∷ []

-- how many elements a word has
abbrev pub per_word : Kind → ℕ
per_word kind = 4 / element_bytes kind

-- and as many words as a round copies
abbrev pub in_round : Round → Kind → ℕ
in_round round kind = times round * per_word kind

-- so many elements are worth a call of it
abbrev pub is_worth_a_call : Kind → ℕ → Bool
is_worth_a_call kind count = nat_le (least_for_call kind) count

-- a bool that is passed means whether it is not 0, so it goes alone
abbrev pub goes_in_as_it_is : Kind → Bool
goes_in_as_it_is Boolean = false
goes_in_as_it_is Uint8 = true
goes_in_as_it_is Uint16 = true
goes_in_as_it_is Uint32 = true

-- whether an array goes as it is, one way or the other
abbrev pub goes_as_it_is : Form → Kind → Bool
goes_as_it_is SingleWord kind = false
goes_as_it_is FixedArray kind = goes_in_as_it_is kind
goes_as_it_is MutableArray kind = true

-- whether the array of a slot is worth a call, and whether one of them is

abbrev pub is_worth : Slot → Bool
is_worth slot = goes_as_it_is slot.param.form slot.param.kind && is_worth_a_call slot.param.kind slot.param.length

abbrev pub is_any_worth : List Slot → Bool
is_any_worth [] = false
is_any_worth (slot ∷ slots) = is_worth slot || is_any_worth slots

-- whether its words are a whole number of rounds of so many; of an array of words those beside the rounds are few
abbrev pub divides : ℕ → Kind → ℕ → Bool
divides round Boolean count = count / per_word Boolean % round == 0
divides round Uint8 count = count / per_word Uint8 % round == 0
divides round Uint16 count = count / per_word Uint16 % round == 0
divides round Uint32 count = true

-- and so of all that are worth a call
abbrev pub divides_all : ℕ → List Slot → Bool
divides_all round [] = true
divides_all round (slot ∷ slots) =
    (not (is_worth slot) || divides round slot.param.kind slot.param.length) && divides_all round slots

abbrev pub round_of : List Slot → Round
round_of slots = if divides_all 4 slots then Four else if divides_all 2 slots then Two else One

-- whether each jump of a function reaches as far as its end
abbrev pub is_near : Fields → Bool
is_near image = nat_lt (length image.words + 128 * length image.slots) (2 ^ 16)

-- the copier of a function that has one, by how many words a round of it copies
abbrev pub copier_of : Fields → Pace → Option Round
copier_of image Fast = if is_near image && is_any_worth image.slots then Some (round_of image.slots) else None
copier_of image Small = None

abbrev pub copier_end : Option Round → List Instr
copier_end None = []
copier_end (Some round) = copier_code round

-- a call over so many instructions, as far as a jump reaches
abbrev pub call_code : ℕ → Instr
call_code count = Jump 30 ((2 * count + 2) % 2 ^ 20)

-- so many elements by the copier, which stands so many instructions behind, and those that are no whole round
abbrev pub called_code : Round → ℕ → Kind → ℕ → List Instr
called_code round behind kind count =
    let bytes = element_bytes kind in
    let rest = elements_code (copied_out_code kind) bytes 0 (count % in_round round kind) in
    bound_code (bytes * (in_round round kind * (count / in_round round kind)))
    ++ call_code (length rest + behind) ∷ rest

-- whether so many elements go by a copier: as they are, and at least a round of them
abbrev pub goes_by_call : Round → Bool → Kind → ℕ → Bool
goes_by_call round goes kind count =
    goes && is_worth_a_call kind count && nat_le (in_round round kind) count

-- all elements of an array, by the copier of the function or by code of their own
abbrev pub array_code : Pace → Option Round → ℕ → (ℕ → List Instr) → Bool → Kind → ℕ → List Instr
array_code pace None behind code goes kind count = copied_code pace code kind count
array_code pace (Some round) behind code goes kind count =
    if goes_by_call round goes kind count then called_code round behind kind count else copied_code pace code kind count

-- an array that the argument points to into its slot
abbrev pub copy_in_code : Fields → Pace → ℕ → ℕ → Slot → List Instr
copy_in_code image pace behind i slot =
    let kind = slot.param.kind in
    let goes = goes_in_as_it_is kind in
    places_in_code image i slot
    ++ array_code pace (copier_of image pace) behind (copied_in_code kind) goes kind slot.param.length

-- an argument into its slot, so many instructions before the copier
abbrev pub argument_code : Fields → Pace → ℕ → ℕ → Slot → Form → List Instr
argument_code image pace behind i slot SingleWord = word_code image i slot
argument_code image pace behind i slot FixedArray = copy_in_code image pace behind i slot
argument_code image pace behind i slot MutableArray = copy_in_code image pace behind i slot

-- any numbers of the kind may stand in the slot of an array of numbers that may be changed
abbrev pub is_open : Form → Kind → Bool
is_open SingleWord kind = false
is_open FixedArray kind = false
is_open MutableArray Boolean = false
is_open MutableArray Uint8 = true
is_open MutableArray Uint16 = true
is_open MutableArray Uint32 = true

-- such an array is not copied in where the body sets it whole before it reads it
abbrev pub is_skipped : List Bool → ℕ → Slot → Bool
is_skipped spared i slot = unwrap_or (slice_get spared i) false && is_open slot.param.form slot.param.kind

-- an argument into its slot, where it has to stand there
abbrev pub needed_code : Fields → Pace → List Bool → ℕ → ℕ → Slot → List Instr
needed_code image pace spared behind i slot =
    if is_skipped spared i slot then [] else argument_code image pace behind i slot slot.param.form

-- all arguments from the i-th on
abbrev pub arguments_code : Fields → Pace → List Bool → ℕ → ℕ → List Slot → List Instr
arguments_code image pace spared behind i [] = []
arguments_code image pace spared behind i (slot ∷ slots) =
    let rest = arguments_code image pace spared behind (i + 1) slots in
    needed_code image pace spared (length rest + behind) i slot ++ rest

-- before the body, and so many instructions before the copier
abbrev pub enter_code : Fields → Needs → Pace → ℕ → List Instr
enter_code image needs pace behind =
    entry_code image ++ frame_code pace (frame_room image) needs.blank
    ++ arguments_code image pace needs.spared behind 0 image.slots

-- The way back.

-- the result into a0, which is 0 where there is none
abbrev pub result_code : Option ResultSlot → List Instr
result_code None = Immediate Addi result_register 0 0 ∷ []
result_code (Some slot) = load_code result_register slot.offset

-- an array from its slot to where the argument points
abbrev pub copy_out_code : Fields → Pace → ℕ → ℕ → Slot → Form → List Instr
copy_out_code image pace behind i slot SingleWord = []
copy_out_code image pace behind i slot FixedArray = []
copy_out_code image pace behind i slot MutableArray =
    let kind = slot.param.kind in
    places_out_code image i slot
    ++ array_code pace (copier_of image pace) behind (copied_out_code kind) true kind slot.param.length

-- all arrays that may be changed, from the i-th argument on
abbrev pub results_code : Fields → Pace → ℕ → ℕ → List Slot → List Instr
results_code image pace behind i [] = []
results_code image pace behind i (slot ∷ slots) =
    let rest = results_code image pace behind (i + 1) slots in
    copy_out_code image pace (length rest + behind) i slot slot.param.form ++ rest

-- the caller's registers that are kept, and its x2 in x5
abbrev pub restore_code : Fields → List Instr
restore_code image =
    address_code 5 (frame_room image) ++ loads_code 5 0 (kept_of image) ++ added 5 (above_frame image) ∷ []

-- all the room, zeroed block by block upward
abbrev pub wipe_code : ℕ → List Instr
wipe_code room = if room == 0 then [] else until_equal stack_register 5 up_code

-- registers become 0
abbrev pub clear_registers_code : List ℕ → List Instr
clear_registers_code rs = map (λ r. Immediate Addi r 0 0) rs

-- The tail: the room wiped, the registers cleared, and back to the caller.

abbrev pub tail_code : ℕ → List Instr
tail_code room =
    wipe_code room ++ clear_registers_code scratch_registers ++ JumpRegister 0 link_register 0 ∷ []

-- that of calls that have a room, which functions share
abbrev pub shared_tail : List Instr
shared_tail = tail_code 16

-- how many bytes from its beginning on it is entered: a call without a room has nothing to wipe
abbrev pub tail_entry : ℕ → ℕ
tail_entry room = 4 * (length shared_tail - length (tail_code room))

-- on to what stands so many bytes ahead, modulo 2^32
abbrev pub onward_code : ℕ → Instr
onward_code ahead = Jump 0 (ahead / 2 % 2 ^ 20)

-- behind the arrays
abbrev pub end_code : Fields → Pace → List Instr
end_code image Fast = restore_code image ++ tail_code (room_of image)
end_code image Small = restore_code image

-- behind the body, up to the copier or the way on to the shared tail
abbrev pub leave_code : Fields → Pace → List Instr
leave_code image pace =
    result_code image.returned ++ results_code image pace (length (end_code image pace)) 0 image.slots
    ++ end_code image pace

-- The function.

-- how many words there are from the body on up to there
abbrev pub from_body : Fields → Pace → ℕ
from_body image pace = length (body_words image.words) + length (leave_code image pace)

-- and how many from the first one on
abbrev pub up_to_last : Fields → Needs → Pace → ℕ
up_to_last image needs pace =
    length (enter_code image needs pace (from_body image pace)) + from_body image pace

-- the copier, or on to the shared tail, so many bytes ahead
abbrev pub last_code : Fields → Pace → ℕ → List Instr
last_code image Fast ahead = copier_end (copier_of image Fast)
last_code image Small ahead = onward_code ahead ∷ []

-- of a function that enters the shared tail, if it does, so many bytes behind where it goes on to it
unfoldable pub function_words : Fields → Needs → Pace → ℕ → List ℕ
function_words image needs pace ahead =
    map word_of (enter_code image needs pace (from_body image pace)) ++ body_words image.words
    ++ map word_of (leave_code image pace) ++ map word_of (last_code image pace ahead)
