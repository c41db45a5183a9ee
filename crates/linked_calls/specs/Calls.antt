-- What a caller has to set up for a call of a function, by the standard calling convention: RISC-V ABIs
-- Specification, sections "Integer Register Convention" and "Integer Calling Convention" (ilp32). The numbers of the
-- registers and the distances are written out here, since what they are is promised to C.
use Rattle.compilation.specs.Needs.{Needs}
use Rattle.std.specs.Prelude.{◌≡◌, ◌⊎◌, ℕ, ◌+◌, ◌-◌, ◌*◌, ◌%◌, ◌^◌, ◌<◌, ◌≤◌, nat_lt, List, [], ◌∷◌, length, map}
use Rattle.std.specs.Prelude.{if◌then◌else◌}
use Rattle.linked_calls.specs.Below.{Arg, Array, MachineCode, element_bytes, Fields, FixedArray, Form, MutableArray}
use Rattle.linked_calls.specs.Below.{numbers_at, SingleWord, Slot, Stand, State, word_in, word_of}
use Rattle.language.specs.declared.values.Arg.TheVariants.{Word}
use Rattle.linked_calls.specs.FunctionCode.{array_bytes, function_words, room_of, shared_tail, tail_entry, up_to_last}
use Rattle.linked_calls.specs.Meant.{meant}
use Rattle.linked_calls.specs.Stretches.{AreBytes, AreData}
use Rattle.linked_calls.specs.declared.pace.Pace.{Pace}
use Rattle.linked_calls.specs.declared.pace.Pace.TheVariants.{Fast, Small}

-- where a function's words begin, and those of the tail that functions share; where the stack pointer is at the call,
-- and where the i-th argument points if it is an array
pub record CallSite : Type 0 where
  pub entry : ℕ
  pub tail : ℕ
  pub stack : ℕ
  pub pointers : ℕ → ℕ

-- The stack: the room of the call lies below the stack pointer, the arguments that no register holds from it on.

abbrev pub room_base : Fields → CallSite → ℕ
room_base image site = site.stack - room_of image

abbrev pub arguments_end : Fields → CallSite → ℕ
arguments_end image site = site.stack + 4 * (length image.slots - 8)

-- a stretch of so many bytes from an address on does not meet that from `low` to `high`
abbrev pub IsBesides : ℕ → ℕ → ℕ → ℕ → Type 0
IsBesides a n low high = (a + n ≤ low) ⊎ (high ≤ a)

-- Where the arrays lie.

-- an array that is read: aligned to its elements, below the end of memory, and not in the room
pub record IsReadable (image : Fields) (site : CallSite) (i : ℕ) (slot : Slot) : Type 0 where
  pub aligned : site.pointers i % element_bytes slot.param.kind ≡ 0
  pub ends : site.pointers i + array_bytes slot ≤ 2 ^ 32
  pub beside_room : IsBesides (site.pointers i) (array_bytes slot) (room_base image site) site.stack

-- one that is written as well: beside the arguments on the stack too
pub record IsWritable (image : Fields) (site : CallSite) (i : ℕ) (slot : Slot) : Type 0 where
  pub readable : IsReadable image site i slot
  pub beside_arguments : IsBesides (site.pointers i) (array_bytes slot) site.stack (arguments_end image site)

abbrev pub LiesWell : Fields → CallSite → ℕ → Slot → Form → Type 0
LiesWell image site i slot SingleWord = Unit {0}
LiesWell image site i slot FixedArray = IsReadable image site i slot
LiesWell image site i slot MutableArray = IsWritable image site i slot

-- all of them, from the i-th argument on
abbrev pub LieWell : Fields → CallSite → ℕ → List Slot → Type 0
LieWell image site i [] = Unit {0}
LieWell image site i (slot ∷ slots) = LiesWell image site i slot slot.param.form × LieWell image site (i + 1) slots

-- Where the code lies.

-- where a function goes on to the shared tail, and where it enters it

abbrev pub onward_at : Fields → Needs → CallSite → ℕ
onward_at image needs site = site.entry + 4 * up_to_last image needs Small

abbrev pub tail_at : Fields → CallSite → ℕ
tail_at image site = site.tail + tail_entry (room_of image)

-- how far the one is from the other, modulo 2^32
abbrev pub tail_ahead : Fields → Needs → Pace → CallSite → ℕ
tail_ahead image needs Fast site = 0
tail_ahead image needs Small site = (tail_at image site + 2 ^ 32 - onward_at image needs site) % 2 ^ 32

-- a jump reaches 1 MiB: RISC-V Unprivileged ISA, section "Unconditional Jumps"
abbrev pub Reaches : ℕ → ℕ → Type 0
Reaches from to = (from ≤ to + 2 ^ 20) × (to < from + 2 ^ 20)

-- a function at a small pace has the shared tail, wherever it stands within the reach of its jump
abbrev pub HasTail : Fields → Needs → Pace → MachineCode → CallSite → Type 0
HasTail image needs Fast code site = Unit {0}
HasTail image needs Small code site = Stand code site.tail (map word_of shared_tail)
    × Reaches (onward_at image needs site) (tail_at image site)

-- the function's words stand in the code, which the image's observer observes, and so does the tail that it goes on
-- to; the stack has room, and the arrays lie well.
-- Two `mut` arrays may be one
pub record IsSite (image : Fields) (needs : Needs) (pace : Pace) (code : MachineCode) (site : CallSite) : Type 0 where
  pub observed : code.profile ≡ image.profile
  pub words : Stand code site.entry (function_words image needs pace (tail_ahead image needs pace site))
  pub tail : HasTail image needs pace code site
  pub stack_aligned : site.stack % 16 ≡ 0
  pub room : room_of image ≤ site.stack
  pub stack_ends : arguments_end image site < 2 ^ 32
  pub arrays : LieWell image site 0 image.slots

-- The state at the call.

-- the i-th argument's word: the first eight in a0 to a7, the others on the stack
abbrev pub raw_argument : CallSite → State → ℕ → ℕ
raw_argument site s i = if nat_lt i 8 then s.regs (10 + i) else word_in site.stack s.bytes (4 * (i - 8))

-- an array is passed by a pointer to its elements, which are data
pub record IsPointedTo (site : CallSite) (s : State) (i : ℕ) (slot : Slot) : Type 0 where
  pub pointer : raw_argument site s i ≡ site.pointers i
  pub there : AreData (site.pointers i) (site.pointers i + array_bytes slot) s.bytes

-- a word by any word
abbrev pub IsPassed : CallSite → State → ℕ → Slot → Form → Type 0
IsPassed site s i slot SingleWord = Unit {0}
IsPassed site s i slot FixedArray = IsPointedTo site s i slot
IsPassed site s i slot MutableArray = IsPointedTo site s i slot

abbrev pub ArePassed : CallSite → State → ℕ → List Slot → Type 0
ArePassed site s i [] = Unit {0}
ArePassed site s i (slot ∷ slots) = IsPassed site s i slot slot.param.form × ArePassed site s (i + 1) slots

-- the function is called: the registers hold words, and data is bytes; room and arguments on the stack are data, among
-- whatever other data
pub record IsCalled (image : Fields) (site : CallSite) (s : State) : Type 0 where
  pub at_entry : s.pc ≡ site.entry
  pub stack : s.regs 2 ≡ site.stack
  pub words : (r : ℕ) → s.regs r < 2 ^ 32
  pub bytes : AreBytes s.bytes
  pub there : AreData (room_base image site) (arguments_end image site) s.bytes
  pub arguments : ArePassed site s 0 image.slots

-- What the arguments mean.

abbrev pub argument_of : CallSite → State → ℕ → Slot → Form → Arg
argument_of site s i slot SingleWord = Word (meant slot.param.kind (raw_argument site s i))
argument_of site s i slot FixedArray =
    Array
    (map (meant slot.param.kind)
    (numbers_at s.bytes (element_bytes slot.param.kind) (site.pointers i) slot.param.length))
argument_of site s i slot MutableArray =
    Array
    (map (meant slot.param.kind)
    (numbers_at s.bytes (element_bytes slot.param.kind) (site.pointers i) slot.param.length))

abbrev pub arguments_from : CallSite → State → ℕ → List Slot → List Arg
arguments_from site s i [] = []
arguments_from site s i (slot ∷ slots) = argument_of site s i slot slot.param.form
    ∷ arguments_from site s (i + 1) slots

-- the arguments of the call, as they stand at its entry
abbrev pub arguments_of : Fields → CallSite → State → List Arg
arguments_of image site s = arguments_from site s 0 image.slots
