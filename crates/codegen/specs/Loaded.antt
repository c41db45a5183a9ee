-- An image and its arguments, loaded: where the machine begins.
use Rattle.std.specs.Prelude.{ℕ, ◌+◌, zero, suc, List, [], ◌∷◌, ◌++◌, map, unwrap_or}
use Rattle.std.specs.Option.{option_map}
use Rattle.expression_code.specs.image_fields.Fields.{Fields}
use Rattle.expression_code.specs.declared.image_fields.slot.Slot.{Slot}
use Rattle.codegen.specs.Below.{Arg, ByteMap, MachineCode, element_bytes, FixedArray, Form, initial_registers}
use Rattle.codegen.specs.Below.{MutableArray, number_at, Param, SingleWord, State, with_number, zeros}
use Rattle.language.specs.Results.{Results}
use Rattle.language.specs.declared.values.Arg.TheVariants.{Word, Array}

-- the parameters, without their slots
abbrev pub params_of : Fields → List Param
params_of image = map (λ slot. slot.param) image.slots

-- the bytes with numbers of so many bytes each, one after another from an address on
abbrev pub with_numbers : ByteMap → ℕ → ℕ → List ℕ → ByteMap
with_numbers bytes size at [] = bytes
with_numbers bytes size at (v ∷ vs) = with_numbers (with_number bytes size at v) size (at + size) vs

-- the bytes with an argument at its slot: a word, or the elements of an array
abbrev pub with_argument : ℕ → ByteMap → Slot → Arg → ByteMap
with_argument frame bytes slot (Word word) = with_number bytes 4 (frame + slot.offset) word
with_argument frame bytes slot (Array words) =
    with_numbers bytes (element_bytes slot.param.kind) (frame + slot.offset) words

-- the bytes with each argument at its parameter's slot
abbrev pub with_arguments : ℕ → ByteMap → List Slot → List Arg → ByteMap
with_arguments frame bytes [] args = bytes
with_arguments frame bytes (slot ∷ slots) [] = bytes
with_arguments frame bytes (slot ∷ slots) (arg ∷ args) =
    with_arguments frame (with_argument frame bytes slot arg) slots args

-- the image's words and no others, from the base on, seen by its observer
abbrev pub code_at : ℕ → Fields → MachineCode
code_at base image = record { profile = image.profile; base = base; words = image.words }

-- the program counter at the code's base, the frame's base in x2, 0 in the other registers; the data is the
-- frame and nothing else: the arguments at their slots, zeros elsewhere
abbrev pub loaded_at : ℕ → ℕ → Fields → List Arg → State
loaded_at code_base frame_base image args = record {
  pc = code_base;
  regs = initial_registers frame_base;
  bytes = with_arguments frame_base (zeros frame_base image.frame_bytes) image.slots args;
}

-- the word in a slot, as a plain number
abbrev pub word_in : ℕ → ByteMap → ℕ → ℕ
word_in frame bytes offset = unwrap_or (number_at bytes 4 (frame + offset)) 0

-- so many numbers of so many bytes each, one after another from an address on
abbrev pub numbers_at : ByteMap → ℕ → ℕ → ℕ → List ℕ
numbers_at bytes size at zero = []
numbers_at bytes size at (suc n) = unwrap_or (number_at bytes size at) 0 ∷ numbers_at bytes size (at + size) n

-- the elements in a slot, where it holds an array that may be changed
abbrev pub array_in : ℕ → ByteMap → Form → Slot → List (List ℕ)
array_in frame bytes SingleWord slot = []
array_in frame bytes FixedArray slot = []
array_in frame bytes MutableArray slot =
    numbers_at bytes (element_bytes slot.param.kind) (frame + slot.offset) slot.param.length ∷ []

abbrev pub arrays_in : ℕ → ByteMap → List Slot → List (List ℕ)
arrays_in frame bytes [] = []
arrays_in frame bytes (slot ∷ slots) = array_in frame bytes slot.param.form slot ++ arrays_in frame bytes slots

-- the outcome that the slots hold
abbrev pub results_in : ℕ → Fields → ByteMap → Results
results_in frame image bytes = record {
  returned = option_map (λ slot. word_in frame bytes slot.offset) image.returned;
  arrays = arrays_in frame bytes image.slots;
}
