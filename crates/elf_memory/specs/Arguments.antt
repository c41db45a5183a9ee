-- What the arguments of a function are, and where they are passed (RISC-V psABI, "Integer Calling Convention": the
-- first eight in a0 to a7, which are x10 to x17, the others on the stack from its pointer on, in four bytes each; the
-- stack pointer is a multiple of 16).
use Rattle.std.specs.Prelude.{ℕ, ◌+◌, ◌-◌, ◌*◌, ◌/◌, ◌%◌, ◌^◌, Bool, true, List, map, drop, Option, None, Some, is_some}
use Rattle.elf_memory.specs.Below.{Executable, address_named}
use Rattle.elf_memory.specs.Word.{anything, known}
use Rattle.elf_memory.specs.declared.asked.Argument.{Argument}
use Rattle.elf_memory.specs.declared.asked.Argument.TheVariants.{Number, Unknown, Address}
use Rattle.elf_memory.specs.declared.words.Word.{Word}

-- where the stack ends, and the address that the function returns to: behind the stack, where no segment is
abbrev pub stack_end : ℕ
stack_end = 0xffff_fff0

abbrev pub return_address : ℕ
return_address = 0xffff_fff8

-- where a stack of this size begins
abbrev pub stack_begin : ℕ → ℕ
stack_begin size = stack_end - size

-- the next multiple of 16
abbrev pub rounded : ℕ → ℕ
rounded n = (n + 15) / 16 * 16

-- how many bytes of the stack so many arguments take
abbrev pub pushed_size : ℕ → ℕ
pushed_size count = rounded (4 * (count - 8))

-- the stack pointer, which is where the arguments that the registers do not have begin
abbrev pub stack_pointer : ℕ → ℕ
stack_pointer count = stack_end - pushed_size count

-- whether what an argument names has an address
abbrev pub is_found : Executable → Argument → Bool
is_found program (Address symbol offset) = is_some (address_named program symbol.items)
is_found program _ = true

-- so far behind an address
abbrev pub moved : ℕ → Option ℕ → Word
moved offset None = anything
moved offset (Some address) = known ((address + offset) % 2 ^ 32)

-- what an argument is: a number, any word, or the address of a symbol and so far behind it
abbrev pub word_of : Executable → Argument → Word
word_of program (Number n) = known n
word_of program Unknown = anything
word_of program (Address symbol offset) = moved offset (address_named program symbol.items)

abbrev pub words_of : Executable → List Argument → List Word
words_of program arguments = map (word_of program) arguments

-- those on the stack
abbrev pub pushed : List Word → List Word
pushed words = drop 8 words
