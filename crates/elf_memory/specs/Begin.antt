-- What a run of a function begins with (RISC-V psABI, "Integer Register Convention": x1 is ra, x2 sp, x3 gp, x10 to x17
-- are a0 to a7; "Global pointer": gp has the value of the symbol `__global_pointer$`).
use Rattle.std.specs.Prelude.{ℕ, ◌-◌, ◌==◌, ◌&&◌, List, length, Option, None, Some, codes, nat_le, nat_lt, slice_get}
use Rattle.std.specs.Prelude.{if◌then◌else◌}
use Rattle.elf_memory.specs.Below.{Executable, address_named}
use Rattle.elf_memory.specs.Arguments.{return_address, stack_pointer, words_of}
use Rattle.elf_memory.specs.Word.{anything, known}
use Rattle.elf_memory.specs.declared.asked.Asked.{Asked}
use Rattle.elf_memory.specs.declared.words.Word.{Word}

-- a word where there is one, else any
abbrev pub word_or_any : Option Word → Word
word_or_any None = anything
word_or_any (Some word) = word

abbrev pub global_pointer : Option ℕ → Word
global_pointer None = anything
global_pointer (Some address) = known address

-- what a register holds. x0 reads as 0
abbrev pub register_by : Word → List Word → ℕ → Word
register_by gp words r =
    if r == 0 then known 0
    else if r == 1 then known return_address
    else if r == 2 then known (stack_pointer (length words))
    else if r == 3 then gp
    else if nat_le 10 r && nat_lt r 18 then word_or_any (slice_get words (r - 10))
    else anything

abbrev pub register_of : Executable → Asked → ℕ → Word
register_of program asked r =
    register_by (global_pointer (address_named program (codes "__global_pointer$")))
    (words_of program asked.arguments.items) r
