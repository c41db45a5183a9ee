-- What an executable is to the machine: its code, what may be stored to, and the state in which a run of one of its
-- functions begins, as far as it is known.
use Rattle.std.specs.Prelude.{ℕ, ◌+◌, ◌*◌, Bool, true, false, List, [], ◌∷◌, length, Option, None, Some, nat_lt}
use Rattle.std.specs.Prelude.{if◌then◌else◌}
use Rattle.rv_machine.specs.declared.memory.Size.TheVariants as sizes
use Rattle.rv_programs.specs.Code.{halfwords, words}
use Rattle.elf_runs.specs.Below.{AddressRange, Executable, function_named, KnownState, lies_in, MachineProgram, no_code}
use Rattle.elf_runs.specs.Below.{Profile, ProgramCode, Shifts, Size, State}
use Rattle.elf_memory.specs.declared.asked.Asked.{Asked}
use Rattle.elf_runs.specs.Code.{halfwords_from, PlacedCode, program_code, words_from}
use Rattle.elf_memory.specs.Word.{known}
use Rattle.elf_memory.specs.Memory.{memory_at_start}
use Rattle.elf_memory.specs.Ranges.{item_at, may_be_stored_to}
use Rattle.elf_memory.specs.Begin.{register_of}
use Rattle.elf_memory.specs.declared.words.Word.{Word}

-- the addresses at which code stands
abbrev pub addresses_of : PlacedCode → AddressRange
addresses_of (words_from begin items) = record { begin = begin; end = begin + 4 * length items }
addresses_of (halfwords_from begin items) = record { begin = begin; end = begin + 2 * length items }

-- what code is to the machine, where it is run for who observes it
abbrev pub code_by : Profile → PlacedCode → ProgramCode
code_by profile (words_from begin items) = words (record { profile = profile; base = begin; words = items })
code_by profile (halfwords_from begin items) = halfwords (record { profile = profile; base = begin; halfwords = items })

-- instructions begin at multiples of so many bytes: of 2 where some may have 16 bits, else of 4
abbrev pub alignment_by : Bool → Size
alignment_by true = sizes.Half
alignment_by false = sizes.Word

-- the code that an address lies in; outside of all code none stands
abbrev pub code_among : Size → Profile → List PlacedCode → ℕ → ProgramCode
code_among alignment profile [] a = no_code alignment profile
code_among alignment profile (code ∷ codes) a =
    if lies_in a (addresses_of code) then code_by profile code else code_among alignment profile codes a

-- the code of an executable
abbrev pub code_for : Executable → Profile → ℕ → ProgramCode
code_for program profile = code_among (alignment_by program.compressed) profile (program_code program)

-- the program that the executable is to the machine, where a run of a function begins with this memory
abbrev pub machine_program : Executable → Asked → Profile → MachineProgram
machine_program program asked profile =
    record {
      code = code_for program profile;
      writable = may_be_stored_to (memory_at_start program asked);
    }

-- what one of the 32 registers holds
abbrev pub register_at_start : Executable → Asked → ℕ → Word
register_at_start program asked r = if nat_lt r 32 then register_of program asked r else known 0

abbrev pub address_or_zero : Option ℕ → ℕ
address_or_zero None = 0
address_or_zero (Some address) = address

-- the state in which the run begins, where each bit that is not known has some value
abbrev pub state_at_start : Executable → Asked → State
state_at_start program asked =
    record {
      pc = address_or_zero (function_named program asked.function.items);
      regs = λ r. (register_at_start program asked r).value;
      bytes = item_at (λ range. range.bytes) (memory_at_start program asked);
    }

-- what is known of the state in which the run begins, where amounts of shifts are seen or not
abbrev pub known_at_start : Executable → Asked → Shifts → KnownState
known_at_start program asked shifts =
    record {
      state = state_at_start program asked;
      registers = λ r. (register_at_start program asked r).unknown;
      bytes = item_at (λ range. range.unknown) (memory_at_start program asked);
      shifts = shifts;
    }
