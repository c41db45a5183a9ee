-- The program of a function that is loaded as it is asked for, and segments of its code.
use Rattle.std.specs.Prelude.{◌≡◌, List, Option, None, Some}
use Rattle.elf_runs.specs.Below.{CodeSegment, Executable, loaded_code, MachineProgram, Profile}
use Rattle.elf_runs.specs.Code.{PlacedCode}
use Rattle.elf_runs.specs.Loading.{addresses_of, code_by, code_for}
use Rattle.elf_memory.specs.Ranges.{may_be_stored_to}
use Rattle.elf_memory.specs.Memory.{RangeState}

-- the program that an executable is to the machine, where a run begins with this memory
abbrev pub program_over : Executable → List RangeState → Profile → MachineProgram
program_over program ranges profile = record { code = code_for program profile; writable = may_be_stored_to ranges }

-- the segment of code, and none where there is no code
abbrev pub IsSegmentOf : Profile → PlacedCode → Option CodeSegment → Type 0
IsSegmentOf profile code None = (addresses_of code).end ≡ (addresses_of code).begin
IsSegmentOf profile code (Some segment) = (segment.addresses ≡ addresses_of code)
    × (loaded_code segment.code ≡ code_by profile code)
