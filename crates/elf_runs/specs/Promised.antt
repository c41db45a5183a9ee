-- What a certificate promises of all runs that begin as is asked.
use Rattle.std.specs.Prelude.{◌≡◌, ◌≢◌, ℕ, List, length, take}
use Rattle.elf_memory.specs.declared.asked.Asked.{Asked}
use Rattle.elf_runs.specs.Below.{Covers, entries_of, Entry, Executable, HasReturned, MachineProgram, Observation}
use Rattle.elf_runs.specs.Below.{ProgramRuns, RecorderRefused, ShiftsBy, State, Stop}
use Rattle.elf_memory.specs.Arguments.{return_address}
use Rattle.elf_runs.specs.Loading.{known_at_start, machine_program}
use Rattle.elf_runs.specs.declared.options.RunOptions.{RunOptions}
use Rattle.elf_memory.specs.declared.stops.FunctionStop.{FunctionStop}
use Rattle.elf_memory.specs.declared.stops.FunctionStop.TheVariants.{Returned, Stopped}

-- a run of the function begins in this state: it agrees with all that is known
abbrev pub Begins : Executable → Asked → RunOptions → State → Type 0
Begins program asked options s = Covers (known_at_start program asked options.shifts) s

-- a run of the function, of at most as many steps as are allowed, which no recorder cuts short
abbrev pub RunsUncut : Executable → Asked → RunOptions → State → List Observation → Stop → State → Type 0
RunsUncut program asked options s seen stop end =
    ProgramRuns (machine_program program asked options.profile) options.steps s seen stop end
    × (stop ≢ RecorderRefused)

-- it stopped so, in this state
abbrev pub StopsSo : MachineProgram → FunctionStop → Stop → State → Type 0
StopsSo program Returned stop end = HasReturned program return_address stop end
StopsSo program (Stopped which) stop end = stop ≡ which

-- every run shows this list and stops so
abbrev pub AllShow : Executable → Asked → RunOptions → List Observation → FunctionStop → Type 0
AllShow program asked options seen how =
    (s end : State) (shown : List Observation) (stop : Stop)
    → Begins program asked options s → RunsUncut program asked options s shown stop end
    → (shown ≡ seen) × StopsSo (machine_program program asked options.profile) how stop end

-- every run shifts registers by these amounts, one after another
abbrev pub AllShiftBy : Executable → Asked → RunOptions → List ℕ → Type 0
AllShiftBy program asked options amounts =
    (s : State) → Begins program asked options s
    → ShiftsBy (machine_program program asked options.profile) options.steps s amounts

-- the entries of every run begin with these
abbrev pub AllBegin : Executable → Asked → RunOptions → List Entry → Type 0
AllBegin program asked options first =
    (s end : State) (shown : List Observation) (stop : Stop)
    → Begins program asked options s → RunsUncut program asked options s shown stop end
    → take (length first) (entries_of shown) ≡ first
