-- The listings of runs: a line for each entry that an observer sees, and then the stop.
use Rattle.std.specs.Prelude.{◌≡◌, ◌≢◌, ℕ, ◌++◌, List}
use Rattle.listing.specs.Below.{MachineCode, MachineProgram, Observation, ProgramRuns, RecorderRefused, RunsUncut}
use Rattle.listing.specs.Below.{State, Stop}
use Rattle.listing.specs.Lines.{lines_of, stop_line}

-- the listing of what was seen, and of this stop
abbrev pub listing : List Observation → Stop → List ℕ
listing seen stop = lines_of seen ++ stop_line stop

-- a run of at most so many steps, which no recorder cuts short, shows this and stops so
abbrev pub Ends : MachineCode → ℕ → State → List Observation → Stop → Type 0
Ends code budget s seen stop = (end : State) × RunsUncut code budget s seen stop end

-- these bytes are the listing of a run of at most so many steps, which stops so
abbrev pub IsListing : MachineCode → ℕ → State → Stop → List ℕ → Type 0
IsListing code budget s stop bytes = (seen : List Observation) × Ends code budget s seen stop
    × (bytes ≡ listing seen stop)

-- a run of a program of at most so many steps, which no recorder cuts short, shows this, stops so and leaves this state
abbrev pub ProgramEnds : MachineProgram → ℕ → State → List Observation → Stop → State → Type 0
ProgramEnds program budget s seen stop end = ProgramRuns program budget s seen stop end × (stop ≢ RecorderRefused)

-- these bytes are the lines of what such a run shows
abbrev pub AreLines : MachineProgram → ℕ → State → Stop → State → List ℕ → Type 0
AreLines program budget s stop end bytes =
    (seen : List Observation) × ProgramEnds program budget s seen stop end × (bytes ≡ lines_of seen)
