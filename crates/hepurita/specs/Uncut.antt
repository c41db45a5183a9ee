-- Runs of at most so many steps that no recorder cuts short.
use Rattle.std.specs.Prelude.{◌≢◌, ℕ, List}
use Rattle.hepurita.specs.Below.{Arg, MachineCode, code_at, Fields, loaded_at, Observation, RecorderRefused, RunsWithin}
use Rattle.hepurita.specs.Below.{State, Stop}
use Rattle.hepurita.specs.Bases.{code_base, frame_base}

-- the run shows this, and has this stop, which is `Budget` where no step has stopped, and this state
abbrev pub RunsUncut : MachineCode → ℕ → State → List Observation → Stop → State → Type 0
RunsUncut code budget s seen stop end = RunsWithin code budget s seen stop end × (stop ≢ RecorderRefused)

-- the same of an image, loaded with these arguments
abbrev pub RunsFor : ℕ → Fields → List Arg → List Observation → Stop → State → Type 0
RunsFor steps image args seen stop end =
    RunsUncut (code_at code_base image) steps (loaded_at code_base frame_base image args) seen stop end

-- within its steps it shows this and stops so
abbrev pub ImageEnds : Fields → List Arg → List Observation → Stop → Type 0
ImageEnds image args seen stop = (end : State) × RunsFor image.max_steps image args seen stop end
