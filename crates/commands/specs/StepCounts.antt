-- How many steps a run makes, and the line that says so.
use Rattle.std.specs.Prelude.{◌≡◌, ℕ, ◌≤◌, Bool, true, false, List, ◌++◌, codes}
use Rattle.std.specs.Fmt.{decimal}
use Rattle.commands.specs.Below.{Arg, code_at, code_base, Collected, Fields, frame_base, Halts, IsPut, Leads}
use Rattle.commands.specs.Below.{loaded_at, MachineCode, Observation, State, Stop}

-- so many steps are made from a state, where at most `budget` may be: those up to the first that stops, which counts
-- too; or as many as may be, where none stops
pub data MakesSteps (code : MachineCode) (budget : ℕ) (s : State) : ℕ → Type 0 where
  until_stop : {steps : ℕ} {seen : List Observation} {stop : Stop} {t : State} → steps ≤ budget
      → Halts code steps s seen stop t → MakesSteps code budget s steps
  all : {seen : List Observation} {t : State} → Leads code budget s seen t → MakesSteps code budget s budget

-- so many steps an image's run on arguments makes
abbrev pub RunMakes : Fields → List Arg → ℕ → Type 0
RunMakes image args = MakesSteps (code_at code_base image) image.max_steps (loaded_at code_base frame_base image args)

-- the line of so many steps
abbrev pub steps_line : ℕ → List ℕ
steps_line steps = codes "steps " ++ decimal steps ++ codes "\n"

-- that line of a run goes out, where it is asked for: all of it, or a beginning where a call fails
abbrev pub TellsSteps : Bool → (ℕ → Type 0) → Collected → Collected → Type 0
TellsSteps false Makes before after = after ≡ before
TellsSteps true Makes before after = (steps : ℕ) × Makes steps × IsPut (steps_line steps) before after
