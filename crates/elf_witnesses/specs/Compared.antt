-- What the entries that an observer sees of two runs are to each other.
use Rattle.std.specs.Prelude.{◌≡◌, ◌≢◌, ℕ, ◌<◌, ◌≤◌, List, [], ◌∷◌, ◌++◌, length}
use Rattle.elf_witnesses.specs.Below.{entries_of, IsFirstDifference, MachineProgram, Observation, ProgramRuns}
use Rattle.elf_witnesses.specs.Below.{RecorderRefused, State, Stop}
use Rattle.elf_witnesses.specs.declared.comparing.Comparison.{Comparison}
use Rattle.elf_witnesses.specs.declared.comparing.Comparison.TheVariants.{Differ, Same}
use Rattle.elf_witnesses.specs.declared.comparing.Reached.{Reached}

-- what a run of at most so many steps shows that no recorder cuts short
abbrev pub IsShown : MachineProgram → ℕ → State → List Observation → Type 0
IsShown program budget s seen =
    (stop : Stop) × (end : State) × ProgramRuns program budget s seen stop end × (stop ≢ RecorderRefused)

-- the last step of those that show this whose program counter is an entry before a place
pub record IsLastStep (seen : List Observation) (place : ℕ) (step : Reached) : Type 0 where
  pub earlier : List Observation
  pub shown : Observation
  pub later : List Observation
  pub whole : seen ≡ earlier ++ shown ∷ later
  pub counter : step.pc ≡ shown.pc
  pub entries : step.entries ≡ length (entries_of earlier)
  pub before : step.entries < place
  pub reached : place ≤ length (entries_of (earlier ++ shown ∷ []))

-- two runs show the same entries, or differ first at one; where some come before it, this is the last step of the first
-- run that begins before it
abbrev pub Compares : List Observation → List Observation → Comparison → Type 0
Compares seen seen' Same = entries_of seen ≡ entries_of seen'
Compares seen seen' (Differ entry step) =
    IsFirstDifference (entries_of seen) (entries_of seen') entry × (0 < entry → IsLastStep seen entry step)
