-- The steps of a run, by the places of the entries that they show.
use Rattle.std.specs.Prelude.{◌≢◌, ◌⊎◌, ℕ, ◌<◌, ◌≤◌, List, [], ◌∷◌, ◌++◌, length}
use Rattle.run_reports.specs.Below.{MachineCode, entries_of, goes_on, Leads, Observation, RecorderRefused, RunsWithin}
use Rattle.run_reports.specs.Below.{State, Stop, stops, Step}

-- a run of at most so many steps, which no recorder cuts short, shows this and stops so
abbrev pub Ends : MachineCode → ℕ → State → List Observation → Stop → Type 0
Ends code budget s seen stop = (end : State) × RunsWithin code budget s seen stop end × (stop ≢ RecorderRefused)

-- the step from a state shows this, and goes on or stops
abbrev pub ShowsNext : MachineCode → State → Observation → Type 0
ShowsNext code t o = ((u : State) × Step code t (goes_on o u)) ⊎ ((stop : Stop) × Step code t (stops (o ∷ []) stop))

-- steps that show this list lead to a state, and the next one is the last whose program counter is an entry before
-- the place, so that the place is at most the one behind its entries
pub record IsLastBefore (code : MachineCode) (budget : ℕ) (s : State) (place : ℕ) (seen : List Observation)
    (t : State) :
    Type 0 where
  pub leads : Leads code (length seen) s seen t
  pub within : length seen < budget
  pub next : Observation
  pub shown : ShowsNext code t next
  pub before : length (entries_of seen) < place
  pub reached : place ≤ length (entries_of (seen ++ next ∷ []))

-- the run shows fewer entries than that
abbrev pub ShowsFewer : MachineCode → ℕ → State → ℕ → Type 0
ShowsFewer code budget s place = (seen : List Observation) × (stop : Stop) × Ends code budget s seen stop
    × (length (entries_of seen) < place)
