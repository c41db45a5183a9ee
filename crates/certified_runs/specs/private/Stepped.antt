-- What one step of the engine comes to.
use Rattle.std.specs.Prelude.{◌≡◌, ℕ, List, [], ◌∷◌, is_some, length}
use Rattle.certified_runs.specs.Below.{ByteMap, entries_of, MachineProgram, Observation}
use Rattle.certified_runs.specs.Certified.{KnownStep, leads_on, ends, depends}
use Rattle.certified_runs.specs.Known.{KnownState}
use Rattle.certified_runs.specs.declared.steps.StepEnd.{StepEnd}
use Rattle.certified_runs.specs.declared.steps.StepEnd.TheVariants.{LeadsOn, Ends, Depends}

-- two maps have their data at the same addresses
abbrev pub HaveOneExtent : ByteMap → ByteMap → Type 0
HaveOneExtent one other = (a : ℕ) → is_some (one a) ≡ is_some (other a)

-- the step was made, showed so many entries and led on to what is known now, or stopped so, or it depends, and the
-- state stays
abbrev pub HasStepped : MachineProgram → KnownState → StepEnd → KnownState → Type 0
HasStepped program k (LeadsOn entries) next = (o : Observation) × KnownStep program k (leads_on o next)
    × (length (entries_of (o ∷ [])) ≡ entries)
HasStepped program k (Ends entries stop) next = (seen : List Observation) × KnownStep program k (ends seen stop)
    × (length (entries_of seen) ≡ entries) × (next.state ≡ k.state)
HasStepped program k Depends next = KnownStep program k depends × (next.state ≡ k.state)
