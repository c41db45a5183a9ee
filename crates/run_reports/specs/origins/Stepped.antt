-- What one step of what is known comes to.
use Rattle.std.specs.Prelude.{◌≡◌, ℕ, List, [], ◌∷◌, length}
use Rattle.run_reports.specs.Below.{entries_of, KnownState, MachineProgram}
use Rattle.run_reports.specs.Below.{Observation, Stop}
use Rattle.run_reports.specs.origins.Below.{depends, ends, KnownStep, leads_on}
use Rattle.run_reports.specs.declared.origins.steps.StepEnd.{StepEnd}
use Rattle.run_reports.specs.declared.origins.steps.StepEnd.TheVariants.{LeadsOn, Ends, Depends}

-- it shows so many entries and leads on to what is known next, or it stops, or what it shows may depend on what is
-- unknown
abbrev pub HasStepped : MachineProgram → KnownState → StepEnd → KnownState → Type 0
HasStepped program k (LeadsOn entries) next =
    (o : Observation) × KnownStep program k (leads_on o next) × (length (entries_of (o ∷ [])) ≡ entries)
HasStepped program k Ends next = (seen : List Observation) × (stop : Stop) × KnownStep program k (ends seen stop)
HasStepped program k Depends next = KnownStep program k depends
