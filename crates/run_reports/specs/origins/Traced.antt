-- Certified runs, and where what is unknown of registers comes from along them.
use Rattle.std.specs.Prelude.{◌≡◌, ℕ, List, [], ◌∷◌, ◌++◌, length}
use Rattle.run_reports.specs.Below.{entries_of, KnownState, MachineProgram}
use Rattle.run_reports.specs.Below.{Observation}
use Rattle.run_reports.specs.origins.Below.{depends, Instr, KnownStep, leads_on, StandsAt}
use Rattle.run_reports.specs.origins.Origins.{origins_after}
use Rattle.run_reports.specs.declared.origins.registers.Origin.{Origin}
use Rattle.run_reports.specs.declared.origins.registers.Origin.TheVariants.{Start}

-- steps of what is known that show this list lead to what is known then, and what is unknown of the registers comes
-- from there; at first it comes from the registers themselves
pub data Traced (program : MachineProgram) (k : KnownState) : List Observation → KnownState → (ℕ → Origin)
    → Type 0 where
  begins : Traced program k [] k Start
  goes_on : {seen : List Observation} {now next : KnownState} {origins : ℕ → Origin} {o : Observation} (i : Instr)
      → Traced program k seen now origins
      → StandsAt program now.state.pc i
      → KnownStep program now (leads_on o next)
      → Traced program k (seen ++ o ∷ []) next (origins_after (length (entries_of seen)) now origins i)

-- steps lead to one that may differ, of this instruction, and what is unknown of the registers is this and comes
-- from there
pub record ComesToDiffer (program : MachineProgram) (k : KnownState) (i : Instr) (masks : ℕ → ℕ)
    (origins : ℕ → Origin) : Type 0 where
  pub seen : List Observation
  pub there : KnownState
  pub traced : Traced program k seen there origins
  pub differs : KnownStep program there depends
  pub at : StandsAt program there.state.pc i
  pub unknown : there.registers ≡ masks
