-- How a certified run is answered.
use Rattle.std.specs.Prelude.{◌≡◌, ℕ, ◌+◌, List, length}
use Rattle.certified_runs.specs.Below.{entries_of, MachineProgram, Observation, State}
use Rattle.certified_runs.specs.Certified.{depends, ends, KnownLeads, KnownStep, may_differ, RunEnding, same}
use Rattle.certified_runs.specs.Known.{KnownState}
use Rattle.certified_runs.specs.declared.certifying.CertifiedEnd.{CertifiedEnd}
use Rattle.certified_runs.specs.declared.certifying.CertifiedEnd.TheVariants.{Same, MayDiffer}

-- by how many entries there are, and the stop; or by the entry behind that of the program counter of the step that
-- may differ
abbrev pub end_of : List Observation → RunEnding → CertifiedEnd
end_of seen (same stop) = Same stop (length (entries_of seen))
end_of seen (may_differ pc) = MayDiffer (length (entries_of seen) + 1) pc

-- the next step of what is known ends the run so
abbrev pub EndsSo : MachineProgram → KnownState → CertifiedEnd → Type 0
EndsSo program k (Same stop entries) = (seen : List Observation) × KnownStep program k (ends seen stop)
EndsSo program k (MayDiffer entry pc) = KnownStep program k depends

-- steps of what is known lead to this state, from which the next one ends the run so
abbrev pub ComesTo : MachineProgram → KnownState → State → CertifiedEnd → Type 0
ComesTo program k end answer =
    (n : ℕ) × (seen : List Observation) × (now : KnownState) × KnownLeads program n k seen now
    × (now.state ≡ end) × EndsSo program now answer
