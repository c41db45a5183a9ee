-- Certified runs that go on after so many steps, and the end of one of which entries were counted before.
use Rattle.std.specs.Prelude.{ℕ, ◌+◌, ◌<◌, List}
use Rattle.run_reports.specs.Below.{CertifiedEnd, KnownLeads, KnownState, MachineProgram, MayDiffer}
use Rattle.run_reports.specs.Below.{Observation, Same}

-- so many steps of what is known are made, of which none stops or depends, and more may be made
abbrev pub GoesOnKnown : MachineProgram → ℕ → KnownState → ℕ → Type 0
GoesOnKnown program budget k steps =
    (steps < budget) × ((seen : List Observation) × (later : KnownState) × KnownLeads program steps k seen later)

-- how many entries are counted at an end
abbrev pub entries_at : CertifiedEnd → ℕ
entries_at (Same stop entries) = entries
entries_at (MayDiffer entry pc) = entry

-- the end of a run of which so many entries were shown before
abbrev pub end_behind : ℕ → CertifiedEnd → CertifiedEnd
end_behind before (Same stop entries) = Same stop (before + entries)
end_behind before (MayDiffer entry pc) = MayDiffer (before + entry) pc
