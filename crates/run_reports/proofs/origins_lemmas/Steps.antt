-- One step of a certified run, by runs of one step; and runs from where no instruction stands.
use Rattle.std.proofs.Common.{◌≡◌, ℕ, zero, suc, List, [], ◌∷◌, length, refl, ap, ◌∙◌, sym}
use Rattle.run_reports.specs.Below.{CertifiedEnd, CertifiedRun, cut, end_of, entries_of}
use Rattle.run_reports.specs.Below.{KnownLeads, KnownState, leads, MachineProgram}
use Rattle.run_reports.specs.Below.{may_differ, MayDiffer, Observation, RunEnding, same, Same, Stop}
use Rattle.run_reports.specs.origins.Below.{depends, ends, Instr, KnownEnding, KnownStep, leads_on, StandsAt}
use Rattle.certified_runs.specs.Certified.{decided, spent, halts, steps_on, stays, stopped, undecided}

module _ {program : MachineProgram} {k : KnownState} where
  -- a run of one step that may differ is one whose step depends
  pub depends_first : {seen : List Observation} (ending : RunEnding) (answer : CertifiedEnd) (entry pc : ℕ)
      → CertifiedRun program 1 k seen ending → answer ≡ end_of seen ending → answer ≡ MayDiffer entry pc
      → KnownStep program k depends
  depends_first ending answer entry pc (halts step) is other = cc
  depends_first ending answer entry pc (cut step) is other = step
  depends_first ending answer entry pc (steps_on step spent) is other = cc

  -- one that is the same, and does not lead on, stops
  pub ends_first : {seen : List Observation} (ending : RunEnding) (answer : CertifiedEnd) (stop : Stop) (entries : ℕ)
      → CertifiedRun program 1 k seen ending → answer ≡ end_of seen ending → answer ≡ Same stop entries
      → ((shown : List Observation) (later : KnownState) → KnownLeads program 1 k shown later → ⊥)
      → (last : List Observation) × (other : Stop) × KnownStep program k (ends last other)
  ends_first {seen} ending answer stop entries (halts {stop = other} step) is alike short = (seen, other, step)
  ends_first ending answer stop entries (cut step) is alike short = cc
  ends_first ending answer stop entries (steps_on {o = o} step spent) is alike short =
      absurd (short (o ∷ []) _ (leads step stays))

  -- one step that leads on
  pub leads_first : {seen : List Observation} {later : KnownState} → KnownLeads program 1 k seen later
      → (o : Observation) × KnownStep program k (leads_on o later) × (seen ≡ o ∷ [])
  leads_first (leads {o = o} step stays) = (o, step, refl)

  -- no instruction is at the program counter
  module _ (nowhere : (i : Instr) → StandsAt program k.state.pc i → ⊥) where
    not_depends : (ending : KnownEnding) → KnownStep program k ending → ending ≡ depends → ⊥
    not_depends ending (decided i at sure step) is = nowhere i at
    not_depends ending (stopped known step) is = cc
    not_depends ending (undecided i at unknown) is = nowhere i at

    not_leads : (ending : KnownEnding) {o : Observation} {next : KnownState} → KnownStep program k ending
        → ending ≡ leads_on o next → ⊥
    not_leads ending (decided i at sure step) is = nowhere i at
    not_leads ending (stopped known step) is = cc
    not_leads ending (undecided i at unknown) is = nowhere i at

    pub same_without : {n : ℕ} {seen : List Observation} {ending : RunEnding} → CertifiedRun program n k seen ending
        → (shown : List Observation) × (stop : Stop) × CertifiedRun program n k shown (same stop)
    same_without {seen = seen} spent = (seen, _, spent)
    same_without {seen = seen} (halts {stop = stop} step) = (seen, stop, halts step)
    same_without (cut step) = absurd (not_depends _ step refl)
    same_without (steps_on step rest) = absurd (not_leads _ step refl)
