-- A certified run in progress, and where what is unknown of registers comes from.
use Rattle.std.proofs.Common.{◌≡◌, ℕ, suc, ◌+◌, ◌-◌, ◌*◌, ◌<◌, ◌≤◌, List, [], ◌∷◌, ◌++◌, length, refl, sym, ap, ◌∙◌, arith}
use Rattle.std.proofs.Common.{add-one, subst}
use Rattle.certified_runs.proofs.Ends.{KnownLeads-more, run_after}
use Rattle.certified_runs.specs.Certified.{halts, spent, stays}
use Rattle.rv_machine.proofs.Face.{count-few, entry_count-append}
use Rattle.run_reports.specs.Below.{CertifiedRun, entries_of, KnownLeads, KnownState}
use Rattle.run_reports.specs.Below.{MachineProgram, Observation, same, Stop}
use Rattle.run_reports.specs.origins.Below.{depends, ends, Instr, KnownStep, leads_on, StandsAt}
use Rattle.run_reports.specs.origins.Origins.{origins_after}
use Rattle.run_reports.specs.origins.Traced.{begins, ComesToDiffer, goes_on, Traced}
use Rattle.run_reports.specs.declared.origins.registers.Origin.{Origin}
use Rattle.run_reports.specs.declared.origins.registers.Origin.TheVariants.{Start}
use Rattle.run_reports.proofs.origins_lemmas.Steps.{same_without}
use Rattle.run_reports.proofs.progress_lemmas.KnownPieces.{few_of_leads}
use Rattle.certified_runs.proofs.OneEnd.{some_end}

-- so many steps were made, which show so many entries, and the origins are those behind them
abbrev pub HasTraced : MachineProgram → KnownState → ℕ → KnownState → (ℕ → Origin) → ℕ → Type 0
HasTraced program k n now origins entries =
    (seen : List Observation) × KnownLeads program n k seen now × Traced program k seen now origins
    × (length (entries_of seen) ≡ entries)

pub none_traced : (program : MachineProgram) (k : KnownState) (origins : ℕ → Origin) → origins ≡ Start
    → HasTraced program k 0 k origins 0
none_traced program k origins at_start = ([], stays, subst (λ (o : ℕ → Origin). Traced program k [] k o) (sym at_start) begins, refl)

-- the run ends so
abbrev pub IsSame : MachineProgram → ℕ → KnownState → Type 0
IsSame program budget k = (seen : List Observation) × (stop : Stop) × CertifiedRun program budget k seen (same stop)

module _ {program : MachineProgram} {k now : KnownState} {n entries : ℕ} {origins : ℕ → Origin}
    (made : HasTraced program k n now origins entries) where
  pub few_traced : {o : Observation} {next : KnownState} (more : ℕ) → KnownStep program now (leads_on o next)
      → length (entries_of (o ∷ [])) ≡ more → entries + more ≤ 2 * n + 2
  few_traced {o} more step many = omega (arith, few_of_leads made.1, made.3, many, count-few o)

  pub one_more_traced : {o : Observation} {next : KnownState} (i : Instr) (after : ℕ → Origin) (more : ℕ)
      → StandsAt program now.state.pc i → KnownStep program now (leads_on o next)
      → length (entries_of (o ∷ [])) ≡ more → after ≡ origins_after entries now origins i
      → HasTraced program k (n + 1) next after (entries + more)
  one_more_traced {o} {next} i after more at step many is =
      let seen = made.0 in (
        seen ++ o ∷ [],
        rw add-one (KnownLeads-more made.1 step),
        subst (λ (origins : ℕ → Origin). Traced program k (seen ++ o ∷ []) next origins)
            (ap (λ (entry : ℕ). origins_after entry now origins i) made.3 ∙ sym is)
            (goes_on i made.2 at step),
        omega (arith, entry_count-append seen (o ∷ []), made.3, many),
      )

  -- it ends where no instruction stands, where a step stops, and where no step is left
  pub same_here : (budget : ℕ) → n ≤ budget → ((i : Instr) → StandsAt program now.state.pc i → ⊥)
      → IsSame program budget k
  same_here budget within nowhere =
      let rest = same_without nowhere (some_end program (budget - n) now).2 in
      (_, rest.1, run_after made.1 rest.2 (omega (arith, within)))

  pub same_by : {last : List Observation} {stop : Stop} (budget : ℕ) → n < budget
      → KnownStep program now (ends last stop) → IsSame program budget k
  same_by {stop = stop} budget within step =
      (_, stop, run_after made.1 (halts {n = budget - n - 1} step) (omega (arith, within)))

  pub same_at_last : (budget : ℕ) → n ≡ budget → IsSame program budget k
  same_at_last budget all = (_, _, run_after made.1 spent (omega (arith, all)))

  -- it comes to a step that may differ
  pub comes_to : (i : Instr) (masks : ℕ → ℕ) → StandsAt program now.state.pc i → KnownStep program now depends
      → now.registers ≡ masks → ComesToDiffer program k i masks origins
  comes_to i masks at step are = record {
    seen = made.0;
    there = now;
    traced = made.2;
    differs = step;
    at = at;
    unknown = are;
  }
