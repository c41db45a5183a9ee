-- A certified run has one end.
use Rattle.std.proofs.Common.{◌≡◌, ℕ, zero, suc, Bool, true, false, List, [], ◌∷◌, refl, sym, inl, inr}
use Rattle.std.proofs.lemmas.Bool.{both_ways}
use Rattle.certified_runs.specs.Below.{Budget, goes_on, Instr, MachineProgram, Observation, ProgramStep, StandsAt}
use Rattle.certified_runs.specs.Below.{StepEnding, stops}
use Rattle.certified_runs.proofs.Below.{goes_on-determined, goes_on≢stops, Step-determined, step_of_state}
use Rattle.certified_runs.specs.Known.{KnownState}
use Rattle.certified_runs.specs.Certified.{is_decided, known_after, KnownEnding, leads_on, ends, depends, KnownStep}
use Rattle.certified_runs.specs.Certified.{decided, stopped, undecided, RunEnding, same, may_differ, CertifiedRun}
use Rattle.certified_runs.specs.Certified.{spent, halts, cut, steps_on}
use Rattle.certified_runs.proofs.KnownSteps.{one_instruction, standing}

-- what decides an instruction at the program counter is known or not
unsure : (program : MachineProgram) (k : KnownState) {i j : Instr} → StandsAt program k.state.pc i → StandsAt program k.state.pc j
    → is_decided program k i ≡ true → is_decided program k j ≡ false → ⊥
unsure program k at at' sure unknown = both_ways _ (rw (sym (one_instruction at at')) at unknown) sure

-- what is known has one step
pub KnownStep-determined : {program : MachineProgram} {k : KnownState} {e f : KnownEnding} → KnownStep program k e
    → KnownStep program k f → e ≡ f
KnownStep-determined (decided i at sure step) (decided j at' sure' step') =
    let is = one_instruction at at' in
    let same = goes_on-determined step step' in
    let seen = same.0 in
    let next = same.1 in
    cc
KnownStep-determined (decided i at sure step) (stopped known step') = absurd (goes_on≢stops step step')
KnownStep-determined {program} {k = k} (decided i at sure step) (undecided j at' unknown) = absurd (unsure program k at at' sure unknown)
KnownStep-determined (stopped known step) (decided i at sure step') = absurd (goes_on≢stops step' step)
KnownStep-determined (stopped known step) (stopped known' step') = let end = Step-determined step step' in cc
KnownStep-determined {program} {k = k} (stopped known step) (undecided j at unknown) =
    absurd (unsure program k at at (known j at) unknown)
KnownStep-determined {program} {k = k} (undecided i at unknown) (decided j at' sure step) = absurd (unsure program k at' at sure unknown)
KnownStep-determined {program} {k = k} (undecided i at unknown) (stopped known step) =
    absurd (unsure program k at at (known i at) unknown)
KnownStep-determined (undecided i at unknown) (undecided j at' unknown') = refl

pub one_end : {program : MachineProgram} {budget : ℕ} {k : KnownState} {seen shown : List Observation}
    {ending other : RunEnding}
    → CertifiedRun program budget k seen ending → CertifiedRun program budget k shown other
    → (seen ≡ shown) × (ending ≡ other)
one_end spent spent = (refl, refl)
one_end (halts step) (halts step') = let e = KnownStep-determined step step' in (cc, cc)
one_end (halts step) (cut step') = let e = KnownStep-determined step step' in cc
one_end (halts step) (steps_on step' rest) = let e = KnownStep-determined step step' in cc
one_end (cut step) (halts step') = let e = KnownStep-determined step step' in cc
one_end (cut step) (cut step') = (refl, refl)
one_end (cut step) (steps_on step' rest) = let e = KnownStep-determined step step' in cc
one_end (steps_on step rest) (halts step') = let e = KnownStep-determined step step' in cc
one_end (steps_on step rest) (cut step') = let e = KnownStep-determined step step' in cc
one_end (steps_on {next = next} {o = o} step rest) (steps_on {next = next'} {o = o'} step' rest') =
    let e = KnownStep-determined step step' in
    let first : o ≡ o' = cc in
    let then : next' ≡ next = cc in
    let both = one_end rest (rw then at rest') in
    (rw (first, both.0), both.1)

-- Every certified run has an end.

module _ (program : MachineProgram) (k : KnownState) where
  step_made : (i : Instr) → StandsAt program k.state.pc i → is_decided program k i ≡ true
      → (ending : StepEnding) → ProgramStep program k.state ending → (e : KnownEnding) × KnownStep program k e
  step_made i at sure (goes_on o t) step = (leads_on o (known_after i k t), decided i at sure step)
  step_made i at sure (stops seen stop) step =
      (ends seen stop, stopped (λ j there. rw (one_instruction there at) sure) step)

  step_asked : (i : Instr) → StandsAt program k.state.pc i → (b : Bool) → is_decided program k i ≡ b
      → (ending : StepEnding) → ProgramStep program k.state ending → (e : KnownEnding) × KnownStep program k e
  step_asked i at true sure ending step = step_made i at sure ending step
  step_asked i at false unknown ending step = (depends, undecided i at unknown)

  step_from : {ending : StepEnding} → ProgramStep program k.state ending → (e : KnownEnding) × KnownStep program k e
  step_from {ending} step = elim (standing program k.state step) [
    | inl there ↦ step_asked there.0 there.1 (is_decided program k there.0) refl ending step
    | inr nowhere ↦ (_, stopped (λ i at. absurd (nowhere.0 i at)) (rw nowhere.3 at step))
  ]

  pub some_step : (e : KnownEnding) × KnownStep program k e
  some_step = step_from (step_of_state program k.state).1

abbrev pub HasEnd : MachineProgram → ℕ → KnownState → Type 0
HasEnd program n k = (seen : List Observation) × (ending : RunEnding) × CertifiedRun program n k seen ending

end_after : (program : MachineProgram) (n : ℕ) (k : KnownState) → ((next : KnownState) → HasEnd program n next) →
    (e : KnownEnding)
    → KnownStep program k e → HasEnd program (suc n) k
end_after program n k runs (leads_on o next) step =
    let rest = runs next in
    (o ∷ rest.0, rest.1, steps_on step rest.2)
end_after program n k runs (ends seen stop) step = (seen, same stop, halts step)
end_after program n k runs depends step = ([], may_differ k.state.pc, cut step)

pub some_end : (program : MachineProgram) (n : ℕ) (k : KnownState) → HasEnd program n k
some_end program zero k = ([], same Budget, spent)
some_end program (suc n) k =
    let step = some_step program k in
    end_after program n k (λ next. some_end program n next) step.0 step.1
