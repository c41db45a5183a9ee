-- By how much covered states shift: where the amounts are seen, by what is known.
use Rattle.std.specs.Prelude.{◌||◌, not, if◌then◌else◌}
use Rattle.std.proofs.Common.{◌≡◌, ℕ, zero, suc, ◌%◌, Bool, true, false, List, [], ◌∷◌, ◌++◌, refl, sym, ap₂, ◌∙◌, inl, inr}
use Rattle.certified_runs.specs.Below.{goes_on, Instr, MachineProgram, Observation, Profile, profile_of, ProgramStep}
use Rattle.certified_runs.specs.Below.{Register, register, StandsAt, State, StepEnding, Stop, stops}
use Rattle.certified_runs.proofs.Below.{goes_on-determined, goes_on≢stops, step_of_state}
use Rattle.certified_runs.specs.Amounts.{is_shift, amounts_of, ShiftsBy, spent, halts, steps_on}
use Rattle.certified_runs.specs.Known.{KnownState, part, Covers}
use Rattle.certified_runs.specs.Bits.{is_known_amount}
use Rattle.certified_runs.specs.Certified as certified
use Rattle.certified_runs.specs.Certified.{decides, known_after, KnownStep, leads_on, decided, same, CertifiedRun}
use Rattle.certified_runs.specs.declared.shifts.Shifts.TheVariants.{Seen}
use Rattle.certified_runs.proofs.KnownSteps.{one_instruction, standing}
use Rattle.certified_runs.proofs.Rows.{same_amount}
use Rattle.certified_runs.proofs.Runs.{leads_kept, stop_kept}

-- A run has one list of amounts.

pub amounts_determined : {program : MachineProgram} {budget : ℕ} {s : State} {amounts others : List ℕ}
    → ShiftsBy program budget s amounts → ShiftsBy program budget s others → amounts ≡ others
amounts_determined spent spent = refl
amounts_determined (halts step) (halts step') = refl
amounts_determined (halts step) (steps_on i at step' rest) = absurd (goes_on≢stops step' step)
amounts_determined (steps_on i at step rest) (halts step') = absurd (goes_on≢stops step step')
amounts_determined {s = s} (steps_on i at step rest) (steps_on j at' step' rest') =
    ap₂ (λ x xs. amounts_of x s.regs ++ xs) (one_instruction at at')
    (amounts_determined rest (rw (goes_on-determined step' step).1 at rest'))

-- Each run has such a list.

abbrev pub HasAmounts : MachineProgram → ℕ → State → Type 0
HasAmounts program n s = (amounts : List ℕ) × ShiftsBy program n s amounts

module _ (program : MachineProgram) (n : ℕ) (s : State) (after : (t : State) → HasAmounts program n t) where
  executed : (ending : StepEnding) (i : Instr) → StandsAt program s.pc i → ProgramStep program s ending
      → HasAmounts program (suc n) s
  executed (goes_on o t) i at step = let rest = after t in (amounts_of i s.regs ++ rest.0, steps_on i at step rest.1)
  executed (stops seen stop) i at step = ([], halts step)

  amounts_from : {ending : StepEnding} → ProgramStep program s ending → HasAmounts program (suc n) s
  amounts_from {ending} step = elim (standing program s step) [
    | inl there ↦ executed ending there.0 there.1 step
    | inr nowhere ↦ ([], halts (rw nowhere.3 at step))
  ]

pub some_amounts : (program : MachineProgram) (budget : ℕ) (s : State) → HasAmounts program budget s
some_amounts program zero s = ([], spent)
some_amounts program (suc n) s = amounts_from program n s (λ t. some_amounts program n t) (step_of_state program s).1

-- Where shifts are seen, what decides an instruction decides its amount.

amount_same : (shift known : Bool) (a a' : ℕ) → (not shift || known) ≡ true → (known ≡ true → a' % 32 ≡ a % 32)
    → ◌≡◌ {A = List ℕ} (if shift then a' % 32 ∷ [] else []) (if shift then a % 32 ∷ [] else [])
amount_same true known a a' sure value = rw (value sure)
amount_same false known a a' sure value = refl

module _ (k : KnownState) (s : State) (covers : Covers k s) where
  amounts_same : (profile : Profile) (i : Instr) → k.shifts ≡ Seen → decides profile i k ≡ true
      → amounts_of i s.regs ≡ amounts_of i k.state.regs
  amounts_same profile (Register operation rd rs1 rs2) seen sure =
      amount_same (is_shift operation) (is_known_amount (part k rs2)) (register k.state.regs rs2)
      (register s.regs rs2) (rw seen at sure) (same_amount (covers.registers rs2))
  amounts_same profile _ seen sure = refl

-- So all covered states shift by the amounts of one list.

abbrev pub AllShiftBy : MachineProgram → ℕ → KnownState → List ℕ → Type 0
AllShiftBy program budget k amounts = (s : State) → Covers k s → ShiftsBy program budget s amounts

all_step : {program : MachineProgram} {n : ℕ} {k next : KnownState} {o : Observation} {amounts : List ℕ} → k.shifts ≡ Seen
    → KnownStep program k (leads_on o next) → AllShiftBy program n next amounts
    → (more : List ℕ) × AllShiftBy program (suc n) k (more ++ amounts)
all_step {program} {k = k} {o = o} shown (decided {t = t} i at sure step) rest = (
  amounts_of i k.state.regs,
  λ s covers.
      let first = leads_kept program k s covers o (known_after i k t) (decided i at sure step) in
      let there : StandsAt program s.pc i = rw covers.pc at in
      rw (sym (amounts_same k s covers (profile_of (program.code k.state.pc)) i shown sure))
      (steps_on i there first.1 (rest first.0 first.2)),
)

kept_shifts : {program : MachineProgram} {k next : KnownState} {o : Observation} → KnownStep program k (leads_on o next)
    → next.shifts ≡ k.shifts
kept_shifts (decided i at sure step) = refl

pub all_shift_alike : {program : MachineProgram} {budget : ℕ} {k : KnownState} {seen : List Observation} {stop : Stop}
    → CertifiedRun program budget k seen (same stop) → k.shifts ≡ Seen
    → (amounts : List ℕ) × AllShiftBy program budget k amounts
all_shift_alike certified.spent shown = ([], λ s covers. spent)
all_shift_alike {program} (certified.halts {k = k} {seen = seen} {stop = stop} step) shown =
    ([], λ s covers. halts (stop_kept program k s covers seen stop step))
all_shift_alike (certified.steps_on step rest) shown =
    let after = all_shift_alike rest (kept_shifts step ∙ shown) in
    let first = all_step shown step after.1 in
    (first.0 ++ after.0, first.1)

pub shifts_agree : {program : MachineProgram} {budget : ℕ} {k : KnownState} {s t : State} {seen : List Observation}
    {stop : Stop}
    {amounts others : List ℕ} → CertifiedRun program budget k seen (same stop) → k.shifts ≡ Seen → Covers k s
    → Covers k t → ShiftsBy program budget s amounts → ShiftsBy program budget t others → amounts ≡ others
shifts_agree {s = s} {t = t} run shown covers covers' by by' =
    let all = (all_shift_alike run shown).1 in
    amounts_determined by (all s covers) ∙ amounts_determined (all t covers') by'
