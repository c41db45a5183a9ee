-- Runs that go on after so many steps, and how many lines there are to a run.
use Rattle.std.specs.Prelude.{◌≡◌, ℕ, ◌*◌, ◌<◌, ◌⊎◌, List}
use Rattle.std.proofs.Common.{suc}
use Rattle.run_reports.specs.progress.Lines.{steps_a_line, AreTold}
use Rattle.run_reports.specs.Below.{MachineCode, Collected, Leads, Observation, State}

-- so many steps are made from this state, of which none stops, and more may be made
abbrev pub GoesOn : MachineCode → ℕ → State → ℕ → Type 0
GoesOn code budget s steps = (steps < budget) × ((seen : List Observation) × (t : State) × Leads code steps s seen t)

-- so many steps are made from each of two states, which show the same and of which none stops, and more may be made
abbrev pub BothGoOn : MachineCode → ℕ → State → State → ℕ → Type 0
BothGoOn code budget s s' steps =
    (steps < budget)
    × ((seen : List Observation) × (t t' : State) × Leads code steps s seen t × Leads code steps s' seen t')

-- so many steps are made from one of two states at least, each with a budget of its own
abbrev pub OneGoesOn : MachineCode → ℕ → State → ℕ → State → ℕ → Type 0
OneGoesOn code budget s budget' s' steps = GoesOn code budget s steps ⊎ GoesOn code budget' s' steps

-- a run reaches so many lines: it goes on after as many times so many steps, or there is no line
abbrev pub Reaches : (ℕ → Type 0) → ℕ → Type 0
Reaches GoesOnAfter count = (count ≡ 0) ⊎ GoesOnAfter (count * steps_a_line)

-- and has so many: it does not reach one more
pub record HasLines (GoesOnAfter : ℕ → Type 0) (count : ℕ) : Type 0 where
  pub reached : Reaches GoesOnAfter count
  pub no_more : GoesOnAfter (suc count * steps_a_line) → ⊥

-- how many lines a run has or reaches, by the counts of steps after which it goes on
abbrev pub Counting : Type 1
Counting = (ℕ → Type 0) → ℕ → Type 0

-- the lines of a run went out whole, and no call failed; or one more call failed, and only a beginning of them went out
abbrev pub IsTold : Counting → (ℕ → Type 0) → Collected → Collected → Type 0
IsTold Has GoesOnAfter before after = (count : ℕ) × Has GoesOnAfter count × AreTold count before after
