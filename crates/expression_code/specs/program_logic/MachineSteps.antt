-- Steps as those of `Leads`, of which more is known: something that holds of each of them, of the state before it, what
-- it shows, and the state after it. What steps keep, and what they show where the stack pointer, x2, is then, is said
-- so.
use Rattle.std.specs.Prelude.{◌≡◌, ℕ, ◌≤◌, List, [], ◌∷◌, Option}
use Rattle.std.proofs.Common.{zero, suc}
use Rattle.expression_code.specs.Below.{MachineCode, Event, goes_on, Observation, State, Step}

-- so many steps, none of which stops, lead from one state to another and show this list; this holds of each
pub data LeadsBy (code : MachineCode) (Each : State → Option Event → State → Type 0) : ℕ → State → List Observation
    → State
    → Type 0 where
  stays_by : {s : State} → LeadsBy code Each zero s [] s
  steps_by : {n : ℕ} {o : Observation} {seen : List Observation} {s t u : State} → Step code s (goes_on o t)
      → Each s o.event t → LeadsBy code Each n t seen u → LeadsBy code Each (suc n) s (o ∷ seen) u

-- each shows what is allowed where x2 is
abbrev pub LeadsWithin : MachineCode → (ℕ → Option Event → Type 0) → ℕ → State → List Observation → State → Type 0
LeadsWithin code Allowed n s seen t = LeadsBy code (λ before event behind. Allowed (before.regs 2) event) n s seen t

-- How steps are counted: so many and no other number, or no more than so many.

pub data Bound : Type 0 where
  exactly : Bound
  at_most : Bound

-- m steps are counted as n
abbrev pub IsCounted : Bound → ℕ → ℕ → Type 0
IsCounted exactly m n = m ≡ n
IsCounted at_most m n = m ≤ n
