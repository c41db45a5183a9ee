-- What a piece of code does wherever it stands: from every state of some kind it leads to behind its instructions in
-- an exact number of steps. What it shows is one list, given before the state, so all such states show the same.
use Rattle.std.specs.Prelude.{ℕ, ◌+◌, ◌*◌, List, length, map, Option}
use Rattle.linked_calls.specs.Below.{MachineCode, Contents, Event, Instr, LeadsWithin, Observation, Stand, State}
use Rattle.linked_calls.specs.Below.{state_at, word_of}

-- what a state holds beside its program counter: registers and bytes
abbrev pub Data : Type 0
Data = Contents

-- with a program counter
abbrev pub at : ℕ → Data → State
at p d = state_at p d

-- a run that shows this list, from the first of the instructions to behind the last
pub record RunOf (code : MachineCode) (start : ℕ) (is : List Instr) (steps : ℕ) (Allowed : ℕ → Option Event
    → Type 0) (list : List Observation) (After : Data → Data → Type 0) (s : Data) : Type 0 where
  pub end : Data
  pub leads : LeadsWithin code Allowed steps (at start s) list (at (start + 4 * length is) end)
  pub done : After s end

-- instructions from an address on: steps, the accesses that they make, by the stack pointer, what they begin in and
-- what they make of it
pub record Does (code : MachineCode) (start : ℕ) (is : List Instr) (steps : ℕ) (Allowed : ℕ → Option Event
    → Type 0) (Before : Data → Type 0) (After : Data → Data → Type 0) : Type 0 where
  pub shown : List Observation
  pub runs : (s : Data) → Before s → RunOf code start is steps Allowed shown After s

-- the words of instructions stand in code from an address on
abbrev pub AreThere : MachineCode → ℕ → List Instr → Type 0
AreThere code start is = Stand code start (map word_of is)
