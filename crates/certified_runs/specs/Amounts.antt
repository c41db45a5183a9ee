-- By how much registers are shifted: of an instruction, and of a whole run.
use Rattle.std.specs.Prelude.{ℕ, zero, suc, ◌%◌, ◌||◌, Bool, true, false, not, List, [], ◌∷◌, ◌++◌, if◌then◌else◌}
use Rattle.certified_runs.specs.Below.{goes_on, Instr, MachineProgram, Observation, ProgramStep, Register, register}
use Rattle.certified_runs.specs.Below.{StandsAt, State, Stop, stops}
use Rattle.rv_code.specs.declared.operations.RegisterOperation.{RegisterOperation}
use Rattle.rv_code.specs.declared.operations.RegisterOperation.TheVariants.{Sll, Srl, Sra}
use Rattle.certified_runs.specs.declared.shifts.Shifts.{Shifts}
use Rattle.certified_runs.specs.declared.shifts.Shifts.TheVariants.{Hidden, Seen}

-- whether an operation of two registers shifts the one by the other
abbrev pub is_shift : RegisterOperation → Bool
is_shift Sll = true
is_shift Srl = true
is_shift Sra = true
is_shift _ = false

-- whether the amount that an operation shifts by, if it shifts, is known as far as the observer sees it
abbrev pub decides_amount : Shifts → RegisterOperation → Bool → Bool
decides_amount Hidden operation known = true
decides_amount Seen operation known = not (is_shift operation) || known

-- the amount that a shift by a register goes by, the low five bits of that register; other instructions have none
abbrev pub amounts_of : Instr → (ℕ → ℕ) → List ℕ
amounts_of (Register operation rd rs1 rs2) regs = if is_shift operation then register regs rs2 % 32 ∷ [] else []
amounts_of _ regs = []

-- in a run of at most so many steps that no recorder cuts short, the shifts by registers go by these amounts, one
-- after another
pub data ShiftsBy (program : MachineProgram) : ℕ → State → List ℕ → Type 0 where
  spent : {s : State} → ShiftsBy program zero s []
  halts : {n : ℕ} {s : State} {seen : List Observation} {stop : Stop} → ProgramStep program s (stops seen stop)
      → ShiftsBy program (suc n) s []
  steps_on : {n : ℕ} {s t : State} {o : Observation} {amounts : List ℕ} (i : Instr) → StandsAt program s.pc i
      → ProgramStep program s (goes_on o t) → ShiftsBy program n t amounts
      → ShiftsBy program (suc n) s (amounts_of i s.regs ++ amounts)
