-- The calls that lead to a step: those that were made and from which the run has not come back (RISC-V Unprivileged
-- ISA, "Unconditional Jumps": JAL and JALR with x1 as rd call, JALR with x0 as rd and x1 as rs1 returns).
use Rattle.std.specs.Prelude.{◌≡◌, ℕ, ◌==◌, ◌&&◌, List, [], ◌∷◌, length, drop, take, if◌then◌else◌}
use Rattle.elf_runs.specs.Below.{entries_of, Instr, Jump, JumpRegister, MachineProgram, Observation, ProgramLeads}
use Rattle.elf_runs.specs.Below.{StandsAt, State}

-- the most that are kept; older ones are forgotten
abbrev pub most_calls : ℕ
most_calls = 64

-- with a call at this address, the last one first
abbrev pub with_call : ℕ → List ℕ → List ℕ
with_call pc calls = take most_calls (pc ∷ calls)

-- the calls behind an instruction at this address
abbrev pub calls_behind : ℕ → Instr → List ℕ → List ℕ
calls_behind pc (Jump rd offset) calls = if rd == 1 then with_call pc calls else calls
calls_behind pc (JumpRegister rd rs1 offset) calls =
    if rd == 1 then with_call pc calls else (if rd == 0 && (rs1 == 1) then drop 1 calls else calls)
calls_behind pc _ calls = calls

-- the calls behind steps that showed this list, by those before
pub data CallsBehind (program : MachineProgram) : List ℕ → List Observation → List ℕ → Type 0 where
  no_step : {calls : List ℕ} → CallsBehind program calls [] calls
  step : {calls later : List ℕ} {o : Observation} {seen : List Observation} (i : Instr)
      → StandsAt program o.pc i → CallsBehind program (calls_behind o.pc i calls) seen later
      → CallsBehind program calls (o ∷ seen) later

-- the calls that lead to the step behind so many entries of a run from this state
abbrev pub LeadThere : MachineProgram → State → ℕ → List ℕ → Type 0
LeadThere program s entries calls =
    (n : ℕ) (seen : List Observation) (t : State)
    → ProgramLeads program n s seen t → length (entries_of seen) ≡ entries → CallsBehind program [] seen calls
