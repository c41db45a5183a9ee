-- A step and a run of what is known of a state. What instructions compute, and how steps end, is the machine's own.
use Rattle.std.specs.Prelude.{◌≡◌, ℕ, ◌==◌, ◌&&◌, ◌||◌, Bool, true, false, List, [], ◌∷◌}
use Rattle.std.proofs.Common.{zero, suc}
use Rattle.certified_runs.specs.Below.{address_of, Branch, Budget, byte_count, ByteMap, Divide, Ebreak, Ecall, Fence}
use Rattle.certified_runs.specs.Below.{goes_on, Immediate, Instr, Jump, JumpRegister, Load, load_size, loaded_value}
use Rattle.certified_runs.specs.Below.{MachineProgram, Multiply, number_at, Observation, P1, P2, Profile, profile_of}
use Rattle.certified_runs.specs.Below.{ProgramStep, Register, Shift, shift_value, sign_extended, StandsAt, State}
use Rattle.certified_runs.specs.Below.{Stop, stops, Store, store_size, Upper, with_number}
use Rattle.certified_runs.specs.Amounts.{decides_amount}
use Rattle.certified_runs.specs.Bits.{are_known, cancels, decides_branch, divide_unknown, immediate_unknown}
use Rattle.certified_runs.specs.Bits.{is_known_amount, multiply_unknown, partly, register_unknown, unless}
use Rattle.certified_runs.specs.Known.{KnownState, knows, number_unknown, part, unknown, with_register_unknown}

-- whether a product is known as far as the observer of this profile sees it
abbrev pub decides_product : Profile → Bool → Bool
decides_product P1 known = true
decides_product P2 known = known

-- whether what an instruction shows, and where it leads, is decided by what is known: what a branch compares, as far as
-- it goes by it, a jump goes by, an access is addressed by, a division is of, and, where its operands are seen, a
-- product; and by what a register is shifted, where that is seen
abbrev pub decides : Profile → Instr → KnownState → Bool
decides profile (Upper operation rd immediate) k = true
decides profile (Jump rd offset) k = true
decides profile (JumpRegister rd rs1 offset) k = knows k rs1
decides profile (Branch test rs1 rs2 offset) k = rs1 == rs2 || decides_branch test (part k rs1) (part k rs2)
decides profile (Load operation rd rs1 offset) k = knows k rs1
decides profile (Store operation rs2 rs1 offset) k = knows k rs1
decides profile (Immediate operation rd rs1 immediate) k = true
decides profile (Shift operation rd rs1 amount) k = true
decides profile (Register operation rd rs1 rs2) k = decides_amount k.shifts operation (is_known_amount (part k rs2))
decides profile (Multiply operation rd rs1 rs2) k = decides_product profile (are_known (part k rs1) (part k rs2))
decides profile (Divide operation rd rs1 rs2) k = are_known (part k rs1) (part k rs2)
decides profile (Fence mode before after rs1 rd) k = true
decides profile Ecall k = true
decides profile Ebreak k = true

-- the unknown bits of the registers after an instruction: those of what it gave a register are as its operation's row
-- says
abbrev pub registers_after : Instr → KnownState → ℕ → ℕ
registers_after (Upper operation rd immediate) k = with_register_unknown k.registers rd 0
registers_after (Jump rd offset) k = with_register_unknown k.registers rd 0
registers_after (JumpRegister rd rs1 offset) k = with_register_unknown k.registers rd 0
registers_after (Branch test rs1 rs2 offset) k = k.registers
registers_after (Load operation rd rs1 offset) k =
    let a = address_of k.state.regs rs1 offset in
    with_register_unknown k.registers rd
    (loaded_value operation (number_unknown (number_at k.bytes (byte_count (load_size operation)) a)))
registers_after (Store operation rs2 rs1 offset) k = k.registers
registers_after (Immediate operation rd rs1 immediate) k =
    with_register_unknown k.registers rd
    (immediate_unknown operation (part k rs1) (partly 0 (sign_extended 12 immediate)))
registers_after (Shift operation rd rs1 amount) k =
    with_register_unknown k.registers rd (shift_value operation (unknown k.registers rs1) amount)
registers_after (Register operation rd rs1 rs2) k =
    with_register_unknown k.registers rd
    (unless (rs1 == rs2 && cancels operation) (register_unknown operation (part k rs1) (part k rs2)))
registers_after (Multiply operation rd rs1 rs2) k =
    with_register_unknown k.registers rd (multiply_unknown operation (part k rs1) (part k rs2))
registers_after (Divide operation rd rs1 rs2) k =
    with_register_unknown k.registers rd (divide_unknown operation (part k rs1) (part k rs2))
registers_after (Fence mode before after rs1 rd) k = k.registers
registers_after Ecall k = k.registers
registers_after Ebreak k = k.registers

-- the unknown bits of the bytes after an instruction: those that it stored have the register's
abbrev pub bytes_after : Instr → KnownState → ByteMap
bytes_after (Store operation rs2 rs1 offset) k =
    with_number k.bytes (byte_count (store_size operation)) (address_of k.state.regs rs1 offset)
    (unknown k.registers rs2)
bytes_after _ k = k.bytes

-- what is known after an instruction that leads to this state
abbrev pub known_after : Instr → KnownState → State → KnownState
known_after i k t = record { state = t; registers = registers_after i k; bytes = bytes_after i k; shifts = k.shifts }

-- the same of an instruction at the program counter of a program
abbrev pub is_decided : MachineProgram → KnownState → Instr → Bool
is_decided program k i = decides (profile_of (program.code k.state.pc)) i k

-- how a step ends: it shows an observation and goes on, or it stops, having shown at most one, or what it shows may
-- depend on what is unknown
pub data KnownEnding : Type 0 where
  leads_on : Observation → KnownState → KnownEnding
  ends : List Observation → Stop → KnownEnding
  depends : KnownEnding

-- one step of what is known
pub data KnownStep (program : MachineProgram) (k : KnownState) : KnownEnding → Type 0 where
  decided : {o : Observation} {t : State} (i : Instr) → StandsAt program k.state.pc i
      → is_decided program k i ≡ true → ProgramStep program k.state (goes_on o t)
      → KnownStep program k (leads_on o (known_after i k t))
  stopped : {seen : List Observation} {stop : Stop}
      → ((i : Instr) → StandsAt program k.state.pc i → is_decided program k i ≡ true)
      → ProgramStep program k.state (stops seen stop) → KnownStep program k (ends seen stop)
  undecided : (i : Instr) → StandsAt program k.state.pc i → is_decided program k i ≡ false
      → KnownStep program k depends

-- how a run ends: it is the same for all that is unknown and stops so, or the step at this program counter may depend
-- on it
pub data RunEnding : Type 0 where
  same : Stop → RunEnding
  may_differ : ℕ → RunEnding

-- steps until one stops or depends, or as many as the budget; what they show
pub data CertifiedRun (program : MachineProgram) : ℕ → KnownState → List Observation → RunEnding → Type 0 where
  spent : {k : KnownState} → CertifiedRun program zero k [] (same Budget)
  halts : {n : ℕ} {k : KnownState} {seen : List Observation} {stop : Stop} → KnownStep program k (ends seen stop)
      → CertifiedRun program (suc n) k seen (same stop)
  cut : {n : ℕ} {k : KnownState} → KnownStep program k depends
      → CertifiedRun program (suc n) k [] (may_differ k.state.pc)
  steps_on : {n : ℕ} {k next : KnownState} {o : Observation} {seen : List Observation} {ending : RunEnding}
      → KnownStep program k (leads_on o next) → CertifiedRun program n next seen ending
      → CertifiedRun program (suc n) k (o ∷ seen) ending

-- so many steps of what is known, of which none stops or depends, lead to what is known then; what they show
pub data KnownLeads (program : MachineProgram) : ℕ → KnownState → List Observation → KnownState → Type 0 where
  stays : {k : KnownState} → KnownLeads program zero k [] k
  leads : {n : ℕ} {k next later : KnownState} {o : Observation} {seen : List Observation}
      → KnownStep program k (leads_on o next) → KnownLeads program n next seen later
      → KnownLeads program (suc n) k (o ∷ seen) later
