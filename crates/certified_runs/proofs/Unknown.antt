-- How a certified run ends depends on what is known alone.
use Rattle.std.specs.Prelude.{◌&&◌, ◌||◌, nat_eq}
use Rattle.std.proofs.Common.{◌≡◌, ℕ, true, List, refl, sym, subst, ap, ap₂, ◌∙◌}
use Rattle.std.proofs.lemmas.Bool.{eqb-true}
use Rattle.certified_runs.specs.Below.{Branch, Immediate, Instr, Load, MachineProgram, Multiply, Observation, Profile}
use Rattle.certified_runs.specs.Below.{profile_of}
use Rattle.certified_runs.specs.Below.{Register, register, sign_extended, StandsAt, State, Store}
use Rattle.certified_runs.specs.Bits.{Agree, cancels, decides_branch, immediate_unknown, multiply_unknown, partly}
use Rattle.certified_runs.specs.Bits.{register_unknown, unless}
use Rattle.certified_runs.specs.Known.{KnownState, knows, Covers, part, unknown, with_register_unknown}
use Rattle.certified_runs.specs.Certified.{decides, is_decided, registers_after, bytes_after, known_after, KnownStep, leads_on}
use Rattle.certified_runs.specs.Certified.{decided, stopped, undecided, RunEnding, CertifiedRun, spent, halts, cut}
use Rattle.certified_runs.specs.Certified.{steps_on}
use Rattle.certified_runs.specs.declared.bits.PartialWord.{PartialWord}
use Rattle.certified_runs.proofs.Agreeing.{same_greatest, same_known}
use Rattle.certified_runs.proofs.Runs.{leads_kept, stop_kept}

-- as much is known, of another state
abbrev pub of_state : State → KnownState → KnownState
of_state s k = record { state = s; registers = k.registers; bytes = k.bytes; shifts = k.shifts }

abbrev whole : ℕ → ℕ → PartialWord
whole mask greatest = record { greatest = greatest; unknown = mask }

module _ (k : KnownState) (s : State) (covers : Covers k s) where
  part_same : (r : ℕ) → part (of_state s k) r ≡ part k r
  part_same r =
      ap (whole (unknown k.registers r)) (same_greatest (covers.registers r))

  register_same : (r : ℕ) → knows k r ≡ true → register s.regs r ≡ register k.state.regs r
  register_same r sure =
      same_known (subst (λ m. Agree m (register k.state.regs r) (register s.regs r))
      (eqb-true (unknown k.registers r) 0 sure) (covers.registers r))

  decides_same : (profile : Profile) (i : Instr) → decides profile i (of_state s k) ≡ decides profile i k
  decides_same profile (Branch test rs1 rs2 offset) =
      ap₂ (λ a b. nat_eq rs1 rs2 || decides_branch test a b) (part_same rs1) (part_same rs2)
  decides_same profile _ = refl

  registers_same : (profile : Profile) (i : Instr) → decides profile i k ≡ true
      → registers_after i (of_state s k) ≡ registers_after i k
  registers_same profile (Load operation rd rs1 offset) sure = rw (register_same rs1 sure)
  registers_same profile (Immediate operation rd rs1 immediate) sure =
      ap (λ a. with_register_unknown k.registers rd
      (immediate_unknown operation a (partly 0 (sign_extended 12 immediate)))) (part_same rs1)
  registers_same profile (Register operation rd rs1 rs2) sure =
      ap₂ (λ a b. with_register_unknown k.registers rd
      (unless (nat_eq rs1 rs2 && cancels operation) (register_unknown operation a b))) (part_same rs1) (part_same rs2)
  registers_same profile (Multiply operation rd rs1 rs2) sure =
      ap₂ (λ a b. with_register_unknown k.registers rd (multiply_unknown operation a b)) (part_same rs1)
      (part_same rs2)
  registers_same profile _ sure = refl

  bytes_same : (profile : Profile) (i : Instr) → decides profile i k ≡ true
      → bytes_after i (of_state s k) ≡ bytes_after i k
  bytes_same profile (Store operation rs2 rs1 offset) sure = rw (register_same rs1 sure)
  bytes_same profile _ sure = refl

  after_same : (profile : Profile) (i : Instr) (t u : State) → decides profile i k ≡ true
      → of_state u (known_after i k t) ≡ known_after i (of_state s k) u
  after_same profile i t u sure =
      let registers = registers_same profile i sure in
      let bytes = bytes_same profile i sure in
      cc

  moved : (program : MachineProgram) (i : Instr) → StandsAt program k.state.pc i → StandsAt program s.pc i
  moved program i = subst (λ pc. StandsAt program pc i) (sym covers.pc)

  moved_back : (program : MachineProgram) (i : Instr) → StandsAt program s.pc i → StandsAt program k.state.pc i
  moved_back program i = subst (λ pc. StandsAt program pc i) covers.pc

  decided_same : (program : MachineProgram) (i : Instr)
      → is_decided program (of_state s k) i ≡ is_decided program k i
  decided_same program i =
      ap (λ pc. decides (profile_of (program.code pc)) i (of_state s k)) covers.pc
      ∙ decides_same (profile_of (program.code k.state.pc)) i

  leads_alike : {program : MachineProgram} {o : Observation} {next : KnownState} → KnownStep program k (leads_on o next)
      → (u : State) × KnownStep program (of_state s k) (leads_on o (of_state u next)) × Covers next u
  leads_alike {program} {o} (decided {t = t} i at sure step) =
      let there = leads_kept program k s covers o (known_after i k t) (decided i at sure step) in (
        there.0,
        rw (after_same (profile_of (program.code k.state.pc)) i t there.0 sure)
            (decided i (moved program i at) (decided_same program i ∙ sure) there.1),
        there.2,
      )

pub run_alike : {program : MachineProgram} {budget : ℕ} {k : KnownState} {s : State} {seen : List Observation}
    {ending : RunEnding}
    → CertifiedRun program budget k seen ending → Covers k s → CertifiedRun program budget (of_state s k) seen ending
run_alike spent covers = spent
run_alike {program} {s = s} (halts {k = k} {seen = seen} {stop = stop} (stopped known step)) covers =
    halts (stopped (λ i at. decided_same k s covers program i ∙ known i (moved_back k s covers program i at))
    (stop_kept program k s covers seen stop (stopped known step)))
run_alike {program} {s = s} (cut {k = k} (undecided i at unknown)) covers =
    rw (sym covers.pc) (cut (undecided i (moved k s covers program i at) (decided_same k s covers program i ∙ unknown)))
run_alike {s = s} (steps_on {k = k} step rest) covers =
    let first = leads_alike k s covers step in
    steps_on first.1 (run_alike rest first.2)

-- of two states of which the same is known
pub known_alone : {program : MachineProgram} {budget : ℕ} {k other : KnownState} {seen : List Observation}
    {ending : RunEnding}
    → CertifiedRun program budget k seen ending → Covers k other.state → other.registers ≡ k.registers
    → other.bytes ≡ k.bytes → other.shifts ≡ k.shifts → CertifiedRun program budget other seen ending
known_alone {k = k} {other = other} run covers registers bytes shifts =
    let is : of_state other.state k ≡ other = rw (sym registers, sym bytes, sym shifts) in
    rw is at (run_alike run covers)
