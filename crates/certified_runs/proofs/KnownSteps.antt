-- The step of the machine that the engine makes is the step of what is known.
use Rattle.std.specs.Prelude.{nat_eq, is_some, ◌⊎◌}
use Rattle.std.proofs.Common.{◌≡◌, ◌≢◌, ℕ, ◌%◌, ◌≤◌, Bool, true, false, cond, List, [], ◌∷◌, length, Option, Some, None}
use Rattle.std.proofs.Common.{Bor, refl, ap, ◌∙◌, inl, inr, arith}
use Rattle.certified_runs.specs.Below.{address_of, alignment_of, Branches, byte_count, ByteMap, CodeStep, Done}
use Rattle.certified_runs.specs.Below.{effect_of, ending_by, entries_of, executes, goes_on, guarded, Instr, load_size}
use Rattle.certified_runs.specs.Below.{loaded, MachineProgram, moved_to, no_instruction, not_code, number_at, Observation}
use Rattle.certified_runs.specs.Below.{pc_misaligned, Profile, profile_of, ProgramCode, ProgramStep, RecorderRefused}
use Rattle.certified_runs.specs.Below.{refused, register, Size, StandsAt, StandsIn, State, StepEnding, Stop, stopped}
use Rattle.certified_runs.specs.Below.{stops, Store, store_size, stored, StoreOperation, Stores, went_on}
use Rattle.certified_runs.specs.Below.{with_link_after, with_stored_after, with_value_after}
use Rattle.rv_machine.specs.declared.effects.Effect.{Effect}
use Rattle.rv_machine.specs.declared.plans.InstructionForm.{InstructionForm}
use Rattle.rv_programs.specs.Fetching.{IsFetched}
use Rattle.rv_programs.specs.declared.program.Fetched.{Fetched}
use Rattle.rv_programs.specs.declared.program.Fetched.TheVariants.{Instruction, Misaligned, Nothing, Unknown}
use Rattle.rv_machine.specs.declared.effects.Effect.TheVariants.{Breaks, Calls, Jumps, Loads}
use Rattle.certified_runs.proofs.Below.{code_step, CodeStep-determined, count-few, is_some-with_number, one_stands}
use Rattle.certified_runs.proofs.Below.{stands_aligned, stands_in_code, step_stops}
use Rattle.certified_runs.specs.Certified as certified
use Rattle.certified_runs.specs.Certified.{is_decided, registers_after, bytes_after, KnownStep, decided, ends}
use Rattle.certified_runs.specs.Known.{KnownState}
use Rattle.certified_runs.specs.declared.shifts.Shifts.{Shifts}
use Rattle.certified_runs.proofs.Numbers.{number_extent}
use Rattle.certified_runs.specs.private.Changes.{StoresData}
use Rattle.certified_runs.specs.private.Stepped.{HaveOneExtent, HasStepped}
use Rattle.certified_runs.specs.declared.steps.StepEnd.TheVariants.{LeadsOn, Ends}

-- Instructions at the program counter.

pub one_instruction : {code : ProgramCode} {p : ℕ} {i j : Instr} → (length : Size) × StandsIn code p i length
    → (length : Size) × StandsIn code p j length → i ≡ j
one_instruction one other = (one_stands one.1 other.1).0

-- none stands where none was fetched
pub none_fetched : (program : MachineProgram) (p : ℕ) (fetched : Fetched) → IsFetched (program.code p) p fetched
    → ((i : Bor Instr) (form : InstructionForm) → fetched ≡ Instruction i form → ⊥) → (i : Instr) → StandsAt program p i
    → ⊥
none_fetched program p Misaligned odd other i at = odd (stands_aligned at.1)
none_fetched program p Nothing none other i at = stands_in_code none.1 at.1
none_fetched program p Unknown misfits other i at = misfits.2 i at.0 at.1
none_fetched program p (Instruction j form) there other i at = other j form refl

-- at the program counter of a step one stands, or none does and it stops
pub standing : (program : MachineProgram) (s : State) {ending : StepEnding} → ProgramStep program s ending
    → ((i : Instr) × StandsAt program s.pc i)
    ⊎ (((i : Instr) → StandsAt program s.pc i → ⊥) × (seen : List Observation) × (stop : Stop)
    × (ending ≡ stops seen stop))
standing program s {ending} it = of_code it.step it.end
  where
    of_code : {e : StepEnding} → CodeStep (program.code s.pc) s e → ending ≡ guarded program.writable s e
        → ((i : Instr) × StandsAt program s.pc i)
        ⊎ (((i : Instr) → StandsAt program s.pc i → ⊥) × (seen : List Observation) × (stop : Stop)
        × (ending ≡ stops seen stop))
    of_code (pc_misaligned odd) end = inr (λ i at. odd (stands_aligned at.1), _, _, end)
    of_code (not_code even none) end = inr (λ i at. stands_in_code none at.1, _, _, end)
    of_code (no_instruction even some misfit) end = inr (λ i at. misfit i at.0 at.1, _, _, end)
    of_code (executes i length at same) end = inl (i, (length, at))

-- where none stands no step goes on
pub never_led : (program : MachineProgram) (s : State) {t : State} {ending : StepEnding} {seen : List Observation}
    → ((i : Instr) → StandsAt program s.pc i → ⊥) → ProgramStep program s ending → Done s ending None t seen → ⊥
never_led program s none step (went_on {o = o} {t = t}) = elim (standing program s step) [
  | inl there ↦ none there.0 there.1
  | inr nowhere ↦ let e : goes_on o t ≡ stops nowhere.1 nowhere.2 = nowhere.3 in cc
]

-- where a store goes on, its bytes are data
stored_there : (n m : Size) (profile : Profile) (operation : StoreOperation) (a v : ℕ) (s t : State) (o : Observation)
    → ending_by n m profile (Stores operation a v) s ≡ goes_on o t
    → is_some (number_at s.bytes (byte_count (store_size operation)) a) ≡ true
unfolding ending_by
stored_there n m profile operation a v s t o goes =
    over (nat_eq (a % byte_count (store_size operation)) 0) (number_at s.bytes (byte_count (store_size operation)) a)
    _ goes (λ e. cc)
  where
    over : (even : Bool) (old : Option ℕ) (other : StepEnding)
        → cond even (stored n s (store_size operation) a v old) other ≡ goes_on o t → other ≢ goes_on o t
        → is_some old ≡ true
    over true (Some old) other is apart = refl
    over true None other is apart = cc
    over false old other is apart = absurd (apart is)

-- where a step goes on, what it stores is data, and has marks
stores_data : (n m : Size) (marks : ByteMap) (profile : Profile) (i : Instr) (s t : State) (o : Observation)
    → HaveOneExtent marks s.bytes → ending_by n m profile (effect_of i s.pc s.regs) s ≡ goes_on o t
    → StoresData marks i s.regs
stores_data n m marks profile (Store operation rs2 rs1 offset) s t o extent goes =
    let a = address_of s.regs rs1 offset in
    number_extent s.bytes marks extent (byte_count (store_size operation)) a
    ∙ stored_there n m profile operation a (register s.regs rs2) s t o goes
stores_data n m marks profile _ s t o extent goes = tt

-- Steps.

-- a step that goes on leaves the same addresses data
data IsLed (s : State) : StepEnding → Type 0 where
  led : {o : Observation} {t : State} → HaveOneExtent t.bytes s.bytes → IsLed s (goes_on o t)
  ended : {seen : List Observation} {stop : Stop} → IsLed s (stops seen stop)

either_led : {s : State} {e f : StepEnding} (b : Bool) → IsLed s e → IsLed s f → IsLed s (cond b e f)
either_led true one other = one
either_led false one other = other

effect_led : (n m : Size) (profile : Profile) (e : Effect) (s : State) → IsLed s (ending_by n m profile e s)
unfolding ending_by with_value_after with_link_after with_stored_after moved_to
effect_led n m profile (Jumps rd target) s =
    either_led (nat_eq (target % byte_count m) 0) (led (λ a. refl)) ended
effect_led n m profile (Branches target) s =
    either_led (nat_eq (target % byte_count m) 0) (led (λ a. refl)) ended
effect_led n m profile (Loads operation rd a) s =
    either_led (nat_eq (a % byte_count (load_size operation)) 0)
    (from_number (number_at s.bytes (byte_count (load_size operation)) a)) ended
  where
    from_number : (old : Option ℕ) → IsLed s (loaded n s operation a rd old)
    from_number (Some value) = led (λ x. refl)
    from_number None = ended
effect_led n m profile (Stores operation a value) s =
    either_led (nat_eq (a % byte_count (store_size operation)) 0)
    (over_number (number_at s.bytes (byte_count (store_size operation)) a) refl) ended
  where
    over_number : (old : Option ℕ) → number_at s.bytes (byte_count (store_size operation)) a ≡ old
        → IsLed s (stored n s (store_size operation) a value old)
    over_number (Some old) there =
        led (λ x. is_some-with_number s.bytes (byte_count (store_size operation)) a value x (ap is_some there))
    over_number None there = ended
effect_led n m profile Calls s = ended
effect_led n m profile Breaks s = ended
effect_led n m profile _ s = led (λ a. refl)

code_led : {code : ProgramCode} {s : State} {e : StepEnding} → CodeStep code s e → IsLed s e
code_led (pc_misaligned odd) = ended
code_led (not_code even none) = ended
code_led (no_instruction even some misfit) = ended
code_led {code} {s} (executes i n at end) =
    rw end (effect_led n (alignment_of code) (profile_of code) (effect_of i s.pc s.regs) s)

led_extent : {program : MachineProgram} {s t : State} {o : Observation} → ProgramStep program s (goes_on o t)
    → HaveOneExtent t.bytes s.bytes
led_extent step = of_led (code_led (code_step step).0)
  where
    of_led : {s t : State} {o : Observation} → IsLed s (goes_on o t) → HaveOneExtent t.bytes s.bytes
    of_led (led extent) = extent

-- which addresses are data stays
pub extent_kept : {program : MachineProgram} {s t : State} {ending : StepEnding} {answer : Option Stop}
    {seen : List Observation}
    → ProgramStep program s ending → Done s ending answer t seen → HaveOneExtent t.bytes s.bytes
extent_kept step went_on = led_extent step
extent_kept step stopped = λ a. refl
extent_kept step (refused shows) = λ a. refl

-- where the run stops by it, all stays
pub state_kept : {s t : State} {ending : StepEnding} {stop : Stop} {seen : List Observation}
    → Done s ending (Some stop) t seen → t ≡ s
state_kept stopped = refl
state_kept (refused shows) = refl

-- a step that is not refused stops where it is said to
pub stopped_so : {program : MachineProgram} {s t : State} {ending : StepEnding} {stop : Stop} {seen : List Observation}
    → ProgramStep program s ending → Done s ending (Some stop) t seen → Some stop ≢ Some RecorderRefused
    → ProgramStep program s (stops seen stop)
stopped_so step stopped calm = step
stopped_so step (refused shows) calm = absurd (calm refl)

-- what is known is its parts
same_known : (t : State) {r r' : ℕ → ℕ} {b b' : ByteMap} {w w' : Shifts} → r ≡ r' → b ≡ b' → w ≡ w'
    → ◌≡◌ {A = KnownState} (record { state = t; registers = r; bytes = b; shifts = w })
    (record { state = t; registers = r'; bytes = b'; shifts = w' })
same_known t same_registers same_bytes same_shifts = cc

module _ (program : MachineProgram) (k : KnownState) (i : Instr) (at : StandsAt program k.state.pc i)
    (sure : is_decided program k i ≡ true) where
  -- the step went on, and the change of its instruction was made
  pub has_led : {t : State} {registers : ℕ → ℕ} {bytes : ByteMap} {shifts : Shifts} {ending : StepEnding}
      {seen : List Observation}
      {entries : ℕ} → ProgramStep program k.state ending → Done k.state ending None t seen
      → registers ≡ registers_after i k → bytes ≡ bytes_after i k → shifts ≡ k.shifts
      → length (entries_of seen) ≡ entries
      → HasStepped program k (LeadsOn entries)
      (record { state = t; registers = registers; bytes = bytes; shifts = shifts })
  has_led {t = t} step (went_on {o = o}) is is' as_seen many =
      (o, rw (same_known t is is' as_seen) (decided i at sure step), many)

  -- the step stopped
  pub has_stopped : {t : State} (next : KnownState) {ending : StepEnding} {stop : Stop} {seen : List Observation}
      {entries : ℕ}
      → ProgramStep program k.state ending → Done k.state ending (Some stop) t seen
      → Some stop ≢ Some RecorderRefused → length (entries_of seen) ≡ entries → next.state ≡ t
      → HasStepped program k (Ends entries stop) next
  has_stopped next {seen = seen} step done calm many left = (
    seen,
    certified.stopped (λ j there. rw (one_instruction there at) sure) (stopped_so step done calm),
    many,
    left ∙ state_kept done,
  )

  -- what is stored where the step goes on is data
  pub led_stores : (marks : ByteMap) {t : State} {ending : StepEnding} {seen : List Observation}
      → HaveOneExtent marks k.state.bytes → ProgramStep program k.state ending → Done k.state ending None t seen
      → StoresData marks i k.state.regs
  led_stores marks {t = t} extent step (went_on {o = o}) =
      let code = program.code k.state.pc in
      stores_data at.0 (alignment_of code) marks (profile_of code) i k.state t o extent
      (CodeStep-determined (executes i at.0 at.1 refl) (code_step step).0)

-- a step that stops has two entries at most
pub few_entries : {program : MachineProgram} {k : KnownState} {seen : List Observation} {stop : Stop}
    → KnownStep program k (ends seen stop) → length (entries_of seen) ≤ 2
few_entries {program} {k} {seen} {stop} (certified.stopped known step) =
    few seen (step_stops program k.state seen stop step).1
  where
    few : (list : List Observation) → length list ≤ 1 → length (entries_of list) ≤ 2
    few [] one = omega arith
    few (o ∷ []) one = count-few o
    few (o ∷ p ∷ list) one = absurd (omega arith)
