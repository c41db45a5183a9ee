-- A register that no word of a body writes is the same behind it. The body is run among its own words alone, so that
-- each of its steps executes one of them.
use Rattle.std.specs.Prelude.{slice_get}
use Rattle.std.specs.Prelude.{nat_le}
use Rattle.std.proofs.Common.{◌≡◌, ◌≢◌, ℕ, zero, suc, ◌+◌, ◌-◌, ◌*◌, ◌/◌, ◌%◌, ◌^◌, ◌<◌, ◌==◌, ◌&&◌, ◌||◌, Bool}
use Rattle.std.proofs.Common.{true, false, List, [], ◌∷◌, ◌++◌, length, Option, Some, None, refl, sym, ap, ◌∙◌, subst}
use Rattle.std.proofs.Common.{arith, if◌then◌else◌, append_assoc, eq-eqb, length-append, ne_eqb}
use Rattle.std.proofs.lemmas.Bool.{eqb-true, false≢true, le-leb, leb-true}
use Rattle.linked_calls.proofs.Below.{MachineCode, Observation, Stand, State, Step}
use Rattle.linked_calls.proofs.Below.{goes_on, Instr, next, number_at, unwritten}
use Rattle.linked_calls.specs.Below.{Event}
use Rattle.linked_calls.specs.Written.{is_written, writes}
use Rattle.expression_code.specs.program_logic.MachineSteps.{LeadsBy, stays_by, steps_by}
use Rattle.rv_code.specs.Operations.{divide_row, immediate_row, load_row, multiply_row, register_row, shift_row}
use Rattle.rv_code.specs.Words.{i_type, IsInstr, j_type, r_type, u_type}
unfoldable use Rattle.rv_code.specs.Words.{word_of}
use Rattle.rv_code.specs.declared.instructions.Instr.TheVariants as instr
use Rattle.rv_code.specs.declared.operations.LoadOperation.{LoadOperation}
use Rattle.rv_code.specs.declared.operations.UpperOperation.TheVariants.{Auipc, Lui}
use Rattle.rv_machine.proofs.Face.{moved_to-regs, with_link-regs, with_value-regs}
use Rattle.rv_machine.specs.Effects.{effect_of, load_size, store_size}
use Rattle.rv_machine.specs.Sizes.{byte_count}
use Rattle.rv_machine.specs.Machine.{ending_of, executes, here, loaded, StepEnding, stored, stops, with_stored}
use Rattle.rv_machine.specs.Machine.{with_value, word_at}
unfoldable use Rattle.rv_machine.specs.Machine.{ending_by, moved_to, with_stored_after}
use Rattle.rv_machine.specs.declared.effects.Effect.{Effect}
use Rattle.rv_machine.specs.declared.effects.Effect.TheVariants.{Branches, Breaks, Calls, Computes, Divides, Jumps, Loads}
use Rattle.rv_machine.specs.declared.effects.Effect.TheVariants.{Multiplies, Passes, Stores}
use Rattle.rv_machine.specs.declared.memory.Size.{Size}
use Rattle.rv_machine.specs.declared.memory.Size.TheVariants.{Word}
use Rattle.rv_machine.specs.declared.stops.Stop.TheVariants.{Misaligned}
use Rattle.word.specs.declared.profile.Profile.{Profile}

stored_regs : (s : State) (n : Size) (a value : ℕ) → (with_stored s n a value).regs ≡ s.regs
unfolding with_stored_after
stored_regs s n a value = refl

neither : (one other : Bool) → (one || other) ≡ false → (one ≡ false) × (other ≡ false)
neither true other h = absurd (false≢true (sym h))
neither false other h = (refl, h)

module _ (r : ℕ) where
  -- Effects.

  -- the register is as it was, where a step goes on
  abbrev Keeps : State → StepEnding → Type 0
  Keeps s (goes_on o t) = t.regs r ≡ s.regs r
  Keeps s (stops list stop) = Unit {0}

  -- an effect leaves it alone
  abbrev LeavesIt : Effect → Type 0
  LeavesIt (Computes rd value) = r ≢ rd
  LeavesIt (Multiplies rd a b value) = r ≢ rd
  LeavesIt (Divides rd a b value) = r ≢ rd
  LeavesIt (Jumps rd target) = r ≢ rd
  LeavesIt (Branches target) = Unit {0}
  LeavesIt Passes = Unit {0}
  LeavesIt (Loads operation rd a) = r ≢ rd
  LeavesIt (Stores operation a value) = Unit {0}
  LeavesIt Calls = Unit {0}
  LeavesIt Breaks = Unit {0}

  value_keeps : (s : State) (rd value : ℕ) → r ≢ rd → (with_value s rd value).regs r ≡ s.regs r
  value_keeps s rd value other =
      ap (λ (f : ℕ → ℕ). f r) (with_value-regs s rd value) ∙ unwritten s.regs rd value r other

  if_keeps : (b : Bool) (s : State) (one other : StepEnding) → Keeps s one → Keeps s other
      → Keeps s (if b then one else other)
  if_keeps true s one other first second = first
  if_keeps false s one other first second = second

  loaded_keeps : (s : State) (operation : LoadOperation) (a rd : ℕ) (found : Option ℕ) → r ≢ rd
      → Keeps s (loaded Word s operation a rd found)
  loaded_keeps s operation a rd (Some value) other = value_keeps s rd _ other
  loaded_keeps s operation a rd None other = tt

  stored_keeps : (s : State) (n : Size) (a value : ℕ) (found : Option ℕ) → Keeps s (stored Word s n a value found)
  stored_keeps s n a value (Some old) = ap (λ (f : ℕ → ℕ). f r) (stored_regs s n a value)
  stored_keeps s n a value None = tt

  ending_keeps : (profile : Profile) (effect : Effect) (s : State) → LeavesIt effect
      → Keeps s (ending_of profile effect s)
  unfolding ending_by
  ending_keeps profile (Computes rd value) s other = value_keeps s rd value other
  ending_keeps profile (Multiplies rd a b value) s other = value_keeps s rd value other
  ending_keeps profile (Divides rd a b value) s other = value_keeps s rd value other
  ending_keeps profile (Jumps rd target) s other =
      if_keeps (target % 4 == 0) s _ _
      (ap (λ (f : ℕ → ℕ). f r) (with_link-regs s rd target) ∙ unwritten s.regs rd (next s) r other) tt
  ending_keeps profile (Branches target) s other =
      if_keeps (target % 4 == 0) s _ _ (ap (λ (f : ℕ → ℕ). f r) (moved_to-regs s target)) tt
  ending_keeps profile Passes s other = ap (λ (f : ℕ → ℕ). f r) (moved_to-regs s (next s))
  ending_keeps profile (Loads operation rd a) s other =
      let n = byte_count (load_size operation) in
      if_keeps (a % n == 0) s (loaded Word s operation a rd (number_at s.bytes n a)) (stops (here s) Misaligned)
      (loaded_keeps s operation a rd (number_at s.bytes n a) other) tt
  ending_keeps profile (Stores operation a value) s other =
      let n = byte_count (store_size operation) in
      if_keeps (a % n == 0) s (stored Word s (store_size operation) a value (number_at s.bytes n a)) (stops (here s) Misaligned)
      (stored_keeps s (store_size operation) a value (number_at s.bytes n a)) tt
  ending_keeps profile Calls s other = tt
  ending_keeps profile Breaks s other = tt

  -- Instructions.

  -- the register that a word of another format than those of stores and branches names is written
  field_differs : (word opcode rd rest : ℕ) → word ≡ opcode + rd * 2 ^ 7 + rest * 2 ^ 12 → opcode < 2 ^ 7
      → opcode ≢ 0b0100011 → opcode ≢ 0b1100011 → rd < 32 → writes word r ≡ false → r ≢ rd
  field_differs word opcode rd rest is small store branch few none same =
      let first : word / 2 ^ 0 % 2 ^ 7 ≡ opcode = omega arith in
      let second : word / 2 ^ 7 % 2 ^ 5 ≡ rd = omega arith in
      let written : writes word r ≡ true =
      rw (first, second, ne_eqb opcode 0b0100011 store, ne_eqb opcode 0b1100011 branch, eq-eqb rd r (sym same)) refl in
      false≢true (sym none ∙ written)

  branch_leaves : (b : Bool) (target : ℕ) → LeavesIt (if b then Branches target else Passes)
  branch_leaves true target = tt
  branch_leaves false target = tt

  instruction_leaves : (i : Instr) (pc : ℕ) (regs : ℕ → ℕ) → IsInstr i → writes (word_of i) r ≡ false
      → LeavesIt (effect_of i pc regs)
  unfolding word_of
  instruction_leaves (instr.Upper Lui rd immediate) pc regs is none =
      field_differs (u_type 0b0110111 rd immediate) 0b0110111 rd immediate refl (omega arith) (λ e. omega arith) (λ e. omega arith) is.0 none
  instruction_leaves (instr.Upper Auipc rd immediate) pc regs is none =
      field_differs (u_type 0b0010111 rd immediate) 0b0010111 rd immediate refl (omega arith) (λ e. omega arith) (λ e. omega arith) is.0 none
  instruction_leaves (instr.Jump rd offset) pc regs is none =
      field_differs (j_type 0b1101111 rd offset) 0b1101111 rd (offset / 2 ^ 11 % 2 ^ 8 + offset / 2 ^ 10 % 2 ^ 1 * 2 ^ 8
      + offset / 2 ^ 0 % 2 ^ 10 * 2 ^ 9 + offset / 2 ^ 19 % 2 ^ 1 * 2 ^ 19)
      (omega arith) (omega arith) (λ e. omega arith) (λ e. omega arith) is.0 none
  instruction_leaves (instr.JumpRegister rd rs1 offset) pc regs is none =
      field_differs (i_type 0b1100111 0 rd rs1 offset) 0b1100111 rd (rs1 * 2 ^ 3 + offset * 2 ^ 8)
      (omega arith) (omega arith) (λ e. omega arith) (λ e. omega arith) is.0 none
  instruction_leaves (instr.Branch test rs1 rs2 offset) pc regs is none = branch_leaves _ _
  instruction_leaves (instr.Load operation rd rs1 offset) pc regs is none =
      field_differs (i_type 0b0000011 (load_row operation).funct3 rd rs1 offset) 0b0000011 rd
      ((load_row operation).funct3 + rs1 * 2 ^ 3 + offset * 2 ^ 8)
      (omega arith) (omega arith) (λ e. omega arith) (λ e. omega arith) is.0 none
  instruction_leaves (instr.Store operation rs2 rs1 offset) pc regs is none = tt
  instruction_leaves (instr.Immediate operation rd rs1 immediate) pc regs is none =
      field_differs (i_type 0b0010011 (immediate_row operation).funct3 rd rs1 immediate) 0b0010011 rd
      ((immediate_row operation).funct3 + rs1 * 2 ^ 3 + immediate * 2 ^ 8)
      (omega arith) (omega arith) (λ e. omega arith) (λ e. omega arith) is.0 none
  instruction_leaves (instr.Shift operation rd rs1 amount) pc regs is none =
      field_differs
      (r_type 0b0010011 (shift_row operation).funct3 (shift_row operation).funct7 rd rs1 amount) 0b0010011 rd
      ((shift_row operation).funct3 + rs1 * 2 ^ 3 + amount * 2 ^ 8
      + (shift_row operation).funct7 * 2 ^ 13)
      (omega arith) (omega arith) (λ e. omega arith) (λ e. omega arith) is.0 none
  instruction_leaves (instr.Register operation rd rs1 rs2) pc regs is none =
      field_differs
      (r_type 0b0110011 (register_row operation).funct3 (register_row operation).funct7 rd rs1 rs2) 0b0110011 rd
      ((register_row operation).funct3 + rs1 * 2 ^ 3 + rs2 * 2 ^ 8
      + (register_row operation).funct7 * 2 ^ 13)
      (omega arith) (omega arith) (λ e. omega arith) (λ e. omega arith) is.0 none
  instruction_leaves (instr.Multiply operation rd rs1 rs2) pc regs is none =
      field_differs (r_type 0b0110011 (multiply_row operation).funct3 1 rd rs1 rs2) 0b0110011 rd
      ((multiply_row operation).funct3 + rs1 * 2 ^ 3 + rs2 * 2 ^ 8 + 1 * 2 ^ 13)
      (omega arith) (omega arith) (λ e. omega arith) (λ e. omega arith) is.0 none
  instruction_leaves (instr.Divide operation rd rs1 rs2) pc regs is none =
      field_differs (r_type 0b0110011 (divide_row operation).funct3 1 rd rs1 rs2) 0b0110011 rd
      ((divide_row operation).funct3 + rs1 * 2 ^ 3 + rs2 * 2 ^ 8 + 1 * 2 ^ 13)
      (omega arith) (omega arith) (λ e. omega arith) (λ e. omega arith) is.0 none
  instruction_leaves (instr.Fence mode before after rs1 rd) pc regs is none = tt
  instruction_leaves instr.Ecall pc regs is none = tt
  instruction_leaves instr.Ebreak pc regs is none = tt

  -- Steps.

  -- no word that stands in this code writes the register
  abbrev NoneWrites : MachineCode → Type 0
  NoneWrites code = (p word : ℕ) → word_at code p ≡ Some word → writes word r ≡ false

  step_keeps : {code : MachineCode} {s t : State} {o : Observation} → NoneWrites code → Step code s (goes_on o t)
      → t.regs r ≡ s.regs r
  step_keeps {code = code} {s = s} none (executes i aligned word is ending) =
      subst (Keeps s) (sym ending)
      (ending_keeps code.profile (effect_of i s.pc s.regs) s
      (instruction_leaves i s.pc s.regs is (none s.pc (word_of i) word)))

  pub steps_keep : {code : MachineCode} {Each : State → Option Event → State → Type 0} {n : ℕ} {s t : State}
      {list : List Observation} → NoneWrites code → LeadsBy code Each n s list t → t.regs r ≡ s.regs r
  steps_keep none stays_by = refl
  steps_keep none (steps_by step each rest) = steps_keep none rest ∙ step_keeps none step

  -- Words, alone.

  none_of : (words : List ℕ) → is_written words r ≡ false → (k word : ℕ) → slice_get words k ≡ Some word
      → writes word r ≡ false
  none_of [] none k word there = cc
  none_of (first ∷ words) none zero word there =
      let same : first ≡ word = cc in
      subst (λ w. writes w r ≡ false) same (neither (writes first r) (is_written words r) none).0
  none_of (first ∷ words) none (suc k) word there =
      none_of words (neither (writes first r) (is_written words r) none).1 k word there

-- these words, from an address on, and no others
abbrev pub alone : MachineCode → ℕ → List ℕ → MachineCode
alone code start words = record { profile = code.profile; base = start; words = words }

-- one code's words stand in another, for the same observer
pub record IsPartOf (small big : MachineCode) : Type 0 where
  pub observer : small.profile ≡ big.profile
  pub words : (p word : ℕ) → word_at small p ≡ Some word → word_at big p ≡ Some word

step_in : {small big : MachineCode} {s t : State} {o : Observation} → IsPartOf small big → Step small s (goes_on o t)
    → Step big s (goes_on o t)
step_in {s = s} part (executes i aligned word is ending) =
    executes i aligned (part.words s.pc (word_of i) word) is
    (ending ∙ ap (λ p. ending_of p (effect_of i s.pc s.regs) s) part.observer)

pub steps_in : {small big : MachineCode} {Each : State → Option Event → State → Type 0} {n : ℕ} {s t : State}
    {list : List Observation} → IsPartOf small big → LeadsBy small Each n s list t → LeadsBy big Each n s list t
steps_in part stays_by = stays_by
steps_in part (steps_by step each rest) = steps_by (step_in part step) each (steps_in part rest)

-- words that stand in a code

stood : (code : MachineCode) (start : ℕ) (words : List ℕ) → Stand code start words → (k word : ℕ)
    → slice_get words k ≡ Some word → word_at code (start + 4 * k) ≡ Some word
stood code start [] stand k word there = cc
stood code start (first ∷ words) stand zero word there =
    let same : first ≡ word = cc in
    let e : start + 4 * 0 ≡ start = omega arith in
    ap (word_at code) e ∙ stand.2 ∙ ap Some same
stood code start (first ∷ words) stand (suc k) word there =
    let e : start + 4 * suc k ≡ start + 4 + 4 * k = omega arith in
    ap (word_at code) e ∙ stood code (start + 4) words stand.3 k word there

found_at : (one other : Bool) (o : Option ℕ) (word : ℕ) → (if one && other then o else None) ≡ Some word
    → (one ≡ true) × (other ≡ true) × (o ≡ Some word)
found_at true true o word h = (refl, refl, h)
found_at true false o word h = cc
found_at false other o word h = cc

pub part_of : (code : MachineCode) (start : ℕ) (words : List ℕ) → Stand code start words
    → IsPartOf (alone code start words) code
part_of code start words stand = record {
  observer = refl;
  words = λ p word h.
      let found = found_at (nat_le start p) ((p - start) % 4 == 0) (slice_get words ((p - start) / 4)) word h in
      let from = leb-true start p found.0 in
      let even = eqb-true ((p - start) % 4) 0 found.1 in
      let e : start + 4 * ((p - start) / 4) ≡ p = omega arith in
      subst (λ a. word_at code a ≡ Some word) e (stood code start words stand ((p - start) / 4) word found.2);
}

pub alone_writes_none : (r : ℕ) (code : MachineCode) (start : ℕ) (words : List ℕ) → is_written words r ≡ false
    → NoneWrites r (alone code start words)
alone_writes_none r code start words none p word h =
    none_of r words none ((p - start) / 4) word
    (found_at (nat_le start p) ((p - start) % 4 == 0) (slice_get words ((p - start) / 4)) word h).2

here_is : (front : List ℕ) (word : ℕ) (words : List ℕ) → slice_get (front ++ word ∷ words) (length front) ≡ Some word
here_is [] word words = refl
here_is (x ∷ front) word words = here_is front word words

stands_behind : (code : MachineCode) (start : ℕ) (front words : List ℕ) → Stand code (start + 4 * length front) words
    → Stand (alone code start (front ++ words)) (start + 4 * length front) words
stands_behind code start front [] stand = tt
stands_behind code start front (word ∷ words) stand =
    let n = length front in
    let q = start + 4 * n in
    let low = le-leb start q (omega arith) in
    let even = eq-eqb ((q - start) % 4) 0 (omega arith) in
    let index : (q - start) / 4 ≡ n = omega arith in
    let more : q + 4 ≡ start + 4 * length (front ++ word ∷ []) = omega (arith, length-append front (word ∷ [])) in (
      stand.0,
      stand.1,
      rw (low, even, index) (here_is front word words),
      subst (λ (all : List ℕ). Stand (alone code start all) (q + 4) words) (append_assoc front (word ∷ []) words)
          (subst (λ a. Stand (alone code start ((front ++ word ∷ []) ++ words)) a words) (sym more)
          (stands_behind code start (front ++ word ∷ []) words
          (subst (λ a. Stand code a words) more stand.3))),
    )

pub stands_alone : (code : MachineCode) (start : ℕ) (words : List ℕ) → Stand code start words
    → Stand (alone code start words) start words
stands_alone code start words stand =
    let e : start ≡ start + 4 * 0 = omega arith in
    subst (λ a. Stand (alone code start words) a words) (sym e)
    (stands_behind code start [] words (subst (λ a. Stand code a words) e stand))
