-- What is known keeps covering: registers, bytes, and the step of each kind of instruction.
use Rattle.std.specs.Prelude.{◌&&◌, ◌||◌, nat_eq, is_some}
use Rattle.std.proofs.Common.{◌≡◌, ℕ, ◌+◌, ◌%◌, ◌^◌, ◌<◌, Bool, true, false, not, cond, List, Option, Some, None, refl, sym}
use Rattle.std.proofs.Common.{subst, ap, ◌∙◌, inl, inr, arith}
use Rattle.std.proofs.lemmas.Bool.{and_parts, eq-eqb, eqb-true, le-leb, le-ltb, or_cases}
use Rattle.std.proofs.lemmas.Nat.{mod_below, pow_pos}
use Rattle.certified_runs.specs.Below.{address_of, Branch, branch_target, Branches, byte_count, ByteMap, Divide, Ebreak}
use Rattle.certified_runs.specs.Below.{Ecall, effect_of, StepEnding, ending_by, Fence, goes_on, holds, Immediate, Instr}
use Rattle.certified_runs.specs.Below.{IsInstr, Jump, jump_target, JumpRegister, Load, load_size, loaded, loaded_value}
use Rattle.certified_runs.specs.Below.{moved_to, Multiply, next_after, number_at, Observation, P1, P2, Passes, product_shown}
use Rattle.certified_runs.specs.Below.{Profile, Register, register, register_target, Shift, sign_extended, State, Stop}
use Rattle.certified_runs.specs.Below.{stops, Store, store_size, stored, StoreOperation, Size, Upper}
use Rattle.certified_runs.specs.Below.{with_link_after, with_stored_after, with_value_after}
use Rattle.rv_code.specs.Operations.{divide_value, immediate_value, multiply_value, register_value, shift_value}
use Rattle.rv_code.specs.Operations.{upper_value}
use Rattle.rv_code.specs.Signed.{signed}
use Rattle.rv_code.specs.declared.operations.BranchTest.{BranchTest}
use Rattle.rv_code.specs.declared.operations.BranchTest.TheVariants.{Beq, Bge, Bgeu, Blt, Bltu, Bne}
use Rattle.rv_code.specs.declared.operations.LoadOperation.{LoadOperation}
use Rattle.rv_code.specs.declared.operations.RegisterOperation.{RegisterOperation}
use Rattle.certified_runs.proofs.Below.{is_some-with_number}
use Rattle.certified_runs.specs.Bits.{Agree, are_known, cancels, decides_branch, divide_unknown, immediate_unknown}
use Rattle.certified_runs.specs.Bits.{multiply_unknown, partly, register_unknown, unless}
use Rattle.certified_runs.specs.Known.{AreWords, Covers, KnownState, knows, number_unknown, part, unknown}
use Rattle.certified_runs.specs.Known.{with_register_unknown}
use Rattle.certified_runs.specs.Certified.{decides, decides_product, known_after}
use Rattle.certified_runs.proofs.Agreeing.{agree_itself, same_known}
use Rattle.certified_runs.proofs.Numbers.{number_extent, numbers_agree, put_agrees, put_bytes, word_fits}
use Rattle.certified_runs.proofs.Orders.{branch_agrees, int_order}
use Rattle.certified_runs.proofs.Rows.{both_known, cancelled, immediate_agrees, int_itself, load_agrees}
use Rattle.certified_runs.proofs.Rows.{multiply_agrees, register_agrees, shift_agrees, unless_agrees}
use Rattle.certified_runs.proofs.ShiftedBits.{extended_fits}
use Rattle.certified_runs.proofs.Words.{divide_fits, immediate_fits, loaded_fits, multiply_fits, register_fits}
use Rattle.certified_runs.proofs.Words.{shift_fits, upper_fits}

-- Registers.

pick_agrees : (zeroth there : Bool) (known now x x' v v' : ℕ)
    → Agree (cond zeroth 0 known) (cond zeroth 0 x) (cond zeroth 0 x') → Agree now v v'
    → Agree (cond zeroth 0 (cond there now known)) (cond zeroth 0 (cond zeroth x (cond there v x)))
    (cond zeroth 0 (cond zeroth x' (cond there v' x')))
pick_agrees true there known now x x' v v' old new = agree_itself 0 0
pick_agrees false true known now x x' v v' old new = new
pick_agrees false false known now x x' v v' old new = old

pick_fits : (zeroth there : Bool) (x v : ℕ) → cond zeroth 0 x < 2 ^ 32 → v < 2 ^ 32
    → cond zeroth 0 (cond zeroth x (cond there v x)) < 2 ^ 32
pick_fits true there x v old new = omega arith
pick_fits false true x v old new = new
pick_fits false false x v old new = old

-- A register compared with itself.

itself_holds : (test : BranchTest) (x y : ℕ) → holds test x x ≡ holds test y y
itself_holds Beq x y = eq-eqb x x refl ∙ sym (eq-eqb y y refl)
itself_holds Bne x y = ap not (eq-eqb x x refl ∙ sym (eq-eqb y y refl))
itself_holds Blt x y = int_itself (signed x) ∙ sym (int_itself (signed y))
itself_holds Bge x y =
    int_order (signed x) (signed x) ∙ ap not (int_itself (signed x) ∙ sym (int_itself (signed y)))
    ∙ sym (int_order (signed y) (signed y))
itself_holds Bltu x y = le-ltb x x (omega arith) ∙ sym (le-ltb y y (omega arith))
itself_holds Bgeu x y = le-leb x x (omega arith) ∙ sym (le-leb y y (omega arith))

-- Steps.

-- a step of the state and one of a covered state show the same, and what is known after the one covers where the
-- other leads
pub data StaysCovered (i : Instr) (k : KnownState) : StepEnding → StepEnding → Type 0 where
  goes_alike : {o : Observation} {t t' : State} → Covers (known_after i k t) t'
      → StaysCovered i k (goes_on o t) (goes_on o t')
  stops_alike : {seen : List Observation} {stop : Stop} → StaysCovered i k (stops seen stop) (stops seen stop)

-- the state itself is covered
pub itself : (k : KnownState) → Covers k k.state
itself k = record {
  pc = refl;
  registers = λ r. agree_itself (unknown k.registers r) (register k.state.regs r);
  extent = λ a. refl;
  bytes = λ a b c is is'. subst (Agree _ b) (same_byte b c (sym is ∙ is')) (agree_itself _ b);
  words = inr refl;
}
  where
    same_byte : (b c : ℕ) → ◌≡◌ {A = Option ℕ} (Some b) (Some c) → b ≡ c
    same_byte b c is = cc

ends_itself : (i : Instr) (k : KnownState) (e : StepEnding) → StaysCovered i k e e
ends_itself i k (goes_on o t) = goes_alike (itself (known_after i k t))
ends_itself i k (stops seen stop) = stops_alike

either_kept : {i : Instr} {k : KnownState} {e f e' f' : StepEnding} (b : Bool) → StaysCovered i k e e'
    → StaysCovered i k f f'
    → StaysCovered i k (cond b e f) (cond b e' f')
either_kept true one other = one
either_kept false one other = other

-- what is known once an instruction has led to a state, where these bits are unknown
abbrev changed : KnownState → State → (ℕ → ℕ) → ByteMap → KnownState
changed k t registers bytes = record { state = t; registers = registers; bytes = bytes; shifts = k.shifts }

-- a state at the same program counter
abbrev at_same_place : KnownState → (ℕ → ℕ) → ByteMap → State
at_same_place k regs bytes = record { pc = k.state.pc; regs = regs; bytes = bytes }

module _ (length alignment : Size) (k : KnownState) (regs : ℕ → ℕ) (bytes : ByteMap)
    (covers : Covers k (at_same_place k regs bytes)) (words : AreWords k (at_same_place k regs bytes)) where
  fits : (r : ℕ) → register k.state.regs r < 2 ^ 32
  fits r = words.known.registers r

  fits' : (r : ℕ) → register regs r < 2 ^ 32
  fits' r = words.covered.registers r

  -- a register that is known holds one number
  same : (r : ℕ) → knows k r ≡ true → register regs r ≡ register k.state.regs r
  same r h =
      same_known (subst (λ m. Agree m (register k.state.regs r) (register regs r))
      (eqb-true (unknown k.registers r) 0 h) (covers.registers r))

  both_same : (r1 r2 : ℕ) → are_known (part k r1) (part k r2) ≡ true
      → (register regs r1 ≡ register k.state.regs r1) × (register regs r2 ≡ register k.state.regs r2)
  both_same r1 r2 h = both_known (covers.registers r1) (covers.registers r2) h

  value_covered : (rd v v' mask : ℕ) → Agree mask v v' → v < 2 ^ 32 → v' < 2 ^ 32
      → Covers (changed k (with_value_after length k.state rd v) (with_register_unknown k.registers rd mask) k.bytes)
      (with_value_after length (at_same_place k regs bytes) rd v')
  unfolding with_value_after
  value_covered rd v v' mask agree v-fits v'-fits = record {
    pc = refl;
    registers = λ r. pick_agrees (nat_eq r 0) (nat_eq r rd) (k.registers r) mask (k.state.regs r) (regs r) v v'
        (covers.registers r) agree;
    extent = covers.extent;
    bytes = covers.bytes;
    words = inl (record {
      known = record {
        registers = λ r. pick_fits (nat_eq r 0) (nat_eq r rd) (k.state.regs r) v (fits r) v-fits;
        bytes = words.known.bytes;
      };
      covered = record {
        registers = λ r. pick_fits (nat_eq r 0) (nat_eq r rd) (regs r) v' (fits' r) v'-fits;
        bytes = words.covered.bytes;
      };
      masks = words.masks;
    });
  }

  link_covered : (rd target : ℕ)
      → Covers (changed k (with_link_after length k.state rd target) (with_register_unknown k.registers rd 0) k.bytes)
      (with_link_after length (at_same_place k regs bytes) rd target)
  unfolding with_link_after
  link_covered rd target =
      let n = next_after length k.state in
      let n-fits : n < 2 ^ 32 = mod_below (k.state.pc + byte_count length) (2 ^ 32) (pow_pos 32) in
      record {
        pc = refl;
        registers = λ r. pick_agrees (nat_eq r 0) (nat_eq r rd) (k.registers r) 0 (k.state.regs r) (regs r) n n
            (covers.registers r) (agree_itself 0 n);
        extent = covers.extent;
        bytes = covers.bytes;
        words = inl (record {
          known = record {
            registers = λ r. pick_fits (nat_eq r 0) (nat_eq r rd) (k.state.regs r) n (fits r) n-fits;
            bytes = words.known.bytes;
          };
          covered = record {
            registers = λ r. pick_fits (nat_eq r 0) (nat_eq r rd) (regs r) n (fits' r) n-fits;
            bytes = words.covered.bytes;
          };
          masks = words.masks;
        });
      }

  move_covered : (target : ℕ)
      → Covers (changed k (moved_to k.state target) k.registers k.bytes) (moved_to (at_same_place k regs bytes) target)
  unfolding moved_to
  move_covered target = record {
    pc = refl;
    registers = covers.registers;
    extent = covers.extent;
    bytes = covers.bytes;
    words = inl (record {
      known = record { registers = fits; bytes = words.known.bytes };
      covered = record { registers = fits'; bytes = words.covered.bytes };
      masks = words.masks;
    });
  }

  load_kept : (operation : LoadOperation) (rd rs1 offset : ℕ) (value value' : Option ℕ)
      → let n = byte_count (load_size operation) in let a = address_of k.state.regs rs1 offset in
      number_at k.state.bytes n a ≡ value → number_at bytes n a ≡ value' → is_some value' ≡ is_some value
      → StaysCovered (Load operation rd rs1 offset) k (loaded length k.state operation a rd value)
      (loaded length (at_same_place k regs bytes) operation a rd value')
  load_kept operation rd rs1 offset (Some v) (Some v') there there' extent =
      let size = load_size operation in
      let a = address_of k.state.regs rs1 offset in
      goes_alike (value_covered rd (loaded_value operation v) (loaded_value operation v')
      (loaded_value operation (number_unknown (number_at k.bytes (byte_count size) a)))
      (load_agrees operation (numbers_agree k.bytes k.state.bytes bytes words.masks words.known.bytes
      words.covered.bytes covers.bytes size a v v' there there'))
      (loaded_fits operation v (word_fits k.state.bytes words.known.bytes size a v there))
      (loaded_fits operation v' (word_fits bytes words.covered.bytes size a v' there')))
  load_kept operation rd rs1 offset (Some v) None there there' extent = cc
  load_kept operation rd rs1 offset None (Some v') there there' extent = cc
  load_kept operation rd rs1 offset None None there there' extent = stops_alike

  store_kept : (operation : StoreOperation) (rs2 rs1 offset : ℕ) (old old' : Option ℕ)
      → let n = store_size operation in let a = address_of k.state.regs rs1 offset in
      number_at k.state.bytes (byte_count n) a ≡ old → number_at bytes (byte_count n) a ≡ old'
      → is_some old' ≡ is_some old
      → StaysCovered (Store operation rs2 rs1 offset) k (stored length k.state n a (register k.state.regs rs2) old)
      (stored length (at_same_place k regs bytes) n a (register regs rs2) old')
  unfolding with_stored_after
  store_kept operation rs2 rs1 offset (Some old) (Some old') there there' extent =
      let n = byte_count (store_size operation) in
      let a = address_of k.state.regs rs1 offset in
      let v = register k.state.regs rs2 in
      let v' = register regs rs2 in
      let mask = unknown k.registers rs2 in
      goes_alike (record {
        pc = refl;
        registers = covers.registers;
        extent = λ x. is_some-with_number bytes n a v' x (ap is_some there') ∙ covers.extent x
            ∙ sym (is_some-with_number k.state.bytes n a v x (ap is_some there));
        bytes = put_agrees k.bytes k.state.bytes bytes covers.bytes n a mask v v' (covers.registers rs2);
        words = inl (record {
          known = record { registers = fits; bytes = put_bytes k.state.bytes words.known.bytes n a v };
          covered = record { registers = fits'; bytes = put_bytes bytes words.covered.bytes n a v' };
          masks = put_bytes k.bytes words.masks n a mask;
        });
      })
  store_kept operation rs2 rs1 offset (Some old) None there there' extent = cc
  store_kept operation rs2 rs1 offset None (Some old') there there' extent = cc
  store_kept operation rs2 rs1 offset None None there there' extent = stops_alike

  branch_kept : (test : BranchTest) (rs1 rs2 offset : ℕ) (profile : Profile) (b : Bool) (target : ℕ)
      → StaysCovered (Branch test rs1 rs2 offset) k (ending_by length alignment profile (cond b (Branches target) Passes) k.state)
      (ending_by length alignment profile (cond b (Branches target) Passes) (at_same_place k regs bytes))
  unfolding ending_by
  branch_kept test rs1 rs2 offset profile true target =
      either_kept (nat_eq (target % byte_count alignment) 0) (goes_alike (move_covered target)) stops_alike
  branch_kept test rs1 rs2 offset profile false target = goes_alike (move_covered (next_after length k.state))

  -- a branch that is decided goes alike
  test_same : (test : BranchTest) (rs1 rs2 : ℕ) → (nat_eq rs1 rs2 || decides_branch test (part k rs1) (part k rs2)) ≡ true
      → holds test (register regs rs1) (register regs rs2)
      ≡ holds test (register k.state.regs rs1) (register k.state.regs rs2)
  test_same test rs1 rs2 h = elim (or_cases (nat_eq rs1 rs2) (decides_branch test (part k rs1) (part k rs2)) h) [
    | inl one ↦
        subst (λ r. holds test (register regs rs1) (register regs r)
        ≡ holds test (register k.state.regs rs1) (register k.state.regs r)) (eqb-true rs1 rs2 one)
        (itself_holds test (register regs rs1) (register k.state.regs rs1))
    | inr sure ↦
        branch_agrees test (fits rs1) (fits rs2) (fits' rs1) (fits' rs2) (covers.registers rs1) (covers.registers rs2)
        sure
  ]

  product_kept : (profile : Profile) (known : Bool) (a b a' b' : ℕ) → decides_product profile known ≡ true
      → (known ≡ true → (a' ≡ a) × (b' ≡ b)) → product_shown profile a' b' ≡ product_shown profile a b
  product_kept P1 known a b a' b' h same = refl
  product_kept P2 known a b a' b' h same = rw ((same h).0, (same h).1)

  -- what an operation gives of two registers
  result_agrees : (operation : RegisterOperation) (rs1 rs2 : ℕ)
      → Agree (unless (nat_eq rs1 rs2 && cancels operation) (register_unknown operation (part k rs1) (part k rs2)))
      (register_value operation (register k.state.regs rs1) (register k.state.regs rs2))
      (register_value operation (register regs rs1) (register regs rs2))
  result_agrees operation rs1 rs2 =
      unless_agrees (nat_eq rs1 rs2 && cancels operation) (register_unknown operation (part k rs1) (part k rs2))
      (register_value operation (register k.state.regs rs1) (register k.state.regs rs2))
      (register_value operation (register regs rs1) (register regs rs2))
      (λ one. let both = and_parts (nat_eq rs1 rs2) (cancels operation) one in
      subst (λ r. register_value operation (register regs rs1) (register regs r)
      ≡ register_value operation (register k.state.regs rs1) (register k.state.regs r)) (eqb-true rs1 rs2 both.0)
      (cancelled operation both.1 (register k.state.regs rs1) (register regs rs1)))
      (register_agrees (fits rs1) (fits rs2) (fits' rs1) (fits' rs2) (covers.registers rs1) (covers.registers rs2)
      operation)

  -- the step of an instruction of which all is known that decides
  effect_kept : (profile : Profile) (i : Instr) → IsInstr i → decides profile i k ≡ true
      → StaysCovered i k (ending_by length alignment profile (effect_of i k.state.pc k.state.regs) k.state)
      (ending_by length alignment profile (effect_of i k.state.pc regs) (at_same_place k regs bytes))
  unfolding ending_by
  effect_kept profile (Upper operation rd immediate) ok h =
      let v = upper_value operation k.state.pc immediate in
      let v-fits = upper_fits operation k.state.pc immediate ok.1 in
      goes_alike (value_covered rd v v 0 (agree_itself 0 v) v-fits v-fits)
  effect_kept profile (Jump rd offset) ok h =
      either_kept (nat_eq (jump_target k.state.pc offset % byte_count alignment) 0) (goes_alike (link_covered rd _)) stops_alike
  effect_kept profile (JumpRegister rd rs1 offset) ok h =
      rw (same rs1 h) (either_kept (nat_eq (register_target k.state.regs rs1 offset % byte_count alignment) 0)
      (goes_alike (link_covered rd _)) stops_alike)
  effect_kept profile (Branch test rs1 rs2 offset) ok h =
      rw (test_same test rs1 rs2 h) (branch_kept test rs1 rs2 offset profile
      (holds test (register k.state.regs rs1) (register k.state.regs rs2)) (branch_target k.state.pc offset))
  effect_kept profile (Load operation rd rs1 offset) ok h =
      let n = byte_count (load_size operation) in
      let a = address_of k.state.regs rs1 offset in
      rw (same rs1 h) (either_kept (nat_eq (a % n) 0)
      (load_kept operation rd rs1 offset (number_at k.state.bytes n a) (number_at bytes n a) refl refl
      (number_extent k.state.bytes bytes covers.extent n a)) stops_alike)
  effect_kept profile (Store operation rs2 rs1 offset) ok h =
      let n = byte_count (store_size operation) in
      let a = address_of k.state.regs rs1 offset in
      rw (same rs1 h) (either_kept (nat_eq (a % n) 0)
      (store_kept operation rs2 rs1 offset (number_at k.state.bytes n a) (number_at bytes n a) refl refl
      (number_extent k.state.bytes bytes covers.extent n a)) stops_alike)
  effect_kept profile (Immediate operation rd rs1 immediate) ok h =
      let a = register k.state.regs rs1 in
      let a' = register regs rs1 in
      let b = sign_extended 12 immediate in
      let b-fits : b < 2 ^ 32 = extended_fits 12 immediate (omega arith) (omega arith) ok.2 in
      goes_alike (value_covered rd (immediate_value operation a b) (immediate_value operation a' b)
      (immediate_unknown operation (part k rs1) (partly 0 b))
      (immediate_agrees (fits rs1) b-fits (fits' rs1) b-fits (covers.registers rs1) (agree_itself 0 b) operation)
      (immediate_fits operation a b (fits rs1) b-fits) (immediate_fits operation a' b (fits' rs1) b-fits))
  effect_kept profile (Shift operation rd rs1 amount) ok h =
      let a = register k.state.regs rs1 in
      let a' = register regs rs1 in
      goes_alike (value_covered rd (shift_value operation a amount) (shift_value operation a' amount)
      (shift_value operation (unknown k.registers rs1) amount)
      (shift_agrees operation amount (fits rs1) (fits' rs1) (covers.registers rs1))
      (shift_fits operation a amount (fits rs1)) (shift_fits operation a' amount (fits' rs1)))
  effect_kept profile (Register operation rd rs1 rs2) ok h =
      goes_alike (value_covered rd _ _ _ (result_agrees operation rs1 rs2)
      (register_fits operation _ _ (fits rs1) (fits rs2)) (register_fits operation _ _ (fits' rs1) (fits' rs2)))
  effect_kept profile (Multiply operation rd rs1 rs2) ok h =
      let a = register k.state.regs rs1 in
      let b = register k.state.regs rs2 in
      let a' = register regs rs1 in
      let b' = register regs rs2 in
      rw (product_kept profile (are_known (part k rs1) (part k rs2)) a b a' b' h (both_same rs1 rs2))
      (goes_alike (value_covered rd (multiply_value operation a b) (multiply_value operation a' b')
      (multiply_unknown operation (part k rs1) (part k rs2))
      (multiply_agrees (fits rs1) (fits rs2) (fits' rs1) (fits' rs2) (covers.registers rs1) (covers.registers rs2)
      operation) (multiply_fits operation a b (fits rs1) (fits rs2))
      (multiply_fits operation a' b' (fits' rs1) (fits' rs2))))
  effect_kept profile (Divide operation rd rs1 rs2) ok h =
      let a = register k.state.regs rs1 in
      let b = register k.state.regs rs2 in
      let v = divide_value operation a b in
      let v-fits = divide_fits operation a b (fits rs1) in
      let both = both_same rs1 rs2 h in
      rw (both.0, both.1) (goes_alike (value_covered rd v v (divide_unknown operation (part k rs1) (part k rs2))
      (agree_itself _ v) v-fits v-fits))
  effect_kept profile (Fence mode before after rs1 rd) ok h = goes_alike (move_covered (next_after length k.state))
  effect_kept profile Ecall ok h = stops_alike
  effect_kept profile Ebreak ok h = stops_alike

-- of any covered state
pub step_kept : (length alignment : Size) (k : KnownState) (s : State) → Covers k s → (profile : Profile) (i : Instr)
    → IsInstr i → decides profile i k ≡ true
    → StaysCovered i k (ending_by length alignment profile (effect_of i k.state.pc k.state.regs) k.state)
    (ending_by length alignment profile (effect_of i s.pc s.regs) s)
step_kept length alignment k s covers profile i ok h = elim covers.words [
  | inl words ↦
      let same : s ≡ at_same_place k s.regs s.bytes = rw (sym covers.pc) in
      let there : Covers k (at_same_place k s.regs s.bytes) = subst (Covers k) same covers in
      let words' : AreWords k (at_same_place k s.regs s.bytes) = subst (AreWords k) same words in
      rw same (effect_kept length alignment k s.regs s.bytes there words' profile i ok h)
  | inr one ↦
      subst (λ t. StaysCovered i k (ending_by length alignment profile (effect_of i k.state.pc k.state.regs) k.state)
      (ending_by length alignment profile (effect_of i t.pc t.regs) t)) (sym one)
      (ends_itself i k (ending_by length alignment profile (effect_of i k.state.pc k.state.regs) k.state))
]
