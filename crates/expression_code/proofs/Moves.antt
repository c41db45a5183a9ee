-- The pieces of emitted code that take words from slots, that put registers into the frame, and that compute in
-- between.
-- A list of such moves is run on registers and bytes by a function, and the machine on its code does that.
use Rattle.std.proofs.Common.{Some, ◌≡◌, ◌≢◌, ℕ, ◌+◌, ◌*◌, ◌%◌, ◌^◌, ◌<◌, ◌≤◌, ◌==◌, Bool, true, false, not, ◌&&◌, cond}
use Rattle.std.proofs.Common.{nat_lt, List, [], ◌∷◌, ◌++◌, length, refl, ap, ap₂, ◌∙◌, arith, eq-eqb, ne_eqb}
use Rattle.expression_code.proofs.Below.{Event, IsInside, address_of, all_straight, as_code, both_left}
use Rattle.expression_code.proofs.Below.{both_right, byte_count, ByteMap, cheaper, Contents, contents_of}
use Rattle.expression_code.proofs.Below.{fun_ext, gives, idle, Instr, load_code, load_size}
use Rattle.expression_code.proofs.Below.{LoadOperation, lower_part, lt-ltb, ltb-true, nat_tests}
use Rattle.expression_code.proofs.Below.{no_access, none, number_at, number_or_zero, only_computes}
use Rattle.expression_code.proofs.Below.{quiet, register, registers_after, registers_of, sign_extended}
use Rattle.expression_code.proofs.Below.{Size, State, store_size, StoreOperation, StraightState, sum_of}
use Rattle.expression_code.proofs.Below.{Then, upper_part, with_number, with_register, with_result}
use Rattle.expression_code.proofs.Arithmetic.{far_address, near_address, upper_fits}
use Rattle.expression_code.proofs.Frame.{Setting, Before, After, Steps, Runs, setting, HeldAt, Held}
use Rattle.expression_code.proofs.Frame.{frame_there, frame_runs}
use Rattle.expression_code.proofs.program_logic_lemmas.Face.{Became, IsFit, IsMet}
use Rattle.rv_code.specs.declared.instructions.Instr.TheVariants as instr
use Rattle.expression_code.specs.Below.{Add, Lui, Lw}
use Rattle.rv_machine.specs.declared.memory.Size.TheVariants.{Byte}

-- Registers.

-- a register other than x0 reads as what it has
pub register-at : (regs : ℕ → ℕ) (r : ℕ) → r ≢ 0 → register regs r ≡ regs r
register-at regs r h = rw (ne_eqb r 0 h)

pub written : (regs : ℕ → ℕ) (rd value : ℕ) → rd ≢ 0 → with_register regs rd value rd ≡ value
written regs rd value h = rw (ne_eqb rd 0 h, eq-eqb rd rd refl)

pub unwritten : (regs : ℕ → ℕ) (rd value q : ℕ) → q ≢ rd → with_register regs rd value q ≡ regs q
unwritten regs rd value q h = grind (arith, nat_tests)

-- so of registers that are those after a write
pub is_written : (regs : ℕ → ℕ) (rd value : ℕ) {now : ℕ → ℕ} → now ≡ with_register regs rd value → rd ≢ 0
    → now rd ≡ value
is_written regs rd value is h = ap (λ (r : ℕ → ℕ). r rd) is ∙ written regs rd value h

pub is_left : (regs : ℕ → ℕ) (rd value : ℕ) {now : ℕ → ℕ} → now ≡ with_register regs rd value → (q : ℕ) → q ≢ rd
    → now q ≡ regs q
is_left regs rd value is q h = ap (λ (r : ℕ → ℕ). r q) is ∙ unwritten regs rd value q h

-- Moves.

pub data Move : Type 0 where
  -- a slot's word into a register
  take : (r o : ℕ) → Move
  -- so many low bytes of a register into the frame
  put : (operation : StoreOperation) (r o : ℕ) → Move
  -- instructions that only compute
  does : (is : List Instr) → Move

abbrev pub put_code : StoreOperation → ℕ → ℕ → List Instr
put_code operation r o =
    cond (nat_lt o 2048) (instr.Store operation r 2 o ∷ [])
    (instr.Upper Lui 28 (upper_part o) ∷ instr.Register Add 28 28 2
    ∷ instr.Store operation r 28 (lower_part o) ∷ [])

abbrev pub move_code : Move → List Instr
move_code (take r o) = load_code r o
move_code (put operation r o) = put_code operation r o
move_code (does is) = is

-- registers beyond x4
abbrev pub is_free : ℕ → Bool
is_free r = nat_lt 4 r

pub none_low : (r : ℕ) → r < 5 → is_free r ≡ false
none_low r low = grind (arith, nat_tests)

abbrev pub is_move : Move → Bool
is_move (take r o) = is_free r && nat_lt r 32
is_move (put operation r o) = is_free r && (nat_lt r 32 && not (r == 28))
is_move (does is) = only_computes is_free is

abbrev pub are_moves : List Move → Bool
are_moves [] = true
are_moves (m ∷ ms) = is_move m && are_moves ms

abbrev pub move_cost : Move → ℕ
move_cost (take r o) = 3
move_cost (put operation r o) = 3
move_cost (does is) = length is

abbrev pub moves_cost : List Move → ℕ
moves_cost [] = 0
moves_cost (m ∷ ms) = move_cost m + moves_cost ms

-- the code of moves behind other code
abbrev pub behind : List Instr → List Move → List Instr
behind xs [] = xs
behind xs (m ∷ ms) = behind (xs ++ move_code m) ms

-- what they make of registers and bytes; a far slot's address is made in x28

abbrev pub moved : Setting → Move → Contents → Contents
moved z (take r o) c = with_result r (number_or_zero (number_at c.bytes 4 (z.frame + o))) c
moved z (put operation r o) c = record {
  regs = with_register c.regs 28 (cond (nat_lt o 2048) (c.regs 28) (sum_of (upper_part o * 2 ^ 12) z.frame));
  bytes = with_number c.bytes (byte_count (store_size operation)) (z.frame + o) (c.regs r);
}
moved z (does is) c = record { regs = registers_after is c.regs; bytes = c.bytes }

abbrev pub all_moved : Setting → List Move → Contents → Contents
all_moved z [] c = c
all_moved z (m ∷ ms) c = all_moved z ms (moved z m c)

-- where they take and put lies in the frame, and is aligned
abbrev pub IsSlot : Setting → Move → Type 0
IsSlot z (take r o) = (o % 4 ≡ 0) × (o + 4 ≤ z.size)
IsSlot z (put operation r o) = (o % byte_count (store_size operation) ≡ 0)
    × (o + byte_count (store_size operation) ≤ z.size)
IsSlot z (does is) = Unit {0}

abbrev pub AreSlots : Setting → List Move → Type 0
AreSlots z [] = Unit {0}
AreSlots z (m ∷ ms) = IsSlot z m × AreSlots z ms

-- the state is held, and its registers and bytes are those after the moves
pub record Moved (z : Setting) (ms : List Move) (env : StraightState) (s t : State) : Type 0 where
  pub held : HeldAt z t
  pub regs : t.regs ≡ (all_moved z ms (contents_of s)).regs
  pub bytes : t.bytes ≡ (all_moved z ms (contents_of s)).bytes

-- the registers are those after instructions that only compute, and nothing else has changed
pub record Computed (z : Setting) (is : List Instr) (env : StraightState) (s t : State) : Type 0 where
  pub held : HeldAt z t
  pub registers : t.regs ≡ registers_after is s.regs
  pub same : t.bytes ≡ s.bytes

pub computing_within : (z : Setting) (works : ℕ → Bool) (is : List Instr) → only_computes works is ≡ true
    → ((r : ℕ) → r < 5 → works r ≡ false) → Runs z (length is) none is (Held z) (Computed z is)
computing_within z works is plain low =
    let access = no_access works (λ e. IsInside z.frame z.size e) is plain in
    gives
    (λ env s t fine held done.
    let c = registers_of works is (contents_of s) plain in
    assumption (done.1.regs ∙ ap (λ (d : Contents). d.regs) c, done.1.bytes ∙ ap (λ (d : Contents). d.bytes) c))
    (frame_runs z {P = Held z} works is [] (all_straight works is plain) low access.0
    (λ env s held. (held, access.1 (contents_of s))))

even_at : (size : Size) (frame o : ℕ) → frame % 4 ≡ 0 → o % byte_count size ≡ 0 → (frame + o) % byte_count size ≡ 0
even_at Byte frame o even aligned = omega arith
even_at size frame o even aligned = omega arith

-- a register and an offset are the address of a place in the frame
abbrev Addresses : Setting → ℕ → ℕ → ℕ → Before
Addresses z rs offset a env s = HeldAt z s × (address_of s.regs rs offset ≡ z.frame + a)

-- An access of so many bytes at an address that a register has.

module _ (z : Setting) (rs offset a : ℕ) (rs_small : rs < 32) (offset_small : offset < 4096) where
  met : (n : ℕ) → a + n ≤ z.size → (s : State) → HeldAt z s → address_of s.regs rs offset ≡ z.frame + a
      → IsMet n rs offset (z.frame + a) (contents_of s)
  met n inside s held address = record { address = address; data_there = frame_there z s held n a inside }

  fit : (size : Size) (e : Event) → a % byte_count size ≡ 0 → IsInside z.frame z.size (Some e)
      → IsFit (λ e. IsInside z.frame z.size e) (byte_count size) e (z.frame + a)
  fit size e even inside = record { even = even_at size z.frame a z.even even; allowed = inside }

  -- what the one instruction makes of a state, where that is its place
  abbrev Accesses : Instr → Type 0
  Accesses i = Runs z 1 none (i ∷ []) (Addresses z rs offset a)
      (λ env s t. HeldAt z t × Became (i ∷ []) ((z.frame + a) ∷ []) s t)

  pub loading : (operation : LoadOperation) (rd : ℕ) → 4 < rd → rd < 32 → a % byte_count (load_size operation) ≡ 0
      → a + byte_count (load_size operation) ≤ z.size → Accesses (instr.Load operation rd rs offset)
  loading operation rd low small even inside =
      frame_runs z {P = Addresses z rs offset a} is_free (instr.Load operation rd rs offset ∷ [])
      ((z.frame + a) ∷ [])
      (simp (lt-ltb 4 rd low, lt-ltb rd 32 small, lt-ltb rs 32 rs_small, lt-ltb offset 4096 offset_small)) none_low
      (fit (load_size operation) _ even (omega arith, omega arith), tt)
      (λ env s given. (given.0, (met _ inside s given.0 given.1, tt)))

  pub storing : (operation : StoreOperation) (rs2 : ℕ) → rs2 < 32 → a % byte_count (store_size operation) ≡ 0
      → a + byte_count (store_size operation) ≤ z.size → Accesses (instr.Store operation rs2 rs offset)
  storing operation rs2 small even inside =
      frame_runs z {P = Addresses z rs offset a} is_free (instr.Store operation rs2 rs offset ∷ [])
      ((z.frame + a) ∷ [])
      (simp (lt-ltb rs2 32 small, lt-ltb rs 32 rs_small, lt-ltb offset 4096 offset_small)) none_low
      (fit (store_size operation) _ even (omega arith, omega arith), tt)
      (λ env s given. (given.0, (met _ inside s given.0 given.1, tt)))

-- An access of a slot: the address of a far one is first made in a register.

abbrev far_code : ℕ → ℕ → List Instr
far_code r o = instr.Upper Lui r (upper_part o) ∷ instr.Register Add r r 2 ∷ []

slot_code : (access : ℕ → ℕ → Instr) (r o : ℕ) (near : Bool)
    → cond near (access 2 o ∷ []) (far_code r o ++ access r (lower_part o) ∷ []) ≡ cond near [] (far_code r o)
    ++ access (cond near 2 r) (cond near o (lower_part o)) ∷ []
slot_code access r o true = refl
slot_code access r o false = refl

far_registers : (regs : ℕ → ℕ) (r o frame : ℕ) → 4 < r → regs 2 ≡ frame
    → registers_after (far_code r o) regs ≡ with_register regs r (sum_of (upper_part o * 2 ^ 12) frame)
far_registers regs r o frame low base = fun_ext (λ q. grind (arith, nat_tests))

near_or_far : (regs : ℕ → ℕ) (r v : ℕ) (near : Bool)
    → cond near regs (with_register regs r v) ≡ with_register regs r (cond near (regs r) v)
near_or_far regs r v near = fun_ext (λ q. grind (arith, nat_tests))

anew : (regs : ℕ → ℕ) (r u v : ℕ) (near : Bool)
    → with_register (cond near regs (with_register regs r u)) r v ≡ with_register regs r v
anew regs r u v near = fun_ext (λ q. grind (arith, nat_tests))

source : (regs : ℕ → ℕ) (r v : ℕ) (near : Bool) → r ≢ 28
    → register (cond near regs (with_register regs 28 v)) r ≡ register regs r
source regs r v near other = grind (arith, nat_tests)

module _ (z : Setting) where
  reached : (r o : ℕ) → 4 < r → r < 32 → o < z.size → (near : Bool) → nat_lt o 2048 ≡ near
      → Runs z 2 none (cond near [] (far_code r o)) (Held z)
      (λ env s t. Addresses z (cond near 2 r) (cond near o (lower_part o)) o env t
      × (t.regs ≡ cond near s.regs (with_register s.regs r (sum_of (upper_part o * 2 ^ 12) z.frame)))
      × (t.bytes ≡ s.bytes))
  reached r o low small inside true h =
      idle (λ env s held. assumption (ap (λ (x : ℕ). sum_of x (sign_extended 12 o)) held.base
      ∙ near_address z.frame o (ltb-true o 2048 h) (omega arith)))
  reached r o low small inside false h =
      gives
      (λ env s t fine held done.
      let regs : t.regs ≡ with_register s.regs r (sum_of (upper_part o * 2 ^ 12) z.frame) = done.registers
      ∙ far_registers s.regs r o z.frame low held.base in (
        (
          done.held,
          ap (λ (after : ℕ → ℕ). address_of after r (lower_part o)) regs
              ∙ rw (ne_eqb r 0 (omega arith), eq-eqb r r refl)
              (far_address z.frame o (omega arith)),
        ),
        regs,
        done.same,
      ))
      (computing_within z is_free (far_code r o)
      (simp (lt-ltb 4 r low, lt-ltb r 32 small, lt-ltb (upper_part o) 1048576 (upper_fits o))) none_low)

  -- so many low bytes of a register into the frame
  pub putting : (operation : StoreOperation) (r o : ℕ) → r < 32 → r ≢ 28 → o % byte_count (store_size operation) ≡ 0
      → o + byte_count (store_size operation) ≤ z.size
      → Runs z 3 none (put_code operation r o) (Held z)
      (λ env s t. HeldAt z t
      × (t.regs ≡ with_register s.regs 28 (cond (nat_lt o 2048) (s.regs 28) (sum_of (upper_part o * 2 ^ 12) z.frame)))
      × (t.bytes ≡ with_number s.bytes (byte_count (store_size operation)) (z.frame + o) (register s.regs r)))
  putting operation r o small other even inside =
      let near = nat_lt o 2048 in
      as_code (slot_code (λ rs offset. instr.Store operation r rs offset) 28 o near)
      (gives
      (λ env s t fine held done. (
        done.second.0,
        done.second.1.regs ∙ (done.first.1 ∙ near_or_far s.regs 28 _ near),
        done.second.1.bytes
            ∙ ap₂ (λ (b : ByteMap) (w : ℕ). with_number b (byte_count (store_size operation)) (z.frame + o) w)
            done.first.2 (ap (λ (regs : ℕ → ℕ). register regs r) done.first.1 ∙ source s.regs r _ near other),
      ))
      (quiet
      (reached 28 o (omega arith) (omega arith) (omega arith) near refl)
      (storing z (cond near 2 28) (cond near o (lower_part o)) o (grind (arith, nat_tests)) (grind (arith, nat_tests))
      operation r small even inside)
      (λ env s t held done. done.0)))

  -- one move
  pub move_runs : (m : Move) → is_move m ≡ true → IsSlot z m
      → Runs z (move_cost m) none (move_code m) (Held z) (Moved z (m ∷ []))
  move_runs (take r o) ok slot =
      let low : 4 < r = grind (arith, nat_tests, ok) in
      let small : r < 32 = grind (arith, nat_tests, ok) in
      let near = nat_lt o 2048 in
      as_code (slot_code (λ rs offset. instr.Load Lw r rs offset) r o near)
      (gives
      (λ env s t fine held done.
      let value = λ (b : ByteMap). number_or_zero (number_at b 4 (z.frame + o)) in
      record {
        held = done.second.0;
        regs = done.second.1.regs
            ∙ (ap₂ (λ (regs : ℕ → ℕ) (b : ByteMap). with_register regs r (value b)) done.first.1 done.first.2
            ∙ anew s.regs r _ _ near);
        bytes = done.second.1.bytes ∙ done.first.2;
      })
      (quiet
      (reached r o low small (omega arith) near refl)
      (loading z (cond near 2 r) (cond near o (lower_part o)) o (grind (arith, nat_tests)) (grind (arith, nat_tests))
      Lw r low small slot.0 slot.1)
      (λ env s t held done. done.0)))
  move_runs (put operation r o) ok slot =
      let nonzero : r ≢ 0 = λ e. absurd (grind (arith, nat_tests, ok, e)) in
      gives
      (λ env s t fine given done. assumption (done.2
      ∙ ap (λ (w : ℕ). with_number s.bytes (byte_count (store_size operation)) (z.frame + o) w)
      (register-at s.regs r nonzero)))
      (putting operation r o (grind (arith, nat_tests, ok)) (λ e. absurd (grind (arith, nat_tests, ok, e))) slot.0
      slot.1)
  move_runs (does is) ok slot =
      gives (λ env s t fine held done. assumption) (computing_within z is_free is ok none_low)

  one_more : (m : Move) (ms : List Move) (env : StraightState) (s u t : State) → Moved z (m ∷ []) env s u
      → Moved z ms env u t → Moved z (m ∷ ms) env s t
  one_more m ms env s u t one more =
      let same : contents_of u ≡ moved z m (contents_of s) =
      ap₂ (λ (r : ℕ → ℕ) (b : ByteMap). let c : Contents = record { regs = r; bytes = b } in
      c) one.regs one.bytes in
      assumption (
        more.regs ∙ ap (λ (c : Contents). (all_moved z ms c).regs) same,
        more.bytes ∙ ap (λ (c : Contents). (all_moved z ms c).bytes) same,
      )

  -- code, and then moves
  then_moves : (ms : List Move) → are_moves ms ≡ true → AreSlots z ms
      → {n : ℕ} {steps : Steps} {xs : List Instr} {P : Before} {Q : After}
      → Runs z n steps xs P Q → ((env : StraightState) (s t : State) → P env s → Q env s t → HeldAt z t)
      → Runs z (n + moves_cost ms) steps (behind xs ms) P (Then (setting z) Q (Moved z ms))
  then_moves [] ok slots runs held =
      cheaper (omega arith)
      (gives (λ env s t fine given done. record {
        middle = t;
        first = done;
        second = record { held = held env s t given done; regs = refl; bytes = refl };
      }) runs)
  then_moves (m ∷ ms) ok slots runs held =
      cheaper (omega arith)
      (gives
      (λ env s t fine given done. record {
        middle = done.first.middle;
        first = done.first.first;
        second = one_more m ms env done.first.middle done.middle t done.first.second done.second;
      })
      (then_moves ms (both_right _ _ ok) slots.1
      (quiet runs (move_runs m (both_left _ _ ok) slots.0) held)
      (λ env s t given done. done.second.held)))

  -- moves alone
  pub moves_run : (m : Move) (ms : List Move) → are_moves (m ∷ ms) ≡ true → AreSlots z (m ∷ ms)
      → Runs z (moves_cost (m ∷ ms)) none (behind (move_code m) ms) (Held z) (Moved z (m ∷ ms))
  moves_run m ms ok slots =
      gives
      (λ env s t fine held done. one_more m ms env s done.middle t done.first done.second)
      (then_moves ms (both_right _ _ ok) slots.1
      (move_runs m (both_left _ _ ok) slots.0)
      (λ env s t held done. done.held))
