-- The pieces that are emitted for words of the room, for numbers and for lists of registers. What they make of a state is
-- a function of it.
use Rattle.std.specs.Prelude.{is_some, unwrap_or, not}
use Rattle.std.proofs.Common.{◌≡◌, ◌≢◌, ℕ, suc, ◌+◌, ◌*◌, ◌%◌, ◌^◌, ◌<◌, ◌≤◌, ◌==◌, Bool, true, false, ◌&&◌, cond, nat_lt}
use Rattle.std.proofs.Common.{List, [], ◌∷◌, ◌++◌, length, map, Option, Some, None, refl, sym, ap, ap₂, ◌∙◌, arith}
use Rattle.std.proofs.Common.{eq-eqb, ne_eqb, if◌then◌else◌}
use Rattle.std.proofs.Math.Path.{fun_ext}
use Rattle.std.proofs.lemmas.Bool.{eqb-false, false≢true, lt-ltb, ltb-true}
use Rattle.std.proofs.lemmas.Bool.Decides.{nat_tests}
use Rattle.expression_code.proofs.program_logic_lemmas.Counted.{computes_runs, having, Runs, Setting, weaken_runs}
use Rattle.expression_code.proofs.program_logic_lemmas.Counted.{straight_runs}
use Rattle.linked_calls.proofs.Below.{Add, address_code, after, after_all, after_append, are_straight, AreData}
use Rattle.linked_calls.proofs.Below.{AreFit, AreMet, both_left, both_right, constant_after, constant_code}
use Rattle.linked_calls.proofs.Below.{constant_plain, Data, far_address, Instr, is_some-with_number, IsMet, load_code}
use Rattle.linked_calls.proofs.Below.{loads_code, lower_fits, lower_part, Lui, Lw, near_address, number_at}
use Rattle.linked_calls.proofs.Below.{number_or_zero, plain_append, Register, register, register-at}
use Rattle.linked_calls.proofs.Below.{register_kept, register_value, RegisterOperation, registers_after}
use Rattle.linked_calls.proofs.Below.{sign_extended, store_code, stores_code, sum_of, Sw, unwritten, upper_fits}
use Rattle.linked_calls.proofs.Below.{upper_part, with_number, with_numbers, with_register, with_result, written}
use Rattle.linked_calls.specs.Below.{Addi, Immediate, Upper, Word}
use Rattle.linked_calls.specs.FunctionCode.{bound_code, far_code}
use Rattle.rv_code.specs.declared.instructions.Instr.TheVariants.{Load, Store}
use Rattle.rv_machine.specs.declared.observation.Event.TheVariants as event
use Rattle.linked_calls.proofs.Bytes.{number_there}

pub overwritten : (regs : ℕ → ℕ) (r u v : ℕ) → with_register (with_register regs r u) r v ≡ with_register regs r v
overwritten regs r u v = fun_ext (λ q. grind (arith, nat_tests))

-- a number in a register, and then an operation into the same
pub number_then : (z : Setting) {P : Data → Type 0} (r n : ℕ) → r < 32 → r ≢ 0 → n < 2 ^ 32
    → (operation : RegisterOperation) (a b : ℕ) → a < 32 → b < 32
    → Runs z (length (constant_code r n ++ Register operation r a b ∷ []))
    (constant_code r n ++ Register operation r a b ∷ []) P
    (λ s t. t ≡ with_result r (register_value operation (register (with_register s.regs r n) a)
    (register (with_register s.regs r n) b)) s)
number_then z r n few nonzero below operation a b a_few b_few =
    let works = λ (q : ℕ). q == r in
    let number = constant_code r n in
    let computes = Register operation r a b ∷ [] in
    let value = λ (regs : ℕ → ℕ). register_value operation (register (with_register regs r n) a)
    (register (with_register regs r n) b) in
    computes_runs z works (number ++ computes) (λ regs. with_register regs r (value regs))
    (plain_append works number computes (constant_plain works r n (eq-eqb r r refl) few)
    (simp (eq-eqb r r refl, lt-ltb r 32 few, lt-ltb a 32 a_few, lt-ltb b 32 b_few)))
    (λ regs. after_append number computes regs
    ∙ ap (registers_after computes) (constant_after r n nonzero below regs)
    ∙ overwritten regs r n (value regs))

-- one of two codes, by whether a number fits an immediate
by_near : (z : Setting) {P : Data → Type 0} {R : Data → Data → Type 0} (n : ℕ) (near far : List Instr)
    → (n < 2048 → Runs z (length near) near P R) → Runs z (length far) far P R
    → Runs z (length (if nat_lt n 2048 then near else far)) (if nat_lt n 2048 then near else far) P R
by_near z {P = P} {R = R} n near far one other = by (nat_lt n 2048) refl
  where
    by : (b : Bool) → nat_lt n 2048 ≡ b → Runs z (length (cond b near far)) (cond b near far) P R
    by true h = one (ltb-true n 2048 h)
    by false h = other

-- the address of an offset from x2 on

near_sum : (x offset : ℕ) → offset < 2048 → sum_of x (sign_extended 12 offset) ≡ sum_of offset x
near_sum x offset near = grind (arith, nat_tests)

pub address_runs : (z : Setting) {P : Data → Type 0} (r offset : ℕ) → r < 32 → r ≢ 0 → r ≢ 2 → offset < 2 ^ 32
    → Runs z (length (address_code r offset)) (address_code r offset) P
    (λ s t. t ≡ with_result r (sum_of offset (s.regs 2)) s)
address_runs z {P = P} r offset few nonzero other below =
    let near = Immediate Addi r 2 offset ∷ [] in
    let far = constant_code r offset ++ Register Add r r 2 ∷ [] in
    by_near z offset near far
    (λ small. weaken_runs z {P' = P}
    (computes_runs z (λ q. q == r) near (λ regs. with_register regs r (sum_of (regs 2) (sign_extended 12 offset)))
    (simp (eq-eqb r r refl, lt-ltb r 32 few, lt-ltb offset 4096 (omega arith))) (λ regs. refl))
    (λ s given. given)
    (λ s t given made. made ∙ ap (λ v. with_result r v s) (near_sum (s.regs 2) offset small)))
    (weaken_runs z {P' = P} (number_then z r offset few nonzero below Add r 2 few (omega arith)) (λ s given. given)
    (λ s t given made.
    let one = with_register s.regs r offset in
    made
    ∙ ap (λ v. with_result r v s)
    (ap₂ sum_of (register-at one r nonzero ∙ written s.regs r offset nonzero)
    (unwritten s.regs r offset 2 (λ e. other (sym e))))))

-- the end of a loop, which is so many bytes behind x5, in x7

far_runs : (z : Setting) {P : Data → Type 0} (bytes : ℕ) → bytes < 2 ^ 32
    → Runs z (length (far_code bytes)) (far_code bytes) P (λ s t. t ≡ with_result 7 (sum_of bytes (s.regs 5)) s)
far_runs z bytes below =
    number_then z 7 bytes (omega arith) (λ e. omega arith) below Add 7 5 (omega arith) (omega arith)

pub bound_runs : (z : Setting) {P : Data → Type 0} (bytes : ℕ) → bytes < 2 ^ 32
    → Runs z (length (bound_code bytes)) (bound_code bytes) P (λ s t. t ≡ with_result 7 (sum_of bytes (s.regs 5)) s)
bound_runs z {P = P} bytes below =
    let near = Immediate Addi 7 5 bytes ∷ [] in
    by_near z bytes near (far_code bytes)
    (λ small. weaken_runs z {P' = P}
    (computes_runs z (λ q. q == 7) near (λ regs. with_register regs 7 (sum_of (regs 5) (sign_extended 12 bytes)))
    (simp (lt-ltb bytes 4096 (omega arith))) (λ regs. refl))
    (λ s given. given)
    (λ s t given made. made ∙ ap (λ v. with_result 7 v s) (near_sum (s.regs 5) bytes small)))
    (far_runs z bytes below)

-- A word of the room: x2 is the base, and the word is there at an offset.

pub record HasWord (base offset : ℕ) (s : Data) : Type 0 where
  pub stack : s.regs 2 ≡ base
  pub there : is_some (number_at s.bytes 4 (base + offset)) ≡ true

pub same_number : (o : Option ℕ) → number_or_zero o ≡ unwrap_or o 0
same_number (Some v) = refl
same_number None = refl

-- the upper part of an offset in a register, and then the base added to it
abbrev raised : (ℕ → ℕ) → ℕ → ℕ → ℕ → ℕ
raised regs r offset =
    let one = with_register regs r (upper_part offset * 2 ^ 12) in
    with_register one r (sum_of (register one r) (register one 2))

raised_over : (regs : ℕ → ℕ) (r offset v : ℕ) → with_register (raised regs r offset) r v ≡ with_register regs r v
raised_over regs r offset v =
    let one = with_register regs r (upper_part offset * 2 ^ 12) in
    overwritten one r (sum_of (register one r) (register one 2)) v ∙ overwritten regs r (upper_part offset * 2 ^ 12) v

module _ (z : Setting) (base offset : ℕ) (even : (base + offset) % 4 ≡ 0) (below : base + offset < 2 ^ 32)
    {P : Data → Type 0} (has : (s : Data) → P s → HasWord base offset s) where
  near_met : offset < 2048 → (s : Data) → HasWord base offset s → IsMet 4 2 offset (base + offset) s
  near_met near s has = record {
    address = ap (λ x. sum_of x (sign_extended 12 offset)) has.stack ∙ near_address base offset near below;
    data_there = has.there;
  }

  far_met : (r : ℕ) → r ≢ 0 → r ≢ 2 → (s : Data) → HasWord base offset s
      → IsMet 4 r (lower_part offset) (base + offset) (having (raised s.regs r offset) s)
  far_met r nonzero other s has =
      let u = upper_part offset * 2 ^ 12 in
      let one = with_register s.regs r u in
      let v = sum_of (register one r) (register one 2) in
      record {
        address = ap (λ x. sum_of x (sign_extended 12 (lower_part offset)))
            (register-at (raised s.regs r offset) r nonzero ∙ written one r v nonzero
            ∙ ap₂ sum_of (register-at one r nonzero ∙ written s.regs r u nonzero)
            (unwritten s.regs r u 2 (λ e. other (sym e)) ∙ has.stack))
            ∙ far_address base offset below;
        data_there = has.there;
      }

  -- into a register
  pub load_runs : (r : ℕ) → r < 32 → r ≢ 0 → r ≢ 2 → z.allowed base (Some (event.Load (base + offset) Word))
      → Runs z (length (load_code r offset)) (load_code r offset) P
      (λ s t. t ≡ with_result r (number_or_zero (number_at s.bytes 4 (base + offset))) s)
  load_runs r few nonzero other allowed =
      let near = Load Lw r 2 offset ∷ [] in
      let far = Upper Lui r (upper_part offset) ∷ Register Add r r 2 ∷ Load Lw r r (lower_part offset) ∷ [] in
      let still = ne_eqb 2 r (λ e. other (sym e)) in
      by_near z offset near far
      (λ small. straight_runs z base (λ q. q == r) near ((base + offset) ∷ [])
      (simp (eq-eqb r r refl, lt-ltb r 32 few, lt-ltb offset 4096 (omega arith))) still
      (record { even = even; allowed = allowed }, tt) (λ s given. (has s given).stack)
      (λ s given. (near_met small s (has s given), tt)) (λ s given. refl))
      (straight_runs z base (λ q. q == r) far ((base + offset) ∷ [])
      (simp (
        eq-eqb r r refl,
        lt-ltb r 32 few,
        lt-ltb (upper_part offset) 1048576 (upper_fits offset),
        lt-ltb (lower_part offset) 4096 (lower_fits offset),
      )) still
      (record { even = even; allowed = allowed }, tt) (λ s given. (has s given).stack)
      (λ s given. (far_met r nonzero other s (has s given), tt))
      (λ s given. ap (λ (regs : ℕ → ℕ). having regs s)
      (raised_over s.regs r offset (number_or_zero (number_at s.bytes 4 (base + offset))))))

  -- a register was put there, and x28 may have changed
  pub record Puts (r : ℕ) (s t : Data) : Type 0 where
    pub written : t.bytes ≡ with_number s.bytes 4 (base + offset) (s.regs r)
    pub others : (q : ℕ) → q ≢ 28 → t.regs q ≡ s.regs q

  pub store_runs : (r : ℕ) → r < 32 → r ≢ 0 → r ≢ 28 → z.allowed base (Some (event.Store (base + offset) Word))
      → Runs z (length (store_code r offset)) (store_code r offset) P (Puts r)
  store_runs r few nonzero other allowed =
      let near = Store Sw r 2 offset ∷ [] in
      let far = Upper Lui 28 (upper_part offset) ∷ Register Add 28 28 2 ∷ Store Sw r 28 (lower_part offset) ∷ [] in
      let plain : are_straight (λ q. q == 28) far ≡ true = simp (
        lt-ltb r 32 few,
        lt-ltb (upper_part offset) 1048576 (upper_fits offset),
        lt-ltb (lower_part offset) 4096 (lower_fits offset),
      ) in
      by_near z offset near far
      (λ small. straight_runs z base (λ q. q == 28) near ((base + offset) ∷ [])
      (simp (lt-ltb r 32 few, lt-ltb offset 4096 (omega arith))) refl (record { even = even; allowed = allowed }, tt)
      (λ s given. (has s given).stack) (λ s given. (near_met small s (has s given), tt))
      (λ s given. record {
        written = ap (λ v. with_number s.bytes 4 (base + offset) v) (register-at s.regs r nonzero);
        others = λ q h. refl;
      }))
      (straight_runs z base (λ q. q == 28) far ((base + offset) ∷ []) plain refl
      (record { even = even; allowed = allowed }, tt) (λ s given. (has s given).stack)
      (λ s given. (far_met 28 (λ e. omega arith) (λ e. omega arith) s (has s given), tt))
      (λ s given.
      let u = upper_part offset * 2 ^ 12 in
      let one = with_register s.regs 28 u in
      record {
        written = ap (λ v. with_number s.bytes 4 (base + offset) v)
            (register-at (raised s.regs 28 offset) r nonzero
            ∙ unwritten one 28 (sum_of (register one 28) (register one 2)) r other
            ∙ unwritten s.regs 28 u r other);
        others = λ q h. register_kept (λ x. x == 28) far ((base + offset) ∷ []) s q plain (ne_eqb q 28 h);
      }))

-- Lists of registers, in words one after another.

-- loads and stores of words at every place of a stretch, where x2 is there
abbrev pub MayLoad : Setting → ℕ → ℕ → ℕ → Type 0
MayLoad z sp low high = (x : ℕ) → low ≤ x → x + 4 ≤ high → z.allowed sp (Some (event.Load x Word))

abbrev pub MayStore : Setting → ℕ → ℕ → ℕ → Type 0
MayStore z sp low high = (x : ℕ) → low ≤ x → x + 4 ≤ high → z.allowed sp (Some (event.Store x Word))

-- as many as there are registers

pub stores_length : (base offset : ℕ) (rs : List ℕ) → length (stores_code base offset rs) ≡ length rs
stores_length base offset [] = refl
stores_length base offset (r ∷ rs) = ap (λ n. suc n) (stores_length base (offset + 4) rs)

pub loads_length : (base offset : ℕ) (rs : List ℕ) → length (loads_code base offset rs) ≡ length rs
loads_length base offset [] = refl
loads_length base offset (r ∷ rs) = ap (λ n. suc n) (loads_length base (offset + 4) rs)

-- the words' addresses
abbrev pub words_at : ℕ → List ℕ → List ℕ
words_at a [] = []
words_at a (r ∷ rs) = a ∷ words_at (a + 4) rs

abbrev pub are_registers : List ℕ → Bool
are_registers [] = true
are_registers (r ∷ rs) = nat_lt r 32 && are_registers rs

-- From x2 on.

stores_plain : (offset : ℕ) (rs : List ℕ) → are_registers rs ≡ true → offset + 4 * length rs ≤ 2048
    → are_straight (λ q. false) (stores_code 2 offset rs) ≡ true
stores_plain offset [] registers near = refl
stores_plain offset (r ∷ rs) registers near =
    rw (both_left (nat_lt r 32) (are_registers rs) registers, lt-ltb offset 4096 (omega arith))
    (stores_plain (offset + 4) rs (both_right (nat_lt r 32) (are_registers rs) registers) (omega arith))

stores_fit : (z : Setting) (sp offset a : ℕ) (rs : List ℕ) → a % 4 ≡ 0 → MayStore z sp a (a + 4 * length rs)
    → AreFit (z.allowed sp) (stores_code 2 offset rs) (words_at a rs)
stores_fit z sp offset a [] even may = tt
stores_fit z sp offset a (r ∷ rs) even may = (
  record { even = even; allowed = may a (omega arith) (omega arith) },
  stores_fit z sp (offset + 4) (a + 4) rs (omega arith) (λ x low high. may x (omega arith) (omega arith)),
)

stores_met : (offset a : ℕ) (rs : List ℕ) (d : Data) → offset + 4 * length rs ≤ 2048 → a + 4 * length rs ≤ 2 ^ 32
    → d.regs 2 + offset ≡ a → AreData a (a + 4 * length rs) d.bytes → AreMet (stores_code 2 offset rs) (words_at a rs) d
stores_met offset a [] d near below root there = tt
stores_met offset a (r ∷ rs) d near below root there =
    let here = number_there d.bytes 4 a (λ x low high. there x low (omega arith)) in (
      record { address = near_address (d.regs 2) offset (omega arith) (omega arith) ∙ root; data_there = here },
      stores_met (offset + 4) (a + 4) rs (after (Store Sw r 2 offset) a d) (omega arith) (omega arith) (omega arith)
          (λ x low high. is_some-with_number d.bytes 4 a (register d.regs r) x here
          ∙ there x (omega arith) (omega arith)),
    )

-- the state with what registers hold in words from an address on
abbrev pub stored : ℕ → List ℕ → Data → Data
stored a rs s = record { regs = s.regs; bytes = with_numbers s.bytes 4 a (map (λ r. register s.regs r) rs) }

stores_made : (offset a : ℕ) (rs : List ℕ) (d : Data)
    → after_all (stores_code 2 offset rs) (words_at a rs) d ≡ stored a rs d
stores_made offset a [] d = refl
stores_made offset a (r ∷ rs) d = stores_made (offset + 4) (a + 4) rs (after (Store Sw r 2 offset) a d)

-- from an offset of x2 on
pub stores_from : (z : Setting) {P : Data → Type 0} (sp offset : ℕ) (rs : List ℕ) → are_registers rs ≡ true
    → (sp + offset) % 4 ≡ 0 → offset + 4 * length rs ≤ 2048 → sp + offset + 4 * length rs ≤ 2 ^ 32
    → MayStore z sp (sp + offset) (sp + offset + 4 * length rs)
    → ((s : Data) → P s → (s.regs 2 ≡ sp) × AreData (sp + offset) (sp + offset + 4 * length rs) s.bytes)
    → Runs z (length (stores_code 2 offset rs)) (stores_code 2 offset rs) P (λ s t. t ≡ stored (sp + offset) rs s)
stores_from z sp offset rs registers even near below may begins =
    straight_runs z sp (λ q. false) (stores_code 2 offset rs) (words_at (sp + offset) rs)
    (stores_plain offset rs registers near) refl
    (stores_fit z sp offset (sp + offset) rs even may) (λ s given. (begins s given).0)
    (λ s given.
    let begin = begins s given in
    stores_met offset (sp + offset) rs s near below (omega (arith, begin.0)) begin.1)
    (λ s given. stores_made offset (sp + offset) rs s)

pub stores_runs : (z : Setting) {P : Data → Type 0} (a : ℕ) (rs : List ℕ) → are_registers rs ≡ true → a % 4 ≡ 0
    → 4 * length rs ≤ 2048 → a + 4 * length rs ≤ 2 ^ 32 → MayStore z a a (a + 4 * length rs)
    → ((s : Data) → P s → (s.regs 2 ≡ a) × AreData a (a + 4 * length rs) s.bytes)
    → Runs z (length (stores_code 2 0 rs)) (stores_code 2 0 rs) P (λ s t. t ≡ stored a rs s)
stores_runs z a rs registers even near below may begins =
    straight_runs z a (λ q. false) (stores_code 2 0 rs) (words_at a rs) (stores_plain 0 rs registers (omega arith)) refl
    (stores_fit z a 0 a rs even may) (λ s given. (begins s given).0)
    (λ s given.
    let begin = begins s given in
    stores_met 0 a rs s (omega arith) below (omega (arith, begin.0)) begin.1)
    (λ s given. stores_made 0 a rs s)

-- From x5 on, which is none of them.

abbrev pub are_others : List ℕ → Bool
are_others [] = true
are_others (r ∷ rs) = cond (5 == r) false (are_others rs)

loads_fit : (z : Setting) (sp offset a : ℕ) (rs : List ℕ) → a % 4 ≡ 0 → MayLoad z sp a (a + 4 * length rs)
    → AreFit (z.allowed sp) (loads_code 5 offset rs) (words_at a rs)
loads_fit z sp offset a [] even may = tt
loads_fit z sp offset a (r ∷ rs) even may = (
  record { even = even; allowed = may a (omega arith) (omega arith) },
  loads_fit z sp (offset + 4) (a + 4) rs (omega arith)
      (λ x low high. may x (omega arith) (omega arith)),
)

other_first : (b c : Bool) → cond b false c ≡ true → (b ≡ false) × (c ≡ true)
other_first true c h = absurd (false≢true h)
other_first false c h = (refl, h)

loads_met : (offset a : ℕ) (rs : List ℕ) (d : Data) → are_others rs ≡ true → d.regs 5 + offset ≡ a
    → offset + 4 * length rs ≤ 2048 → a + 4 * length rs ≤ 2 ^ 32 → AreData a (a + 4 * length rs) d.bytes
    → AreMet (loads_code 5 offset rs) (words_at a rs) d
loads_met offset a [] d others root near below there = tt
loads_met offset a (r ∷ rs) d others root near below there =
    let each = other_first (5 == r) (are_others rs) others in
    let next = after (Load Lw r 5 offset) a d in
    let kept : next.regs 5 ≡ d.regs 5 = unwritten d.regs r _ 5 (eqb-false 5 r each.0) in (
      record {
        address = near_address (d.regs 5) offset (omega arith) (omega arith) ∙ root;
        data_there = number_there d.bytes 4 a (λ x low high. there x low (omega arith));
      },
      loads_met (offset + 4) (a + 4) rs next each.1 (omega arith) (omega arith)
          (omega arith) (λ x low high. there x (omega arith) (omega arith)),
    )

-- registers but x2 from words
pub loads_runs : (z : Setting) {P : Data → Type 0} (sp a : ℕ) (rs : List ℕ)
    → are_straight (λ q. not (q == 2)) (loads_code 5 0 rs) ≡ true → are_others rs ≡ true → a % 4 ≡ 0
    → 4 * length rs ≤ 2048 → a + 4 * length rs ≤ 2 ^ 32 → MayLoad z sp a (a + 4 * length rs)
    → ((s : Data) → P s → s.regs 2 ≡ sp)
    → ((s : Data) → P s → (s.regs 5 ≡ a) × AreData a (a + 4 * length rs) s.bytes)
    → Runs z (length (loads_code 5 0 rs)) (loads_code 5 0 rs) P
    (λ s t. t ≡ after_all (loads_code 5 0 rs) (words_at a rs) s)
loads_runs z sp a rs plain others even near below may stands begins =
    straight_runs z sp (λ q. not (q == 2)) (loads_code 5 0 rs) (words_at a rs) plain refl
    (loads_fit z sp 0 a rs even may) stands
    (λ s given.
    let begin = begins s given in
    loads_met 0 a rs s others (omega arith) (omega arith) below begin.1)
    (λ s given. refl)
