-- Of each piece of emitted code that only computes: that it does (`plain`), into registers that work, and what it
-- makes in its target, which is what its node means (`made`).
use Rattle.std.proofs.Common.{◌≡◌, ◌≢◌, ℕ, ◌+◌, ◌-◌, ◌*◌, ◌/◌, ◌%◌, ◌^◌, ◌<◌, ◌≤◌, ◌==◌, ◌||◌, nat_lt, Bool, true}
use Rattle.std.proofs.Common.{inl, inr, suc}
use Rattle.std.proofs.Common.{false, cond, List, [], ◌∷◌, ◌++◌, refl, sym, ap, ap₂, ◌∙◌, arith, subst, eq-eqb, ne_eqb}
use Rattle.std.proofs.lemmas.Bool.{cases_lt, cond_both, le-ltb}
use Rattle.std.proofs.lemmas.Int.{to_z_pos}
use Rattle.std.proofs.lemmas.Nat.{and_mask, mod_below, pow_pos}
use Rattle.expression_code.proofs.Below.{after_append, between, BinaryOperator, bits, choice_code}
use Rattle.expression_code.proofs.Below.{choice_or_zero_code, constant_code, convert_code, converted}
use Rattle.expression_code.proofs.Below.{cut_code, eqb-true, false≢true, fun_ext, immediate_value, Instr}
use Rattle.expression_code.proofs.Below.{lt-ltb, move_code, multiply_value, narrow_code, narrowed_in}
use Rattle.expression_code.proofs.Below.{nat_tests, of_truths, only_computes, operated, operator_code}
use Rattle.expression_code.proofs.Below.{plain_append, prefix_code, prefix_value, PrefixOperator, sign_code}
use Rattle.expression_code.proofs.Below.{register_left, register_value, registers_after, rotated_left}
use Rattle.expression_code.proofs.Below.{row_of, shift_value, sign_extended, RowStep, swapped, Width}
use Rattle.expression_code.proofs.Below.{with_register, word_of}
use Rattle.rv_code.specs.declared.instructions.Instr.TheVariants as instr
use Rattle.expression_code.specs.Below.{Addi, Andi, LogicalAnd, Divide, HighProduct, LogicalOr, Mul, Multiply}
use Rattle.expression_code.specs.Below.{Remainder}
use Rattle.expression_code.specs.Below.{ShiftLeft}
use Rattle.expression_code.specs.Below.{ShiftRight, Slli, Srai, Srli, Subtract, W16, W32, W8, Xori}
use Rattle.rv_code.specs.Signed.{signed, word_for}
use Rattle.std.specs.Int.{int_shr, w32}
use Rattle.std.specs.Prelude.{negsuc}
use Rattle.rv_code.specs.declared.operations.RegisterOperation.TheVariants as register
use Rattle.language.specs.declared.operators.BinaryOperator.TheVariants.{Add}
use Rattle.language.specs.declared.operators.PrefixOperator.TheVariants.{Not, Complement, Negate}
use Rattle.expression_code.proofs.Arithmetic.{all_changed, parts, chosen, chosen_or_zero}
use Rattle.expression_code.proofs.WorkRegisters.{IsFree, ArePair}

-- Numbers, into any register that works.

pub constant_plain : (works : ℕ → Bool) (r n : ℕ) → works r ≡ true → r < 32
    → only_computes works (constant_code r n) ≡ true
constant_plain works r n ok small = grind (arith, nat_tests, ok)

pub constant_after : (r n : ℕ) → r ≢ 0 → n < 2 ^ 32 → (regs : ℕ → ℕ)
    → registers_after (constant_code r n) regs ≡ with_register regs r n
constant_after r n nonzero fits regs = fun_ext (λ q. grind (arith, nat_tests, parts n fits))

-- Arithmetic of widths.

-- the value, cut to a width
abbrev pub cut_value : Width → ℕ → ℕ
cut_value W8 b = immediate_value Andi b (sign_extended 12 255)
cut_value W16 b = shift_value Srli (shift_value Slli b 16) 16
cut_value W32 b = b

cut_computes : (w : Width) (b : ℕ) → b < 2 ^ 32 → cut_value w b ≡ converted w b
cut_computes W8 b fits = and_mask b 8
cut_computes width b fits = omega arith

pub cut_whole : (w : Width) (n : ℕ) → cut_value w (n % 2 ^ 32) ≡ n % 2 ^ bits w
cut_whole W8 n = and_mask (n % 2 ^ 32) 8 ∙ omega arith
cut_whole width n = omega arith

pub cut_difference : (w : Width) (a b : ℕ) → b < 2 ^ 32
    → (a + (2 ^ 32 - b % 2 ^ 32)) % 2 ^ bits w ≡ (a + (2 ^ bits w - b % 2 ^ bits w)) % 2 ^ bits w
cut_difference W8 a b fits = omega arith
cut_difference width a b fits = omega arith

cut_complement : (w : Width) (b : ℕ) → b < 2 ^ 32 → (2 ^ 32 - 1 - b) % 2 ^ bits w ≡ 2 ^ bits w - 1 - b % 2 ^ bits w
cut_complement W8 b fits = omega arith
cut_complement width b fits = omega arith

one_less : (b : ℕ) → b < 2 ^ 32 → immediate_value Addi (register_value register.Sub 0 b) (sign_extended 12 4095)
    ≡ (2 ^ 32 - 1 - b) % 2 ^ 32
one_less b fits = omega arith

-- 0 less the top bit of a word, that bit in the place of each
top_bit : (w : Width) (v : ℕ) → v < 2 ^ 32 → operated ShiftRight w v 31 ≡ v / 2 ^ 31
top_bit W8 v fits = omega arith
top_bit width v fits = omega arith

signed_high : (v : ℕ) → 2 ^ 31 ≤ v → signed v ≡ negsuc (2 ^ 32 - suc v)
signed_high v high = rw (le-ltb v (2 ^ 31) high) refl

signed_less : (w : Width) (v : ℕ) → v < 2 ^ 32
    → shift_value Srai v 31 ≡ prefix_value Negate W32 (operated ShiftRight w v 31)
signed_less w v fits = elim (cases_lt v (2 ^ 31)) [
  | inl low ↦ ap (λ z. word_for (int_shr z 31)) (to_z_pos w32 v low) ∙ omega (arith, low, top_bit w v fits)
  | inr high ↦ ap (λ z. word_for (int_shr z 31)) (signed_high v high) ∙ omega (arith, high, fits, top_bit w v fits)
]

ones_changed : (b : ℕ) → b < 2 ^ 32 → immediate_value Xori b (sign_extended 12 4095) ≡ (2 ^ 32 - 1 - b) % 2 ^ 32
ones_changed b fits =
    let below : 2 ^ 32 - 1 - b ≡ (2 ^ 32 - 1 - b) % 2 ^ 32 = omega arith in
    all_changed b fits ∙ below

narrow : (w : Width) → (0 < bits w) × (bits w ≤ 32)
narrow W8 = (omega arith, omega arith)
narrow width = (omega arith, omega arith)

unmoved : (w : Width) (n : ℕ) → n < 2 ^ bits w → n ≡ (n * 2 ^ 0 + n / 2 ^ (bits w - 0)) % 2 ^ bits w
unmoved W8 n fits = omega arith
unmoved width n fits = omega arith

around : (w : Width) (n j : ℕ) → 0 < j → j < bits w
    → cut_value w (register_value register.Add (shift_value Slli n j) (shift_value Srli n (bits w - j)))
    ≡ (n * 2 ^ j + n / 2 ^ (bits w - j)) % 2 ^ bits w
around w n j some within =
    let up : j % 32 ≡ j = omega (arith, (narrow w).1) in
    let down : (bits w - j) % 32 ≡ bits w - j = omega (arith, (narrow w).1) in
    let joined : (n * 2 ^ j % 2 ^ 32 + n / 2 ^ (bits w - j) % 2 ^ 32) % 2 ^ 32
    ≡ (n * 2 ^ j + n / 2 ^ (bits w - j)) % 2 ^ 32 = omega arith in
    ap (cut_value w) (ap₂ (λ x y. (n * 2 ^ x % 2 ^ 32 + n / 2 ^ y % 2 ^ 32) % 2 ^ 32) up down ∙ joined)
    ∙ cut_whole w (n * 2 ^ j + n / 2 ^ (bits w - j))

word_fits : (w : Width) (n : ℕ) → n < 2 ^ bits w → n < 2 ^ 32
word_fits W32 n fits = fits
word_fits width n fits = omega arith

-- a truth is a word of 32 bits
pub truth_fits : (c : Bool) → word_of c < 2 ^ 32
truth_fits c = grind (arith, nat_tests)

-- Code.

-- a step that only computes
abbrev pub is_plain : RowStep → Bool
is_plain (between operation) = true
is_plain (swapped operation) = true
is_plain (of_truths operation) = true
is_plain _ = false

-- one of two registers
abbrev pub either_of : ℕ → ℕ → ℕ → Bool
either_of l r q = (q == l) || (q == r)

-- code only computes, and makes something in d of what is in r and below a bound
pub record Applies (works : ℕ → Bool) (r bound d : ℕ) (is : List Instr) (f : ℕ → ℕ) : Type 0 where
  pub plain : only_computes works is ≡ true
  pub made : (regs : ℕ → ℕ) → regs r < bound → registers_after is regs d ≡ f (regs r)

applies_then : {works : ℕ → Bool} {r bound m other d : ℕ} {is js : List Instr} {f g : ℕ → ℕ}
    → Applies works r bound m is f → Applies works m other d js g → ((v : ℕ) → v < bound → f v < other)
    → Applies works r bound d (is ++ js) (λ v. g (f v))
applies_then {works = works} {r = r} {other = other} {d = d} {is = is} {js = js} {g = g} one two below = record {
  plain = plain_append works is js one.plain two.plain;
  made = λ regs fits.
      let first = one.made regs fits in
      ap (λ (after : ℕ → ℕ). after d) (after_append is js regs)
      ∙ (two.made (registers_after is regs) (subst (λ v. v < other) (sym first) (below (regs r) fits)) ∙ ap g first);
}

-- Into the register d, where t may be written as well.
module _ {d t : ℕ} (pair : ArePair d t) where
  -- the tests that are met
  pub dd : (d == d) ≡ true
  dd = eq-eqb d d refl

  tt' : (t == t) ≡ true
  tt' = eq-eqb t t refl

  pub td : (t == d) ≡ false
  td = ne_eqb t d (λ e. pair.apart (sym e))

  pub d0 : (d == 0) ≡ false
  d0 = ne_eqb d 0 pair.one.nonzero

  t0 : (t == 0) ≡ false
  t0 = ne_eqb t 0 pair.other.nonzero

  pub d32 : nat_lt d 32 ≡ true
  d32 = lt-ltb d 32 pair.one.small

  t32 : nat_lt t 32 ≡ true
  t32 = lt-ltb t 32 pair.other.small

  -- where these two alone work, any other register is as it was
  pub low_beside : (q : ℕ) → q < 5 → either_of d t q ≡ false
  low_beside q below = grind (arith, nat_tests, pair.one.low, pair.other.low, below)

  pub kept_beside : (is : List Instr) → only_computes (either_of d t) is ≡ true → (regs : ℕ → ℕ) (q : ℕ) → q ≢ d
      → q ≢ t → registers_after is regs q ≡ regs q
  kept_beside is plain regs q first second =
      register_left (either_of d t) is regs q plain (simp (ne_eqb q d first, ne_eqb q t second))

  -- A cut in its place.

  pub cut_composed : (w : Width) (regs : ℕ → ℕ) → registers_after (cut_code d w) regs d ≡ cut_value w (regs d)
  cut_composed W32 regs = refl
  cut_composed width regs = simp (dd, d0)

  -- a product of 32 bits that is cut
  pub product_made : (w : Width) (regs : ℕ → ℕ) (a b : ℕ) → regs d ≡ multiply_value Mul a b
      → registers_after (cut_code d w) regs d ≡ operated Multiply w a b
  product_made w regs a b is = cut_composed w regs ∙ (ap (cut_value w) is ∙ cut_whole w (a * b))

  -- From a register q.
  module _ {q : ℕ} (source : IsFree q) where
    pub q0 : (q == 0) ≡ false
    q0 = ne_eqb q 0 source.nonzero

    pub q32 : nat_lt q 32 ≡ true
    q32 = lt-ltb q 32 source.small

    narrowed_free : (w : Width) → IsFree (narrowed_in d q w)
    narrowed_free W32 = source
    narrowed_free width = pair.one

  narrowed_apart : {r : ℕ} → r ≢ t → (w : Width) → narrowed_in d r w ≢ t
  narrowed_apart apart W32 = apart
  narrowed_apart apart width = pair.apart

  -- a rotation of what is in q, with what is moved up in t

  abbrev moved_around : ℕ → Width → ℕ → List Instr
  moved_around q w amount = instr.Shift Slli t q amount ∷ instr.Shift Srli d q (bits w - amount)
      ∷ instr.Register register.Add d t d ∷ cut_code d w

  abbrev around_by : ℕ → Width → ℕ → List Instr
  around_by q w amount = cond (amount == 0) (move_code d q) (moved_around q w amount)

  -- Of code that writes registers that work.
  module _ (works : ℕ → Bool) (wd : works d ≡ true) (wt : works t ≡ true) where
    pub cut_plain : (w : Width) → only_computes works (cut_code d w) ≡ true
    cut_plain W32 = refl
    cut_plain width = simp (d32, wd)

    module _ {q : ℕ} (source : IsFree q) where
      pub move_applies : Applies works q (2 ^ 32) d (move_code d q) (λ v. v)
      move_applies =
          cond_both (d == q) [] (instr.Immediate Addi d q 0 ∷ [])
          (λ (is : List Instr). Applies works q (2 ^ 32) d is (λ v. v))
          (λ e. record { plain = refl; made = λ regs fits. ap regs (eqb-true d q e) })
          (λ e. record {
            plain = simp (d32, q32 source, wd);
            made = λ regs fits. simp (dd, d0, q0 source) (omega arith);
          })

      narrow_applies : (w : Width) → Applies works q (2 ^ 32) (narrowed_in d q w) (narrow_code d q w) (converted w)
      narrow_applies W32 = record { plain = refl; made = λ regs fits. cut_computes W32 (regs q) fits }
      narrow_applies width = record {
        plain = simp (d32, q32 source, wd);
        made = λ regs fits. simp (dd, d0, q0 source) (cut_computes width (regs q) fits);
      }

      pub prefix_applies : (immediates : Bool) (operator : PrefixOperator) (w : Width)
          → Applies works q (2 ^ 32) d (prefix_code immediates d q operator w) (prefix_value operator w)
      prefix_applies immediates Not w = record {
        plain = simp (d32, q32 source, wd);
        made = λ regs fits. simp (dd, d0, q0 source) (grind (arith, nat_tests));
      }
      prefix_applies true Complement w = record {
        plain = simp (d32, q32 source, wd, cut_plain w);
        made = λ regs fits. cut_composed w _ ∙ simp (dd, d0, q0 source) (ap (cut_value w) (ones_changed (regs q) fits)
            ∙ cut_whole w (2 ^ 32 - 1 - regs q) ∙ cut_complement w (regs q) fits);
      }
      prefix_applies false Complement w = record {
        plain = simp (d32, q32 source, wd, cut_plain w);
        made = λ regs fits. cut_composed w _ ∙ simp (dd, d0, q0 source) (ap (cut_value w) (one_less (regs q) fits)
            ∙ cut_whole w (2 ^ 32 - 1 - regs q) ∙ cut_complement w (regs q) fits);
      }
      prefix_applies immediates Negate w = record {
        plain = simp (d32, q32 source, wd, cut_plain w);
        made = λ regs fits.
            let v = regs q in
            let less : 0 + (2 ^ bits w - v % 2 ^ bits w) ≡ 2 ^ bits w - v % 2 ^ bits w = omega arith in
            cut_composed w _ ∙ simp (dd, d0, q0 source) (cut_whole w (0 + (2 ^ 32 - v % 2 ^ 32))
            ∙ (cut_difference w 0 v fits ∙ ap (λ x. x % 2 ^ bits w) less));
      }

      pub sign_applies : (w : Width)
          → Applies works q (2 ^ 32) d (sign_code d q) (λ v. prefix_value Negate W32 (operated ShiftRight w v 31))
      sign_applies w = record {
        plain = simp (d32, q32 source, wd);
        made = λ regs fits. simp (dd, d0, q0 source) (signed_less w (regs q) fits);
      }

      around_applies : q ≢ t → (w : Width) (amount : ℕ) → amount < bits w
          → Applies works q (2 ^ bits w) d (around_by q w amount)
          (λ v. (v * 2 ^ amount + v / 2 ^ (bits w - amount)) % 2 ^ bits w)
      around_applies apart w amount within =
          cond_both (amount == 0) (move_code d q) (moved_around q w amount)
          (λ (is : List Instr). Applies works q (2 ^ bits w) d is
          (λ v. (v * 2 ^ amount + v / 2 ^ (bits w - amount)) % 2 ^ bits w))
          (λ h. record {
            plain = move_applies.plain;
            made = λ regs fits.
                move_applies.made regs (word_fits w (regs q) fits)
                ∙ (unmoved w (regs q) fits
                ∙ ap (λ n. (regs q * 2 ^ n + regs q / 2 ^ (bits w - n)) % 2 ^ bits w) (sym (eqb-true amount 0 h)));
          })
          (λ h.
          let some : 0 < amount = grind (arith, nat_tests, h) in
          let up = lt-ltb amount 32 (omega (arith, (narrow w).1)) in
          let down = lt-ltb (bits w - amount) 32 (omega (arith, (narrow w).1)) in
          record {
            plain = simp (wd, wt, d32, t32, q32 source, up, down, cut_plain w);
            made = λ regs fits. cut_composed w _ ∙ simp (dd, tt', td, d0, t0, q0 source, ne_eqb q t apart)
                (around w (regs q) amount some within);
          })

    module _ {r : ℕ} (source : IsFree r) where
      pub convert_applies : (w : Width) → Applies works r (2 ^ 32) d (convert_code d r w) (converted w)
      convert_applies w =
          applies_then (narrow_applies source w) (move_applies (narrowed_free source w))
          (λ v fits. word_fits w (converted w v) (mod_below v (2 ^ bits w) (pow_pos (bits w))))

      pub rotate_applies : r ≢ t → (w : Width) (amount : ℕ)
          → Applies works r (2 ^ 32) d (narrow_code d r w ++ around_by (narrowed_in d r w) w (amount % bits w))
          (λ v. rotated_left w v amount)
      rotate_applies apart w amount =
          applies_then (narrow_applies source w)
          (around_applies (narrowed_free source w) (narrowed_apart apart w) w (amount % bits w)
          (mod_below amount (bits w) (narrow w).0))
          (λ v fits. mod_below v (2 ^ bits w) (pow_pos (bits w)))

      -- Operators.
      pub operator_plain : {l : ℕ} → IsFree l → (operator : BinaryOperator) (w : Width)
          → is_plain (row_of operator).step ≡ true → only_computes works (operator_code d t l r operator w) ≡ true
      operator_plain first Multiply w plain = absurd (false≢true plain)
      operator_plain first HighProduct w plain = absurd (false≢true plain)
      operator_plain first Divide w plain = absurd (false≢true plain)
      operator_plain first Remainder w plain = absurd (false≢true plain)
      operator_plain first operator w plain = simp (wd, wt, d32, t32, q32 first, q32 source, cut_plain w)

      -- a choice, with the mask in m
      pub choice_made : (is_opposite : Bool) {m c l : ℕ} → IsFree m → works m ≡ true → IsFree c → IsFree l → m ≢ t
          → l ≢ m → r ≢ m → r ≢ t
          → (only_computes works (choice_code is_opposite d m t c l r) ≡ true)
          × ((regs : ℕ → ℕ) → registers_after (choice_code is_opposite d m t c l r) regs d
          ≡ chosen is_opposite (regs c) (regs l) (regs r))
      choice_made true {m = m} {l = l} mask wm condition first mt lm rm rt = (
        simp (wd, wt, wm, d32, t32, q32 mask, q32 condition, q32 first, q32 source),
        λ regs. simp (
          dd,
          tt',
          eq-eqb m m refl,
          ne_eqb m t mt,
          ne_eqb l m lm,
          ne_eqb r m rm,
          ne_eqb r t rt,
          d0,
          t0,
          q0 mask,
          q0 condition,
          q0 first,
          q0 source,
        ),
      )
      choice_made false {m = m} {l = l} mask wm condition first mt lm rm rt = (
        simp (wd, wt, wm, d32, t32, q32 mask, q32 condition, q32 first, q32 source),
        λ regs. simp (
          dd,
          tt',
          eq-eqb m m refl,
          ne_eqb m t mt,
          ne_eqb l m lm,
          ne_eqb r m rm,
          ne_eqb r t rt,
          d0,
          t0,
          q0 mask,
          q0 condition,
          q0 first,
          q0 source,
        ),
      )

      -- and one between a value and 0
      pub choice_or_zero_made : (is_opposite : Bool) {m c : ℕ} → IsFree m → works m ≡ true → IsFree c → r ≢ m
          → (only_computes works (choice_or_zero_code is_opposite d m c r) ≡ true)
          × ((regs : ℕ → ℕ) → registers_after (choice_or_zero_code is_opposite d m c r) regs d
          ≡ chosen_or_zero is_opposite (regs c) (regs r))
      choice_or_zero_made true {m = m} mask wm condition rm = (
        simp (wd, wm, d32, q32 mask, q32 condition, q32 source),
        λ regs. simp (dd, eq-eqb m m refl, ne_eqb r m rm, d0, q0 mask, q0 condition, q0 source),
      )
      choice_or_zero_made false {m = m} mask wm condition rm = (
        simp (wd, wm, d32, q32 mask, q32 condition, q32 source),
        λ regs. simp (dd, eq-eqb m m refl, ne_eqb r m rm, d0, q0 mask, q0 condition, q0 source),
      )

  module _ {r : ℕ} (source : IsFree r) where
    module _ {l : ℕ} (first : IsFree l) where
      pub operator_made : l ≢ t → (operator : BinaryOperator) (w : Width) → is_plain (row_of operator).step ≡ true
          → (regs : ℕ → ℕ) → regs l < 2 ^ 32 → regs r < 2 ^ 32
          → registers_after (operator_code d t l r operator w) regs d ≡ operated operator w (regs l) (regs r)
      operator_made apart LogicalOr w plain regs left right =
          simp (dd, tt', td, d0, t0, q0 first, q0 source, ne_eqb l t apart) (grind (arith, nat_tests))
      operator_made apart LogicalAnd w plain regs left right =
          simp (dd, tt', td, d0, t0, q0 first, q0 source, ne_eqb l t apart) (grind (arith, nat_tests))
      operator_made apart ShiftLeft w plain regs left right = cut_composed w _
          ∙ simp (dd, d0, q0 first, q0 source) (cut_whole w (regs l * 2 ^ (regs r % 32)))
      operator_made apart ShiftRight w plain regs left right = cut_composed w _
          ∙ simp (dd, d0, q0 first, q0 source) (cut_whole w (regs l / 2 ^ (regs r % 32)))
      operator_made apart Add w plain regs left right = cut_composed w _
          ∙ simp (dd, d0, q0 first, q0 source) (cut_whole w (regs l + regs r))
      operator_made apart Subtract w plain regs left right =
          cut_composed w _ ∙ simp (dd, d0, q0 first, q0 source) (cut_whole w (regs l + (2 ^ 32 - regs r % 2 ^ 32))
          ∙ cut_difference w (regs l) (regs r) right)
      operator_made apart Multiply w plain regs left right = absurd (false≢true plain)
      operator_made apart HighProduct w plain regs left right = absurd (false≢true plain)
      operator_made apart Divide w plain regs left right = absurd (false≢true plain)
      operator_made apart Remainder w plain regs left right = absurd (false≢true plain)
      operator_made apart operator w plain regs left right =
          simp (dd, d0, q0 first, q0 source) (grind (arith, nat_tests))
