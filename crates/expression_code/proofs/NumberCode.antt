-- Of the code of an operator with a number in its instruction: that it only computes, and what it makes in its
-- target, which is what the operator means.
use Rattle.std.proofs.Common.{◌≡◌, ℕ, ◌+◌, ◌-◌, ◌*◌, ◌/◌, ◌%◌, ◌^◌, ◌<◌, ◌==◌, Bool, true, cond, nat_lt, List, []}
use Rattle.std.proofs.Common.{Option, None, Some, bit_and, refl, sym, ap, ◌∙◌, ap₂, arith, subst}
use Rattle.std.proofs.Math.Nat.{mod-le, mul-div_cancel, mul-mod_left}
use Rattle.std.proofs.lemmas.Nat.{and_comm, or_comm, xor_comm, mod_below, mod-pow-add, leading_top, pow_pos}
use Rattle.std.specs.Int.Count.{count_leading_zeros}
use Rattle.std.proofs.lemmas.Bool.{cond_both}
use Rattle.std.proofs.lemmas.Option.{cond_some, none-some, same_Some}
use Rattle.expression_code.proofs.Arithmetic.{lower_fits}
use Rattle.expression_code.proofs.Below.{Allocation, BinaryOperator, bits, element_bytes, eqb-true}
use Rattle.expression_code.proofs.Below.{Finish, finish_code, FlatVariable, held, TermHasType, is_short}
use Rattle.expression_code.proofs.Below.{kind_at, known_row, left_row, lt-ltb, ltb-true, marks_of}
use Rattle.expression_code.proofs.Below.{nat_tests, near_element, near_offset, number_code, number_of}
use Rattle.expression_code.proofs.Below.{number_row, NumberRow, of_number, of_truth, and_mask}
use Rattle.expression_code.proofs.Below.{both_right, only_computes, operated, path_in, Place}
use Rattle.expression_code.proofs.Below.{registers_after, chooses_zero, false≢true, is_known}
use Rattle.expression_code.proofs.Below.{right_row, shift_value, sign_extended, TermTree, swapped_of}
use Rattle.expression_code.proofs.Below.{Types, value_in, Values, variable_offset, Width, word_of}
use Rattle.expression_code.proofs.Below.{added, immediate_value, near_sum, sum_offset}
use Rattle.expression_code.proofs.OperatorCode.{cut_composed, cut_plain, cut_value, cut_whole, d0, d32}
use Rattle.expression_code.proofs.OperatorCode.{dd, Applies, q0, q32, truth_fits}
use Rattle.expression_code.proofs.Values.{kind_fits}
use Rattle.expression_code.proofs.WorkRegisters.{ArePair, IsFree, when_some}
use Rattle.expression_code.specs.declared.numbers.Finish.TheVariants.{Alone, GivesZero, GivesMore, Narrowed}
use Rattle.expression_code.specs.declared.numbers.NumberStep.TheVariants.{WithImmediate}
use Rattle.expression_code.specs.NumberRows.{above_zero, low_bits, masked, shifted}
use Rattle.expression_code.specs.Below.{Addi, Andi, BitAnd, BitOr, BitXor, Equal, Greater, GreaterOrEqual}
use Rattle.expression_code.specs.Below.{ImmediateOperation}
use Rattle.expression_code.specs.Below.{HighProduct, Less, LessOrEqual, Multiply, negated, number, Ori, ShiftLeft}
use Rattle.expression_code.specs.Below.{ShiftOperation}
use Rattle.expression_code.specs.Below.{ShiftRight, Slli, Sltiu, Srli, Subtract, truth, Unequal, W32, W8, Xori}
use Rattle.expression_code.specs.Below.{operation_of}
use Rattle.language.specs.declared.operation.Operation.TheVariants.{Arithmetic}
use Rattle.language.specs.declared.operators.BinaryOperator.TheVariants.{Add}

-- Numbers.

-- twelve bits give the number back that they hold
short_held : (n : ℕ) → is_short n ≡ true → sign_extended 12 (n % 4096) ≡ n
short_held n short = grind (arith, nat_tests, short)

-- what is so of the row of an instruction that holds a number is so of the row that there is
of_held : (P : NumberRow → Type 0) (operation : ImmediateOperation) (finish : Finish) (n : ℕ) (row : NumberRow)
    → held operation finish n ≡ Some row
    → (is_short n ≡ true → P (record { finish = finish; step = WithImmediate operation (n % 4096) })) → P row
of_held P operation finish n row is there = let both = cond_some (is_short n) _ row is in
    subst P both.1 (there both.0)

of_row : (P : NumberRow → Type 0) (one row : NumberRow) → Some one ≡ Some row → P one → P row
of_row P one row is there = subst P (same_Some one row is) there

-- by whether the number is 0
of_zero : (P : NumberRow → Type 0) (n : ℕ) (one other : Option NumberRow) (row : NumberRow)
    → cond (n == 0) one other ≡ Some row
    → ((n == 0) ≡ true → one ≡ Some row → P row) → (other ≡ Some row → P row) → P row
of_zero P n one other row is zero more =
    cond_both (n == 0) one other (λ (o : Option NumberRow). o ≡ Some row → P row) zero (λ e. more) is

-- the low five bits of an amount, twice
low_again : (n : ℕ) → n % 32 % 32 ≡ n % 32
low_again n = omega arith

less_by : (w : Width) (a n : ℕ) → n < 2 ^ 32
    → (a + negated W32 n) % 2 ^ bits w ≡ (a + (2 ^ bits w - n % 2 ^ bits w)) % 2 ^ bits w
less_by W8 a n fits = omega arith
less_by width a n fits = omega arith

-- a word that is moved up and back keeps its low bits
moved_back : (v k others : ℕ) → k + others ≡ 32 → v * 2 ^ others % 2 ^ 32 / 2 ^ others ≡ v % 2 ^ k
moved_back v k others is =
    let up = v * 2 ^ others in
    let alone : v % 2 ^ k * 2 ^ others + 0 ≡ v % 2 ^ k * 2 ^ others = omega arith in
    let low : up % 2 ^ 32 ≡ v % 2 ^ k * 2 ^ others =
    ap (λ n. up % 2 ^ n) (sym is)
    ∙ (mod-pow-add up k others
    ∙ (ap₂ (λ x y. x % 2 ^ k * 2 ^ others + y) (mul-div_cancel v (pow_pos others)) (mul-mod_left v (2 ^ others))
    ∙ alone)) in
    ap (λ n. n / 2 ^ others) low ∙ mul-div_cancel (v % 2 ^ k) (pow_pos others)

-- which are those of a number that is all ones
low_kept : (v n k others : ℕ) → v < 2 ^ 32 → k + others ≡ 32 → others < 32 → n + 1 ≡ 2 ^ k
    → shift_value Srli (shift_value Slli v (others % 32)) (others % 32) ≡ bit_and v n
low_kept v n k others fits is less ones =
    let amount : others % 32 % 32 ≡ others = omega arith in
    let number : n ≡ 2 ^ k - 1 = omega arith in
    let small : v % 2 ^ k % 2 ^ 32 ≡ v % 2 ^ k = omega (arith, fits, mod-le v (2 ^ k)) in
    ap (λ x. v * 2 ^ x % 2 ^ 32 / 2 ^ x % 2 ^ 32) amount
    ∙ (ap (λ x. x % 2 ^ 32) (moved_back v k others is) ∙ (small ∙ sym (ap (bit_and v) number ∙ and_mask v k)))

-- Expressions that are known.

pub known : (e : TermTree) (n : ℕ) → number_of e ≡ Some n → (m : Values) → (value_in m e ≡ n) × (path_in m e ≡ [])
known (number value kind) n is m = (same_Some value n is, refl)
known (truth value) n is m = (same_Some (word_of value) n is, refl)
known e n is m = absurd (none-some n is)

pub known_word : {types : Types} {e : TermTree} {word : _} → TermHasType types e word → (n : ℕ) → number_of e ≡ Some n
    → n < 2 ^ 32
known_word (of_number {value = value} {kind = kind} below) n is = let fits = kind_fits kind value below in
    omega (arith, fits, same_Some value n is)
known_word (of_truth {value = value}) n is = let fits = truth_fits value in
    omega (arith, fits, same_Some (word_of value) n is)
known_word has n is = absurd (none-some n is)

-- the number that an expression is, and the row of an operator and it
pub record HasNumberRow (operator : BinaryOperator) (e : TermTree) (row : NumberRow) : Type 0 where
  pub n : ℕ
  pub is : number_of e ≡ Some n
  pub row_is : number_row operator n ≡ Some row

-- the same of the operator that makes the same of both operands swapped
pub record Swapped (operator : BinaryOperator) (e : TermTree) (row : NumberRow) : Type 0 where
  pub other : BinaryOperator
  pub is : swapped_of operator ≡ Some other
  pub numbered : HasNumberRow other e row

numbered_by : (operator : BinaryOperator) (e : TermTree) (row : NumberRow) (m : Option ℕ) → number_of e ≡ m
    → known_row (Some operator) m ≡ Some row → HasNumberRow operator e row
numbered_by operator e row None f is = absurd (none-some row is)
numbered_by operator e row (Some n) f is = record { n = n; is = f; row_is = is }

pub right_known : (a : Allocation) (operator : BinaryOperator) (e : TermTree) (row : NumberRow)
    → right_row a operator e ≡ Some row → HasNumberRow operator e row
right_known a operator e row is =
    numbered_by operator e row (number_of e) refl (when_some a.immediates _ row is).1

pub left_known : (a : Allocation) (operator : BinaryOperator) (e : TermTree) (row : NumberRow)
    → left_row a operator e ≡ Some row → Swapped operator e row
left_known a operator e row is = by_swapped (swapped_of operator) refl (when_some a.immediates _ row is).1
  where
    by_swapped : (p : Option BinaryOperator) → swapped_of operator ≡ p → known_row p (number_of e) ≡ Some row
        → Swapped operator e row
    by_swapped (Some other) f same =
        record { other = other; is = f; numbered = numbered_by other e row (number_of e) refl same }
    by_swapped None f same = absurd (none-some row same)

-- what an expression is that is known to be a number
pub number_known : (n : ℕ) (e : TermTree) → is_known n (number_of e) ≡ true → number_of e ≡ Some n
number_known n e is = by_number (number_of e) is
  where
    by_number : (o : Option ℕ) → is_known n o ≡ true → o ≡ Some n
    by_number (Some m) same = ap Some (eqb-true m n same)
    by_number None same = absurd (false≢true same)

-- what the third operand is of a choice between a value and 0
pub zero_known : (a : Allocation) (e : TermTree) → chooses_zero a e ≡ true → number_of e ≡ Some 0
zero_known a e is = number_known 0 e (both_right a.immediates _ is)

-- the index that an expression is, whose element lies at an offset that its access holds
pub record NearElement (declared : List FlatVariable) (x : ℕ) (index : TermTree) (o : ℕ) : Type 0 where
  pub i : ℕ
  pub is : number_of index ≡ Some i
  pub at : variable_offset declared x + element_bytes (kind_at declared x) * i ≡ o
  pub near : o < 2048

pub near_known : (declared : List FlatVariable) (a : Allocation) (x : ℕ) (index : TermTree) (o : ℕ)
    → near_element declared a x index ≡ Some o → NearElement declared x index o
near_known declared a x index o is = by_number (number_of index) refl (when_some a.immediates _ o is).1
  where
    by_number : (m : Option ℕ) → number_of index ≡ m
        → near_offset (variable_offset declared x) (kind_at declared x) m ≡ Some o → NearElement declared x index o
    by_number (Some i) f same =
        let both = cond_some _ _ o same in
        record { i = i; is = f; at = both.1; near = subst (λ n. n < 2048) both.1 (ltb-true _ 2048 both.0) }
    by_number None f same = absurd (none-some o same)

-- an operator that adds a number to its left operand, modulo 2^32, as its right operand says
pub record Adds (operator : BinaryOperator) (right : TermTree) (m : ℕ) : Type 0 where
  pub n : ℕ
  pub is : number_of right ≡ Some n
  pub same : (v : ℕ) → operated operator W32 v n ≡ (v + m) % 2 ^ 32
  pub quiet : (source : Place) (v : ℕ) → marks_of source operator v n ≡ []
  pub makes : operation_of operator ≡ Arithmetic

adds_by : (operator : BinaryOperator) (right : TermTree) (p : Option ℕ) (m : ℕ) → number_of right ≡ p
    → added operator p ≡ Some m → Adds operator right m
adds_by Add right (Some n) m f is = record {
  n = n;
  is = f;
  same = λ v. ap (λ k. (v + k) % 2 ^ 32) (same_Some n m is);
  quiet = λ source v. refl;
  makes = refl;
}
adds_by Subtract right (Some n) m f is = record {
  n = n;
  is = f;
  same = λ v. let less : operated Subtract W32 v n ≡ (v + negated W32 n) % 2 ^ 32 = omega arith in
      less ∙ ap (λ k. (v + k) % 2 ^ 32) (same_Some (negated W32 n) m is);
  quiet = λ source v. refl;
  makes = refl;
}
adds_by operator right p m f is = absurd (none-some m is)

-- and the offset that an access with that number on top holds
pub record NearSum (declared : List FlatVariable) (x : ℕ) (operator : BinaryOperator) (right : TermTree) (o : ℕ)
    : Type 0 where
  pub m : ℕ
  pub adds : Adds operator right m
  pub at : (variable_offset declared x + element_bytes (kind_at declared x) * m) % 2 ^ 32 ≡ o

pub sum_known : (declared : List FlatVariable) (a : Allocation) (x : ℕ) (operator : BinaryOperator)
    (right : TermTree) (o : ℕ) → sum_offset declared a x operator right ≡ Some o
    → NearSum declared x operator right o
sum_known declared a x operator right o is =
    by_number (added operator (number_of right)) refl (when_some a.immediates _ o is).1
  where
    by_number : (p : Option ℕ) → added operator (number_of right) ≡ p
        → near_sum (variable_offset declared x) (kind_at declared x) p ≡ Some o → NearSum declared x operator right o
    by_number (Some m) f same =
        record { m = m; adds = adds_by operator right (number_of right) m refl f; at = (cond_some _ _ o same).1 }
    by_number None f same = absurd (none-some o same)

-- Operators whose operands are swapped.

sum_swapped : (w : Width) (a b : ℕ) → (b + a) % 2 ^ bits w ≡ (a + b) % 2 ^ bits w
sum_swapped w a b = let e : b + a ≡ a + b = omega arith in ap (λ n. n % 2 ^ bits w) e

module _ (w : Width) (a b : ℕ) where
  swapped_by : (one other p : BinaryOperator) → Some other ≡ Some p → operated other w b a ≡ operated one w a b
      → operated p w b a ≡ operated one w a b
  swapped_by one other p is same = subst (λ q. operated q w b a ≡ operated one w a b) (same_Some other p is) same

  pub swapped_same : (operator p : BinaryOperator) → swapped_of operator ≡ Some p
      → operated p w b a ≡ operated operator w a b
  swapped_same Equal p is = swapped_by Equal Equal p is (grind (arith, nat_tests))
  swapped_same Unequal p is = swapped_by Unequal Unequal p is (grind (arith, nat_tests))
  swapped_same Less p is = swapped_by Less Greater p is refl
  swapped_same LessOrEqual p is = swapped_by LessOrEqual GreaterOrEqual p is refl
  swapped_same Greater p is = swapped_by Greater Less p is refl
  swapped_same GreaterOrEqual p is = swapped_by GreaterOrEqual LessOrEqual p is refl
  swapped_same BitOr p is = swapped_by BitOr BitOr p is (or_comm b a)
  swapped_same BitXor p is = swapped_by BitXor BitXor p is (xor_comm b a)
  swapped_same BitAnd p is = swapped_by BitAnd BitAnd p is (and_comm b a)
  swapped_same Add p is = swapped_by Add Add p is (sum_swapped w a b)
  swapped_same operator p is = absurd (none-some p is)

-- operators that have rows with numbers put nothing on the path
module _ (place : Place) (a b : ℕ) where
  pub row_quiet : (operator : BinaryOperator) (n : ℕ) (row : NumberRow) → number_row operator n ≡ Some row
      → marks_of place operator a b ≡ []
  row_quiet Multiply n row is = absurd (none-some row is)
  row_quiet HighProduct n row is = absurd (none-some row is)
  row_quiet operator n row is = cc

  pub swapped_quiet : (operator p : BinaryOperator) → swapped_of operator ≡ Some p
      → marks_of place operator a b ≡ []
  swapped_quiet Multiply p is = absurd (none-some p is)
  swapped_quiet HighProduct p is = absurd (none-some p is)
  swapped_quiet operator p is = cc

-- what is made of an outcome
abbrev finished : Finish → Width → ℕ → ℕ
finished Alone w v = v
finished GivesZero w v = word_of (nat_lt v 1)
finished GivesMore w v = word_of (nat_lt 0 v)
finished Narrowed w v = cut_value w v

-- Code, of the register r, into d.

module _ {d t : ℕ} (pair : ArePair d t) (works : ℕ → Bool) (wd : works d ≡ true) (wt : works t ≡ true) {r : ℕ}
    (source : IsFree r) where
  finish_plain : (w : Width) (finish : Finish) → only_computes works (finish_code d w finish) ≡ true
  finish_plain w Narrowed = cut_plain pair works wd wt w
  finish_plain w Alone = refl
  finish_plain w finish = simp (d32 pair, wd)

  finish_made : (w : Width) (finish : Finish) (regs : ℕ → ℕ)
      → registers_after (finish_code d w finish) regs d ≡ finished finish w (regs d)
  finish_made w Alone regs = refl
  finish_made w Narrowed regs = cut_composed pair w regs
  finish_made w finish regs = simp (dd pair, d0 pair)

  -- it makes what the operator means
  abbrev pub Means : BinaryOperator → ℕ → NumberRow → Type 0
  Means operator n row = (w : Width) → Applies works r (2 ^ 32) d (number_code d r w row) (λ v. operated operator w v n)

  immediate : (operator : BinaryOperator) (n : ℕ) (operation : ImmediateOperation) (finish : Finish) (m : ℕ)
      (row : NumberRow) → held operation finish m ≡ Some row
      → ((w : Width) (v : ℕ) → v < 2 ^ 32
      → finished finish w (immediate_value operation v m) ≡ operated operator w v n)
      → Means operator n row
  immediate operator n operation finish m row is made =
      of_held (Means operator n) operation finish m row is
      (λ short w.
      let small = lt-ltb (m % 4096) 4096 (lower_fits m) in
      record {
        plain = simp (wd, d32 pair, q32 pair source, small, finish_plain w finish);
        made = λ regs below.
            finish_made w finish _ ∙ simp (dd pair, d0 pair, q0 pair source)
            (ap (λ x. finished finish w (immediate_value operation (regs r) x)) (short_held m short)
            ∙ made w (regs r) below);
      })

  above : (operator : BinaryOperator) (n : ℕ) (row : NumberRow) → Some above_zero ≡ Some row
      → ((v : ℕ) (w : Width) → word_of (nat_lt 0 v) ≡ operated operator w v n) → Means operator n row
  above operator n row is same =
      of_row (Means operator n) above_zero row is
      (λ w. record {
        plain = simp (wd, d32 pair, q32 pair source);
        made = λ regs below. simp (dd pair, d0 pair, q0 pair source) (same (regs r) w);
      })

  moved : (operator : BinaryOperator) (n : ℕ) (operation : ShiftOperation) (row : NumberRow)
      → Some (shifted operation n) ≡ Some row
      → ((w : Width) (v : ℕ) → cut_value w (shift_value operation v (n % 32)) ≡ operated operator w v n)
      → Means operator n row
  moved operator n operation row is made =
      of_row (Means operator n) (shifted operation n) row is
      (λ w.
      let small = lt-ltb (n % 32) 32 (mod_below n 32 (omega arith)) in
      record {
        plain = simp (wd, d32 pair, q32 pair source, small, cut_plain pair works wd wt w);
        made = λ regs below. cut_composed pair w _ ∙ simp (dd pair, d0 pair, q0 pair source) (made w (regs r));
      })

  low_means : (n : ℕ) → n < 2 ^ 32 → 0 < n → (row : NumberRow) → low_bits n ≡ Some row → Means BitAnd n row
  low_means n fits some row is =
      let others = count_leading_zeros 32 n in
      let top = leading_top 32 n some fits in
      let both = cond_some (n + 1 == 2 ^ (32 - others)) _ row is in
      subst (Means BitAnd n) both.1
      (λ w.
      let small = lt-ltb (others % 32) 32 (mod_below others 32 (omega arith)) in
      record {
        plain = simp (wd, d32 pair, q32 pair source, small);
        made = λ regs below.
            simp (dd pair, d0 pair, q0 pair source)
            (low_kept (regs r) n (32 - others) others below (omega arith) (omega arith)
            (eqb-true (n + 1) (2 ^ (32 - others)) both.0));
      })

  bits_mean : (n : ℕ) → n < 2 ^ 32 → (row : NumberRow) → masked n ≡ Some row → Means BitAnd n row
  bits_mean n fits row is =
      cond_both (is_short n) (held Andi Alone n) (low_bits n)
      (λ (o : Option NumberRow). o ≡ Some row → Means BitAnd n row)
      (λ short same. immediate BitAnd n Andi Alone n row same (λ w v below. refl))
      (λ long same. low_means n fits (grind (arith, nat_tests, long)) row same) is

  pub number_means : (operator : BinaryOperator) (n : ℕ) → n < 2 ^ 32 → (row : NumberRow)
      → number_row operator n ≡ Some row → Means operator n row
  number_means Equal n fits row is =
      of_zero (Means Equal n) n _ _ row is
      (λ zero same. immediate Equal n Sltiu Alone 1 row same
      (λ w v below. grind (arith, nat_tests, eqb-true n 0 zero)))
      (λ same. immediate Equal n Addi GivesZero (negated W32 n) row same (λ w v below. grind (arith, nat_tests)))
  number_means Unequal n fits row is =
      of_zero (Means Unequal n) n _ _ row is
      (λ zero same. above Unequal n row same (λ v w. grind (arith, nat_tests, eqb-true n 0 zero)))
      (λ same. immediate Unequal n Addi GivesMore (negated W32 n) row same (λ w v below. grind (arith, nat_tests)))
  number_means Less n fits row is = immediate Less n Sltiu Alone n row is (λ w v below. refl)
  number_means LessOrEqual n fits row is =
      immediate LessOrEqual n Sltiu Alone (n + 1) row is (λ w v below. grind (arith, nat_tests))
  number_means Greater n fits row is =
      of_zero (Means Greater n) n _ _ row is
      (λ zero same. above Greater n row same (λ v w. ap (λ x. word_of (nat_lt x v)) (sym (eqb-true n 0 zero))))
      (λ same. immediate Greater n Sltiu GivesZero (n + 1) row same (λ w v below. grind (arith, nat_tests)))
  number_means GreaterOrEqual n fits row is =
      immediate GreaterOrEqual n Sltiu GivesZero n row is (λ w v below. grind (arith, nat_tests))
  number_means BitOr n fits row is = immediate BitOr n Ori Alone n row is (λ w v below. refl)
  number_means BitXor n fits row is = immediate BitXor n Xori Alone n row is (λ w v below. refl)
  number_means BitAnd n fits row is = bits_mean n fits row is
  number_means Add n fits row is = immediate Add n Addi Narrowed n row is (λ w v below. cut_whole w (v + n))
  number_means Subtract n fits row is =
      immediate Subtract n Addi Narrowed (negated W32 n) row is
      (λ w v below. cut_whole w (v + negated W32 n) ∙ less_by w v n fits)
  number_means ShiftLeft n fits row is =
      moved ShiftLeft n Slli row is (λ w v. cut_whole w (v * 2 ^ (n % 32 % 32))
      ∙ ap (λ k. v * 2 ^ k % 2 ^ bits w) (low_again n))
  number_means ShiftRight n fits row is =
      moved ShiftRight n Srli row is (λ w v. cut_whole w (v / 2 ^ (n % 32 % 32))
      ∙ ap (λ k. v / 2 ^ k % 2 ^ bits w) (low_again n))
  number_means operator n fits row is = absurd (none-some row is)
