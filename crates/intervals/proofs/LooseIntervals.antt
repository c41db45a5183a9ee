-- What an operator makes of numbers within intervals is within what it makes of the intervals.
use Rattle.std.proofs.Common.{◌≡◌, ℕ, ◌+◌, ◌-◌, ◌*◌, ◌/◌, ◌%◌, ◌^◌, ◌<◌, ◌≤◌, ◌==◌, ◌&&◌, ◌||◌, min, Bool, true}
use Rattle.std.proofs.Common.{false, not, nat_lt, nat_le, if◌then◌else◌, ap, ◌∙◌, arith, eqb-true}
use Rattle.std.proofs.Math.Nat.{div-le_self, div-mul-le_self, mod-le, mod-lt, mod-eq_of_lt, mul-le-mul_left}
use Rattle.std.proofs.Math.Nat.{le-max_left, le-max_right, le-min, min-le_left, min-le_right}
use Rattle.std.proofs.lemmas.Bool.{and_parts, cond_both}
use Rattle.std.proofs.lemmas.Bool.Decides.{nat_tests}
use Rattle.std.proofs.lemmas.Nat.{and_le_l, and_le_r, le-div, mul-le, pow_pos}
use Rattle.intervals.specs.Below.{Add, BinaryOperator, BitAnd, bits, bits_of, Boolean, LogicalAnd, Complement}
use Rattle.intervals.specs.Below.{converted, difference, Divide, LogicalOr, Equal, Greater, GreaterOrEqual, Interval}
use Rattle.intervals.specs.Below.{IsWithinKind, IsWord, Kind, Less, LessOrEqual, Multiply, Negate, Not, operated}
use Rattle.intervals.specs.Below.{prefix_value, PrefixOperator, Remainder, shifted_right, ShiftRight, Subtract}
use Rattle.intervals.specs.Below.{truth_of, Uint16, Uint32, Uint8, Unequal, W16, W32, W8, Width, width_of, word_of}
use Rattle.intervals.specs.Intervals.{between, either_truth, greatest, full, full_of, fitting, shifted_interval}
use Rattle.intervals.specs.Intervals.{operated_interval, prefix_interval, converted_interval, hull}
use Rattle.intervals.proofs.Below.{complement_fits, number_fits, wrapped_fits}
use Rattle.language.specs.Grammatical.{IsNumberKind}

abbrev pub IsIn : Interval → ℕ → Type 0
IsIn i v = (i.low ≤ v) × (v ≤ i.high)

pub truth_in : (b : Bool) → IsIn either_truth (word_of b)
truth_in true = (omega arith, omega arith)
truth_in false = (omega arith, omega arith)

pub word_in : (w : Width) (v : ℕ) → IsWord w v → IsIn (full w) v
word_in W8 v h = (omega arith, omega (arith, h))
word_in w v h = (omega arith, omega (arith, h))

word_below : (w : Width) (v : ℕ) → v ≤ greatest w → v < 2 ^ bits w
word_below W8 v h = omega (arith, h)
word_below w v h = omega (arith, h)

-- one of two intervals, by a test that is met
by_test : (b : Bool) (one other : Interval) (v : ℕ) → (b ≡ true → IsIn one v) → IsIn other v
    → IsIn (if b then one else other) v
by_test b one other v h g = cond_both b one other (λ i. IsIn i v) h (λ off. g)

at_most : (a b : ℕ) → nat_le a b ≡ true → a ≤ b
at_most a b h = grind (arith, nat_tests)

-- what fits is not cut
fits_in : (w : Width) (low high v : ℕ) → low ≤ v → v ≤ high → IsWord w (v % 2 ^ bits w)
    → IsIn (fitting w low high) (v % 2 ^ bits w)
fits_in w low high v l h word =
    by_test (nat_le low (greatest w) && nat_le high (greatest w)) (between low high) (full w) (v % 2 ^ bits w)
    (λ e.
    let same : v % 2 ^ bits w ≡ v =
    mod-eq_of_lt
    (word_below w v
    (omega (
      arith,
      h,
      at_most high (greatest w)
          (and_parts (nat_le low (greatest w)) (nat_le high (greatest w)) e).1,
    ))) in
    (omega (arith, same, l), omega (arith, same, h)))
    (word_in w (v % 2 ^ bits w) word)

quotients_keep_order : (a x b y : ℕ) → a ≤ x → y ≤ b → 0 < y → a / b ≤ x / y
quotients_keep_order a x b y h g some =
    let one = div-mul-le_self a b in
    let two = mul-le-mul_left (a / b) g in
    le-div (a / b) x y some (omega (arith, one, two, h))

difference_is : (w : Width) (a b : ℕ) → IsWord w a → b ≤ a → difference w a b ≡ a - b
difference_is W8 a b word less = omega (arith, word, less)
difference_is W16 a b word less = omega (arith, word, less)
difference_is W32 a b word less = omega (arith, word, less)

shift_is : (w : Width) (a k : ℕ) → IsWord w a → shifted_right w a k ≡ a / 2 ^ (k % 32)
shift_is w a k word = let less = div-le_self a (2 ^ (k % 32)) in mod-eq_of_lt (omega (arith, word, less))

module _ (w : Width) (a b : Interval) (x y : ℕ) (one : IsIn a x) (other : IsIn b y) (word : IsWord w x) where
  difference_in : IsIn (operated_interval Subtract w a b) (difference w x y)
  difference_in =
      by_test (nat_le b.high a.low) (between (a.low - b.high) (a.high - b.low)) (full w) (difference w x y)
      (λ e.
      let less = at_most b.high a.low e in
      let same = difference_is w x y word (omega (arith, less, one, other)) in
      (omega (arith, same, less, one, other), omega (arith, same, less, one, other)))
      (word_in w (difference w x y) (wrapped_fits w _))

  quotient_in : IsIn (operated_interval Divide w a b) (x / y)
  quotient_in =
      by_test (nat_le 1 b.low && nat_le 1 b.high) (between (a.low / b.high) (a.high / b.low)) (full w) (x / y)
      (λ e.
      let some = at_most 1 b.low (and_parts (nat_le 1 b.low) (nat_le 1 b.high) e).0 in (
        quotients_keep_order a.low x b.high y one.0 other.1 (omega (arith, some, other)),
        quotients_keep_order x a.high y b.low one.1 other.0 (omega (arith, some)),
      ))
      (word_in w (x / y) (let less = div-le_self x y in omega (arith, word, less)))

  remainder_in : IsIn (operated_interval Remainder w a b) (x % y)
  remainder_in =
      by_test (nat_le 1 b.low) (between 0 (min a.high (b.high - 1))) (full w) (x % y)
      (λ e.
      let some = at_most 1 b.low e in
      let less = mod-le x y in
      let under : x % y < y = mod-lt x (omega (arith, some, other)) in
      (omega arith, le-min (omega (arith, less, one)) (omega (arith, under, other))))
      (word_in w (x % y) (let less = mod-le x y in omega (arith, word, less)))

  shift_in : IsIn (shifted_interval a b) (shifted_right w x y)
  shift_in =
      by_test (b.low == b.high) (between (a.low / 2 ^ (b.low % 32)) (a.high / 2 ^ (b.low % 32))) (between 0 a.high)
      (shifted_right w x y)
      (λ e.
      let same : y ≡ b.low = omega (arith, eqb-true b.low b.high e, other) in
      let is = shift_is w x y word ∙ ap (λ k. x / 2 ^ (k % 32)) same in
      let some : 0 < 2 ^ (b.low % 32) = pow_pos (b.low % 32) in
      let low = quotients_keep_order a.low x (2 ^ (b.low % 32)) (2 ^ (b.low % 32)) one.0 (omega arith) some in
      let high = quotients_keep_order x a.high (2 ^ (b.low % 32)) (2 ^ (b.low % 32)) one.1 (omega arith) some in
      (omega (arith, is, low), omega (arith, is, high)))
      (let is = shift_is w x y word in let less = div-le_self x (2 ^ (y % 32)) in
      (omega arith, omega (arith, is, less, one)))

  pub operated_in : (operator : BinaryOperator) → (IsWord w (operated operator w x y))
      → IsIn (operated_interval operator w a b) (operated operator w x y)
  operated_in LogicalOr fits = truth_in (truth_of x || truth_of y)
  operated_in LogicalAnd fits = truth_in (truth_of x && truth_of y)
  operated_in Equal fits = truth_in (x == y)
  operated_in Unequal fits = truth_in (not (x == y))
  operated_in Less fits = truth_in (nat_lt x y)
  operated_in LessOrEqual fits = truth_in (nat_le x y)
  operated_in Greater fits = truth_in (nat_lt y x)
  operated_in GreaterOrEqual fits = truth_in (nat_le y x)
  operated_in BitAnd fits = (
    omega arith,
    le-min (let l = and_le_l x y in
        omega (arith, l, one)) (let r = and_le_r x y in omega (arith, r, other)),
  )
  operated_in ShiftRight fits = shift_in
  operated_in Add fits = fits_in w (a.low + b.low) (a.high + b.high) (x + y) (omega (arith, one, other))
      (omega (arith, one, other)) fits
  operated_in Subtract fits = difference_in
  operated_in Multiply fits =
      fits_in w (a.low * b.low) (a.high * b.high) (x * y) (mul-le a.low b.low x y one.0 other.0)
      (mul-le x y a.high b.high one.1 other.1) fits
  operated_in Divide fits = quotient_in
  operated_in Remainder fits = remainder_in
  operated_in operator fits = word_in w _ fits

pub prefix_in : (operator : PrefixOperator) (w : Width) (a : ℕ)
    → IsIn (prefix_interval operator w) (prefix_value operator w a)
prefix_in Not w a = truth_in (not (truth_of a))
prefix_in Complement w a = word_in w _ (complement_fits w a)
prefix_in Negate w a = word_in w _ (wrapped_fits w _)

pub kind_in : (kind : Kind) (v : ℕ) → IsWithinKind kind v → IsIn (full_of kind) v
kind_in Boolean v h = (omega arith, omega (arith, h))
kind_in Uint8 v h = (omega arith, omega (arith, h))
kind_in Uint16 v h = (omega arith, omega (arith, h))
kind_in Uint32 v h = (omega arith, omega (arith, h))

-- a word of a kind is one of its width
pub word_of_kind : (kind : Kind) (v : ℕ) → IsWithinKind kind v → IsWord (width_of kind) v
word_of_kind Boolean v h = omega (arith, h)
word_of_kind Uint8 v h = h
word_of_kind Uint16 v h = h
word_of_kind Uint32 v h = h

not_cut : (kind : Kind) (v : ℕ) → IsNumberKind kind → v ≤ 2 ^ bits_of kind - 1 → converted (width_of kind) v ≡ v
not_cut Boolean v numeric h = absurd numeric
not_cut Uint8 v numeric h = omega (arith, h)
not_cut Uint16 v numeric h = omega (arith, h)
not_cut Uint32 v numeric h = omega (arith, h)

pub converted_in : (kind : Kind) (i : Interval) (v : ℕ) → IsNumberKind kind → IsIn i v
    → IsIn (converted_interval kind i) (converted (width_of kind) v)
converted_in kind i v numeric h =
    by_test (nat_le i.high (2 ^ bits_of kind - 1)) i (full_of kind) (converted (width_of kind) v)
    (λ e.
    let same = not_cut kind v numeric (omega (arith, h, at_most i.high (2 ^ bits_of kind - 1) e)) in
    (omega (arith, same, h), omega (arith, same, h)))
    (kind_in kind _ (number_fits kind _ numeric (wrapped_fits (width_of kind) v)))

pub hull_in : (a b : Interval) (c : Bool) (x y : ℕ) → IsIn a x → IsIn b y → IsIn (hull a b) (if c then y else x)
hull_in a b true x y one other =
    let low = min-le_right a.low b.low in
    let high = le-max_right a.high b.high in
    (omega (arith, low, other), omega (arith, high, other))
hull_in a b false x y one other =
    let low = min-le_left a.low b.low in
    let high = le-max_left a.high b.high in
    (omega (arith, low, one), omega (arith, high, one))
