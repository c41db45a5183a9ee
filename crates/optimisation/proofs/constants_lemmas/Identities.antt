-- What an operator makes of an operand and an identity: it leaves the operand as it is, where that is within its kind.
use Rattle.std.proofs.Common.{◌≡◌, ℕ, ◌+◌, ◌*◌, ◌/◌, ◌%◌, ◌^◌, ◌==◌, ◌<◌, ◌&&◌, ◌||◌, Bool, true, false, not, bit_and}
use Rattle.std.proofs.Common.{refl, sym, ◌∙◌, subst, arith}
use Rattle.std.proofs.Math.Nat.{mod-eq_of_lt}
use Rattle.std.proofs.lemmas.Bool.{eqb-true, eqb-false, false≢true}
use Rattle.std.proofs.lemmas.Nat.{and_comm, and_mask}
use Rattle.std.specs.Int.Bits.{or_zero_l, or_zero_r, xor_zero_l, xor_zero_r}
use Rattle.inline.proofs.Fitting.{fits_number}
use Rattle.optimisation.specs.Below.{Add, arithmetic, BinaryOperator, BitAnd, BitOr, bits, BitXor, LogicalAnd}
use Rattle.optimisation.specs.Below.{complemented, difference, Divide, LogicalOr, IsWithinKind, IsWord, logic, Makes}
use Rattle.optimisation.specs.Below.{multiplication, Multiply, operated, operation_of, Profile, shift, ShiftLeft}
use Rattle.optimisation.specs.Below.{ShiftRight, Subtract, truth_of, W16, W32, W8, Width, width_of, word_of, WordType}
use Rattle.optimisation.specs.constants.private.Folding.{is_left_identity, is_right_identity}

-- Words.

wrap_leaves : (w : Width) (a b : ℕ) → IsWord w a → b ≡ a → b % 2 ^ bits w ≡ a
wrap_leaves w a b fits is = subst (λ c. c % 2 ^ bits w ≡ a) (sym is) (mod-eq_of_lt fits)

nothing_less : (w : Width) (a : ℕ) → IsWord w a → difference w a 0 ≡ a
nothing_less W8 a fits = omega arith
nothing_less width a fits = omega arith

ones_leave : (w : Width) (a : ℕ) → IsWord w a → bit_and a (complemented w 0) ≡ a
ones_leave W8 a fits = and_mask a 8 ∙ mod-eq_of_lt fits
ones_leave W16 a fits = and_mask a 16 ∙ mod-eq_of_lt fits
ones_leave W32 a fits = and_mask a 32 ∙ mod-eq_of_lt fits

ones_also : (w : Width) (a : ℕ) → IsWord w a → bit_and (complemented w 0) a ≡ a
ones_also w a fits = and_comm (complemented w 0) a ∙ ones_leave w a fits

-- Bools.

pub truth_again : (a : ℕ) → a < 2 → word_of (truth_of a) ≡ a
truth_again a fits = by_zero (a == 0) refl
  where
    by_zero : (b : Bool) → (a == 0) ≡ b → word_of (not b) ≡ a
    by_zero true is = sym (eqb-true a 0 is)
    by_zero false is = omega (arith, eqb-false a 0 is)

either_nothing : (b : Bool) → (b || false) ≡ b
either_nothing true = refl
either_nothing false = refl

both_true : (b : Bool) → (b && true) ≡ b
both_true true = refl
both_true false = refl

-- An operator on an operand and a right identity.
pub right_identity : {profile : Profile} (operator : BinaryOperator) {one other whole : WordType} (a b : ℕ)
    → Makes profile (operation_of operator) one other whole → IsWithinKind one.kind a
    → is_right_identity operator (width_of one.kind) b ≡ true
    → operated operator (width_of one.kind) a b ≡ a
right_identity LogicalOr a b logic fits is =
    rw (eqb-true b 0 is, either_nothing) (truth_again a fits)
right_identity LogicalAnd a b logic fits is =
    rw (is, both_true) (truth_again a fits)
right_identity BitOr a b makes fits is = rw (eqb-true b 0 is) (or_zero_r a)
right_identity BitXor a b makes fits is = rw (eqb-true b 0 is) (xor_zero_r a)
right_identity BitAnd a b (arithmetic {kind = k} numeric) fits is =
    rw (eqb-true b (complemented (width_of k) 0) is) (ones_leave (width_of k) a (fits_number k a numeric fits))
right_identity ShiftLeft a b (shift {kind = k} numeric) fits is =
    rw (eqb-true b 0 is) (wrap_leaves (width_of k) a (a * 1) (fits_number k a numeric fits) (omega arith))
right_identity ShiftRight a b (shift {kind = k} numeric) fits is =
    rw (eqb-true b 0 is) (wrap_leaves (width_of k) a (a / 1) (fits_number k a numeric fits) (omega arith))
right_identity Add a b (arithmetic {kind = k} numeric) fits is =
    wrap_leaves (width_of k) a (a + b) (fits_number k a numeric fits) (omega (arith, eqb-true b 0 is))
right_identity Subtract a b (arithmetic {kind = k} numeric) fits is =
    rw (eqb-true b 0 is) (nothing_less (width_of k) a (fits_number k a numeric fits))
right_identity Multiply a b (multiplication {kind = k} numeric may) fits is =
    rw (eqb-true b 1 is) (wrap_leaves (width_of k) a (a * 1) (fits_number k a numeric fits) (omega arith))
right_identity Divide a b makes fits is = rw (eqb-true b 1 is) (omega arith)
right_identity operator a b makes fits is = absurd (false≢true is)

-- An operator on a left identity and an operand.
pub left_identity : {profile : Profile} (operator : BinaryOperator) {one other whole : WordType} (a b : ℕ)
    → Makes profile (operation_of operator) one other whole → IsWithinKind other.kind b
    → is_left_identity operator (width_of one.kind) a ≡ true
    → operated operator (width_of one.kind) a b ≡ b
left_identity LogicalOr a b logic fits is =
    rw (eqb-true a 0 is) (truth_again b fits)
left_identity LogicalAnd a b logic fits is = rw is (truth_again b fits)
left_identity BitOr a b makes fits is = rw (eqb-true a 0 is) (or_zero_l b)
left_identity BitXor a b makes fits is = rw (eqb-true a 0 is) (xor_zero_l b)
left_identity BitAnd a b (arithmetic {kind = k} numeric) fits is =
    rw (eqb-true a (complemented (width_of k) 0) is) (ones_also (width_of k) b (fits_number k b numeric fits))
left_identity Add a b (arithmetic {kind = k} numeric) fits is =
    wrap_leaves (width_of k) b (a + b) (fits_number k b numeric fits) (omega (arith, eqb-true a 0 is))
left_identity Multiply a b (multiplication {kind = k} numeric may) fits is =
    rw (eqb-true a 1 is) (wrap_leaves (width_of k) b (1 * b) (fits_number k b numeric fits) (omega arith))
left_identity operator a b makes fits is = absurd (false≢true is)

-- So at the width of the left operand's kind.
pub right_leaves : {profile : Profile} (operator : BinaryOperator) {one other whole : WordType} (w : Width) (a b : ℕ)
    → Makes profile (operation_of operator) one other whole → w ≡ width_of one.kind → IsWithinKind one.kind a
    → is_right_identity operator w b ≡ true → operated operator w a b ≡ a
right_leaves operator w a b makes even fits =
    subst (λ v. is_right_identity operator v b ≡ true → operated operator v a b ≡ a) (sym even)
    (right_identity operator a b makes fits)

pub left_leaves : {profile : Profile} (operator : BinaryOperator) {one other whole : WordType} (w : Width) (a b : ℕ)
    → Makes profile (operation_of operator) one other whole → w ≡ width_of one.kind → IsWithinKind other.kind b
    → is_left_identity operator w a ≡ true → operated operator w a b ≡ b
left_leaves operator w a b makes even fits =
    subst (λ v. is_left_identity operator v a ≡ true → operated operator v a b ≡ b) (sym even)
    (left_identity operator a b makes fits)
