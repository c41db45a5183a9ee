-- Of bools, which are 0 or 1: the operator whose code is emitted makes of them what the operator means, and puts the
-- same on the path; and where a mask is made of another comparison, that is the opposite.
use Rattle.std.proofs.Common.{◌≡◌, ℕ, zero, suc, ◌<◌, ◌==◌, ◌&&◌, ◌||◌, not, bit_and, bit_or, IfSome, Option, None}
use Rattle.std.proofs.Common.{refl, arith}
use Rattle.expression_code.proofs.Below.{Allocation, binary, BinaryOperator, emitted_operator, Finish}
use Rattle.expression_code.proofs.Below.{IsWithinKind, marks_of, nat_tests, of_bits, operated}
use Rattle.expression_code.proofs.Below.{opposite_by, opposite_in, opposite_of, Place, Profile, TermTree}
use Rattle.expression_code.proofs.Below.{Width, word_of, WordType}
use Rattle.expression_code.specs.Below.{Equal, Greater, GreaterOrEqual, Less, LessOrEqual, LogicalAnd, LogicalOr, logic}
use Rattle.expression_code.specs.Below.{Makes}
use Rattle.expression_code.specs.Below.{operation_of, truth_of, Unequal}
use Rattle.expression_code.specs.declared.numbers.Finish.TheVariants.{GivesZero}
use Rattle.expression_code.specs.TermCode.{finish_of}
use Rattle.std.proofs.lemmas.Bool.{cond_both}

-- functions of two bools are the same where they are at 0 and at 1
of_two : (f g : ℕ → ℕ → ℕ) → f 0 0 ≡ g 0 0 → f 0 1 ≡ g 0 1 → f 1 0 ≡ g 1 0 → f 1 1 ≡ g 1 1 → (a b : ℕ) → a < 2 → b < 2
    → f a b ≡ g a b
of_two f g none right left both zero zero low high = none
of_two f g none right left both zero (suc zero) low high = right
of_two f g none right left both (suc zero) zero low high = left
of_two f g none right left both (suc zero) (suc zero) low high = both
of_two f g none right left both (suc (suc a)) b low high = absurd (omega arith)
of_two f g none right left both a (suc (suc b)) low high = absurd (omega arith)

module _ (w : Width) (a b : ℕ) where
  bits_same : {profile : Profile} {one other whole : WordType} → IsWithinKind one.kind a → IsWithinKind other.kind b
      → (operator : BinaryOperator) → Makes profile (operation_of operator) one other whole
      → operated (of_bits operator) w a b ≡ operated operator w a b
  bits_same low high LogicalOr logic =
      of_two bit_or (λ x y. word_of (truth_of x || truth_of y)) refl refl refl refl a b (omega arith) (omega arith)
  bits_same low high LogicalAnd logic =
      of_two bit_and (λ x y. word_of (truth_of x && truth_of y)) refl refl refl refl a b (omega arith) (omega arith)
  bits_same low high operator makes = refl

  pub emitted_same : {profile : Profile} {one other whole : WordType} → IsWithinKind one.kind a
      → IsWithinKind other.kind b → (allocation : Allocation) (operator : BinaryOperator)
      → Makes profile (operation_of operator) one other whole
      → operated (emitted_operator allocation operator) w a b ≡ operated operator w a b
  emitted_same low high allocation operator makes =
      cond_both allocation.immediates (of_bits operator) operator
      (λ emitted. operated emitted w a b ≡ operated operator w a b)
      (λ on. bits_same low high operator makes) (λ off. refl)

module _ (place : Place) (a b : ℕ) where
  bits_marks : (operator : BinaryOperator) → marks_of place operator a b ≡ marks_of place (of_bits operator) a b
  bits_marks LogicalOr = refl
  bits_marks LogicalAnd = refl
  bits_marks operator = refl

  pub emitted_marks : (allocation : Allocation) (operator : BinaryOperator)
      → marks_of place operator a b ≡ marks_of place (emitted_operator allocation operator) a b
  emitted_marks allocation operator =
      cond_both allocation.immediates (of_bits operator) operator
      (λ emitted. marks_of place operator a b ≡ marks_of place emitted a b) (λ on. bits_marks operator) (λ off. refl)

-- of the same operands a comparison holds exactly where another one does not, and shows the same
pub record IsOpposite (operator other : BinaryOperator) : Type 0 where
  pub operation : operation_of other ≡ operation_of operator
  pub denies : (w : Width) (a b : ℕ) → (operated other w a b == 0) ≡ not (operated operator w a b == 0)
  pub unmarked : (place : Place) (a b : ℕ) → marks_of place operator a b ≡ marks_of place other a b

opposite : (operator : BinaryOperator) → IfSome (opposite_of operator) (IsOpposite operator)
opposite Equal =
    record { operation = refl; denies = λ w a b. grind (arith, nat_tests); unmarked = λ place a b. refl }
opposite Unequal =
    record { operation = refl; denies = λ w a b. grind (arith, nat_tests); unmarked = λ place a b. refl }
opposite Less =
    record { operation = refl; denies = λ w a b. grind (arith, nat_tests); unmarked = λ place a b. refl }
opposite LessOrEqual =
    record { operation = refl; denies = λ w a b. grind (arith, nat_tests); unmarked = λ place a b. refl }
opposite Greater =
    record { operation = refl; denies = λ w a b. grind (arith, nat_tests); unmarked = λ place a b. refl }
opposite GreaterOrEqual =
    record { operation = refl; denies = λ w a b. grind (arith, nat_tests); unmarked = λ place a b. refl }
opposite operator = tt

by_finish : (finish : Finish) (operator : BinaryOperator) → IfSome (opposite_by finish operator) (IsOpposite operator)
by_finish GivesZero operator = opposite operator
by_finish finish operator = tt

pub opposite_known : (allocation : Allocation) (place : Place) (operator : BinaryOperator) (w : Width)
    (left right : TermTree)
    → IfSome (opposite_in allocation (binary place operator w left right)) (IsOpposite operator)
opposite_known allocation place operator w left right =
    let finish = finish_of allocation operator left right in
    cond_both allocation.immediates (opposite_by finish operator) None
    (λ (o : Option BinaryOperator). IfSome o (IsOpposite operator)) (λ on. by_finish finish operator) (λ off. tt)
