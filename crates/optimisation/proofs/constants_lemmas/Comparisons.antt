-- Comparisons: what `!` makes of one, and what one is with its operands swapped.
use Rattle.std.proofs.Common.{◌≡◌, ℕ, ◌==◌, ◌<◌, Bool, true, false, not, nat_le, nat_lt, [], IfSome, refl, sym, ap, ◌∙◌}
use Rattle.std.proofs.Common.{arith}
use Rattle.std.proofs.lemmas.Bool.Decides.{nat_tests}
use Rattle.std.specs.Option.{option_and}
use Rattle.optimisation.specs.Below.{BinaryOperator, Equal, Greater, GreaterOrEqual, Less, LessOrEqual, marks_of}
use Rattle.optimisation.specs.Below.{operated, opposite_of, Place, truth_of, swapped_of, Unequal, Width, word_of}
use Rattle.optimisation.proofs.constants_lemmas.Bounded.{IsMoved}
use Rattle.optimisation.proofs.constants_lemmas.Identities.{truth_again}

-- Opposites.

-- the word of what does not hold
abbrev denied : ℕ → ℕ
denied v = word_of (not (truth_of v))

denied_word : (b : Bool) → word_of (not b) ≡ denied (word_of b)
denied_word true = refl
denied_word false = refl

denied_denial : (b : Bool) → word_of b ≡ denied (word_of (not b))
denied_denial true = refl
denied_denial false = refl

pub denied_twice : (v : ℕ) → v < 2 → denied (denied v) ≡ v
denied_twice v fits = sym (denied_denial (truth_of v)) ∙ truth_again v fits

not_less : (a b : ℕ) → word_of (nat_le b a) ≡ denied (word_of (nat_lt a b))
not_less a b = let same : nat_le b a ≡ not (nat_lt a b) = grind (arith, nat_tests) in
    ap word_of same ∙ denied_word (nat_lt a b)

not_at_most : (a b : ℕ) → word_of (nat_lt b a) ≡ denied (word_of (nat_le a b))
not_at_most a b = let same : nat_lt b a ≡ not (nat_le a b) = grind (arith, nat_tests) in
    ap word_of same ∙ denied_word (nat_le a b)

-- an operator holds exactly where another does not, has the same on the path, and moves nothing
pub record IsOpposite (operator other : BinaryOperator) : Type 0 where
  pub value : (w : Width) (a b : ℕ) → operated other w a b ≡ denied (operated operator w a b)
  pub unmarked : (place : Place) (a b : ℕ) → marks_of place other a b ≡ marks_of place operator a b
  pub unmoved : (w : Width) (a : ℕ) → IsMoved other w a

pub opposite : (operator : BinaryOperator) → IfSome (opposite_of operator) (IsOpposite operator)
opposite Equal =
    record { value = λ w a b. denied_word (a == b); unmarked = λ place a b. refl; unmoved = λ w a. tt }
opposite Unequal =
    record { value = λ w a b. denied_denial (a == b); unmarked = λ place a b. refl; unmoved = λ w a. tt }
opposite Less =
    record { value = λ w a b. not_less a b; unmarked = λ place a b. refl; unmoved = λ w a. tt }
opposite LessOrEqual =
    record { value = λ w a b. not_at_most a b; unmarked = λ place a b. refl; unmoved = λ w a. tt }
opposite Greater =
    record { value = λ w a b. not_less b a; unmarked = λ place a b. refl; unmoved = λ w a. tt }
opposite GreaterOrEqual =
    record { value = λ w a b. not_at_most b a; unmarked = λ place a b. refl; unmoved = λ w a. tt }
opposite operator = tt

-- Operands swapped.

equal_swapped : (a b : ℕ) → (b == a) ≡ (a == b)
equal_swapped a b = grind (arith, nat_tests)

-- a comparison holds exactly where another does of the operands swapped, has nothing on the path, and moves
-- nothing
pub record IsSwapped (operator next : BinaryOperator) : Type 0 where
  pub value : (w : Width) (a b : ℕ) → operated next w b a ≡ operated operator w a b
  pub unmarked : (place : Place) (a b : ℕ) → marks_of place next a b ≡ []
  pub unmoved : (w : Width) (a : ℕ) → IsMoved next w a

-- a comparison has an opposite one
pub swapped_alike : (operator : BinaryOperator)
    → IfSome (option_and (opposite_of operator) (swapped_of operator)) (IsSwapped operator)
swapped_alike Equal = record {
  value = λ w a b. ap word_of (equal_swapped a b);
  unmarked = λ place a b. refl;
  unmoved = λ w a. tt;
}
swapped_alike Unequal = record {
  value = λ w a b. ap (λ c. word_of (not c)) (equal_swapped a b);
  unmarked = λ place a b. refl;
  unmoved = λ w a. tt;
}
swapped_alike Less = record { value = λ w a b. refl; unmarked = λ place a b. refl; unmoved = λ w a. tt }
swapped_alike LessOrEqual = record { value = λ w a b. refl; unmarked = λ place a b. refl; unmoved = λ w a. tt }
swapped_alike Greater = record { value = λ w a b. refl; unmarked = λ place a b. refl; unmoved = λ w a. tt }
swapped_alike GreaterOrEqual = record { value = λ w a b. refl; unmarked = λ place a b. refl; unmoved = λ w a. tt }
swapped_alike operator = tt
