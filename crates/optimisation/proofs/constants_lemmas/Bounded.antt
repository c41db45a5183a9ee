-- Expressions whose inner operands are within their bounds, as far as the rules for expressions go by them: what `!`
-- stands before is a bool, and what an operator of 32 bits moves down is a word of 32 bits. A simple expression is so
-- where it is made of a well-typed one; its types are not needed besides, since the test for straight code finds them.
use Rattle.std.proofs.Common.{◌≡◌, ℕ, ◌<◌, ◌^◌, true, sym, subst, arith}
use Rattle.std.proofs.lemmas.Bool.{false≢true}
use Rattle.inline.proofs.Fitting.{fits_number}
use Rattle.optimisation.specs.Below.{binary, BinaryOperator, Boolean, Divide, divides, division, IsWithinKind, IsWord}
use Rattle.optimisation.specs.Below.{Kind, Makes, Not, operation_of, prefix, PrefixOperator, Profile, Remainder}
use Rattle.optimisation.specs.Below.{ShiftRight, Takes, TermTree, value_in, Values, W32, Width, width_of, WordType}

abbrev pub IsNegated : PrefixOperator → ℕ → Type 0
IsNegated Not v = v < 2
IsNegated operator v = Unit {0}

abbrev pub IsMoved : BinaryOperator → Width → ℕ → Type 0
IsMoved ShiftRight W32 v = v < 2 ^ 32
IsMoved operator width v = Unit {0}

abbrev pub IsBounded : Values → TermTree → Type 0
IsBounded m (prefix operator width operand) = IsNegated operator (value_in m operand) × IsBounded m operand
IsBounded m (binary place operator width left right) = IsMoved operator width (value_in m left)
IsBounded m e = Unit {0}

-- Operands of what is well typed.

pub negated_fits : (operator : PrefixOperator) (kind : Kind) (v : ℕ) → Takes operator kind → IsWithinKind kind v
    → IsNegated operator v
negated_fits Not kind v takes fits = subst (λ k. IsWithinKind k v) takes fits
negated_fits operator kind v takes fits = tt

pub within_32 : (k : Kind) (v : ℕ) → IsWithinKind k v → v < 2 ^ 32
within_32 Boolean v fits = omega arith
within_32 kind v fits = omega arith

pub moved_fits : (operator : BinaryOperator) (width : Width) (kind : Kind) (v : ℕ) → IsWithinKind kind v
    → IsMoved operator width v
moved_fits ShiftRight W32 kind v fits = within_32 kind v fits
moved_fits operator width kind v fits = tt

pub word_moved : (width : Width) (v : ℕ) → IsWord width v → IsMoved ShiftRight width v
word_moved W32 v low = low
word_moved width v low = tt

-- an operator of this width takes these two numbers
pub record AreTaken (operator : BinaryOperator) (width : Width) (a b : ℕ) : Type 0 where
  pub profile : Profile
  pub one : WordType
  pub other : WordType
  pub whole : WordType
  pub makes : Makes profile (operation_of operator) one other whole
  pub even : width ≡ width_of one.kind
  pub left : IsWithinKind one.kind a
  pub right : IsWithinKind other.kind b

divided_word : {profile : Profile} (operator : BinaryOperator) {one other whole : WordType} (width : Width) (a : ℕ)
    → Makes profile (operation_of operator) one other whole → width ≡ width_of one.kind → IsWithinKind one.kind a
    → divides operator ≡ true → IsWord width a
divided_word Divide width a (division {kind = kind} numeric) even fits is =
    subst (λ w. IsWord w a) (sym even) (fits_number kind a numeric fits)
divided_word Remainder width a (division {kind = kind} numeric) even fits is =
    subst (λ w. IsWord w a) (sym even) (fits_number kind a numeric fits)
divided_word operator width a makes even fits is = absurd (false≢true is)

-- what is divided is a word
pub divided_fits : (operator : BinaryOperator) (width : Width) (a b : ℕ) → AreTaken operator width a b
    → divides operator ≡ true → IsWord width a
divided_fits operator width a b taken = divided_word operator width a taken.makes taken.even taken.left
