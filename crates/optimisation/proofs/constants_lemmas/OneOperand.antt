-- What an operator comes to by one operand alone, whatever the other is: a bool.
use Rattle.std.proofs.Common.{◌≡◌, ℕ, ◌==◌, Bool, true, false, not, Some, refl, ap, arith}
use Rattle.std.proofs.Math.Dec.{leb-zero}
use Rattle.std.proofs.lemmas.Bool.{and_right, eqb-true, le-ltb, or_right}
use Rattle.std.proofs.lemmas.Option.{none-some, same_Some}
use Rattle.std.specs.Bool.{then_some}
use Rattle.optimisation.specs.Below.{BinaryOperator, LogicalAnd, LogicalOr, Greater, GreaterOrEqual, Less, LessOrEqual}
use Rattle.optimisation.specs.Below.{operated, truth_of, Width, word_of}
use Rattle.optimisation.specs.constants.private.Folding.{decided_by_left, decided_by_right}

-- a bool under a test
under : (test said t : Bool) → then_some test said ≡ Some t → (test ≡ true) × (said ≡ t)
under true said t is = (refl, same_Some said t is)
under false said t is = absurd (none-some t is)

-- the left operand is this number
pub left_value : (operator : BinaryOperator) (w : Width) (a b : ℕ) (t : Bool) → decided_by_left operator a ≡ Some t
    → word_of t ≡ operated operator w a b
left_value LogicalOr w a b t is =
    let found = under (truth_of a) true t is in rw (← found.1, found.0) refl
left_value LogicalAnd w a b t is =
    let found = under (a == 0) false t is in rw (← found.1, found.0) refl
left_value LessOrEqual w a b t is =
    let found = under (a == 0) true t is in rw (← found.1, eqb-true a 0 found.0, leb-zero b) refl
left_value Greater w a b t is =
    let found = under (a == 0) false t is in rw (← found.1, eqb-true a 0 found.0, le-ltb b 0 (omega arith)) refl
left_value operator w a b t is = absurd (none-some t is)

-- and the right one
pub right_value : (operator : BinaryOperator) (w : Width) (a b : ℕ) (t : Bool) → decided_by_right operator b ≡ Some t
    → word_of t ≡ operated operator w a b
right_value LogicalOr w a b t is =
    let found = under (truth_of b) true t is in
    rw (← found.1, or_right (truth_of a) (truth_of b) found.0) refl
right_value LogicalAnd w a b t is =
    let found = under (b == 0) false t is in
    rw (← found.1, and_right (truth_of a) (truth_of b) (ap not found.0)) refl
right_value Less w a b t is =
    let found = under (b == 0) false t is in rw (← found.1, eqb-true b 0 found.0, le-ltb a 0 (omega arith)) refl
right_value GreaterOrEqual w a b t is =
    let found = under (b == 0) true t is in rw (← found.1, eqb-true b 0 found.0, leb-zero a) refl
right_value operator w a b t is = absurd (none-some t is)
