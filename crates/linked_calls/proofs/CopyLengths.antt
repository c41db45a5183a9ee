-- The code that copies an array is short, so that jumps reach over it.
use Rattle.std.proofs.Common.{◌≡◌, ℕ, zero, suc, ◌+◌, ◌*◌, ◌%◌, ◌<◌, ◌≤◌, nat_lt, Bool, true, false}
use Rattle.std.proofs.Common.{[], ◌∷◌, length, if◌then◌else◌, refl, arith, length-append}
use Rattle.std.proofs.lemmas.Bool.{ltb-true}
use Rattle.expression_code.proofs.TermLengths.{constant_length}
use Rattle.linked_calls.proofs.Below.{Boolean, copied_code, copied_out_code, CopiesAreShort, element_bytes}
use Rattle.linked_calls.proofs.Below.{elements_code, Instr, Kind, rounds_code}
use Rattle.linked_calls.proofs.CopyElements.{element_code, few_enough, left_few, round_few}
use Rattle.linked_calls.specs.Below.{Addi, Immediate}
use Rattle.linked_calls.specs.FunctionCode.{bound_code, called_code, far_code, in_round}
use Rattle.linked_calls.specs.Paces.{few_elements, own_round}
use Rattle.linked_calls.specs.declared.pace.Pace.{Pace}
use Rattle.linked_calls.specs.declared.round.Round.{Round}
use Rattle.linked_calls.specs.declared.round.Round.TheVariants.{Four, One, Two}

element_short : (inward : Bool) (kind : Kind) (offset : ℕ) → length (element_code inward kind offset) ≤ 3
element_short true Boolean offset = omega arith
element_short false Boolean offset = omega arith
element_short true kind offset = omega arith
element_short false kind offset = omega arith

elements_short : (inward : Bool) (kind : Kind) (bytes offset count : ℕ)
    → length (elements_code (element_code inward kind) bytes offset count) ≤ 3 * count
elements_short inward kind bytes offset zero = omega arith
elements_short inward kind bytes offset (suc count) =
    omega (
      arith,
      length-append (element_code inward kind offset) (elements_code (element_code inward kind) bytes (offset + bytes) count),
      element_short inward kind offset,
      elements_short inward kind bytes (offset + bytes) count,
    )

far_short : (bytes : ℕ) → length (far_code bytes) ≤ 3
far_short bytes = omega (arith, constant_length, length-append {A = Instr})

bound_short : (bytes : ℕ) → length (bound_code bytes) ≤ 3
bound_short bytes = by (nat_lt bytes 2048)
  where
    by : (b : Bool) → length (if b then Immediate Addi 7 5 bytes ∷ [] else far_code bytes) ≤ 3
    by true = omega arith
    by false = far_short bytes

rounds_short : (pace : Pace) (inward : Bool) (kind : Kind) (count : ℕ)
    → length (rounds_code pace (element_code inward kind) kind count) ≤ 51
rounds_short pace inward kind count =
    omega (
      arith,
      bound_short,
      elements_short inward kind,
      length-append {A = Instr},
      round_few (own_round pace kind),
      left_few (own_round pace kind) count,
    )

-- so many elements of any kind
pub copied_short : (pace : Pace) (inward : Bool) (kind : Kind) (count : ℕ)
    → length (copied_code pace (element_code inward kind) kind count) ≤ 51
copied_short pace inward kind count = by (nat_lt count (few_elements pace kind)) refl
  where
    by : (b : Bool) → nat_lt count (few_elements pace kind) ≡ b
        → length (if b then elements_code (element_code inward kind) (element_bytes kind) 0 count
        else rounds_code pace (element_code inward kind) kind count) ≤ 51
    by true few =
        let below = ltb-true count (few_elements pace kind) few in
        omega (arith, few_enough pace kind, elements_short inward kind (element_bytes kind) 0 count)
    by false many = rounds_short pace inward kind count

-- Behind a call few are left.

pub rest_few : (round : Round) (kind : Kind) (count : ℕ) → count % in_round round kind < 16
rest_few One Boolean count = omega arith
rest_few One kind count = omega arith
rest_few Two Boolean count = omega arith
rest_few Two kind count = omega arith
rest_few Four Boolean count = omega arith
rest_few Four kind count = omega arith

pub rest_short : (round : Round) (kind : Kind) (count : ℕ)
    → length (elements_code (copied_out_code kind) (element_bytes kind) 0 (count % in_round round kind)) ≤ 45
rest_short round kind count =
    omega (
      arith,
      rest_few round kind count,
      elements_short false kind (element_bytes kind) 0 (count % in_round round kind),
    )

pub called_short : (round : Round) (behind : ℕ) (kind : Kind) (count : ℕ)
    → length (called_code round behind kind count) ≤ 50
called_short round behind kind count =
    omega (arith, bound_short, rest_short round kind count, length-append {A = Instr})

pub copies_are_short : CopiesAreShort
copies_are_short pace round behind kind count = record {
  taken = let short = copied_short pace true kind count in omega arith;
  handed = let short = copied_short pace false kind count in omega arith;
  called = let short = called_short round behind kind count in omega arith;
}
