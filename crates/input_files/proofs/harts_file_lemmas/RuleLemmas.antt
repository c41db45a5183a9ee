-- Which rule a line breaks, by what it says.
use Rattle.std.proofs.Common.{◌≡◌, ℕ, zero, suc, ◌+◌, ◌-◌, ◌*◌, ◌^◌, ◌<◌, ◌≤◌, Bool, true, false, nat_lt, nat_le, ◌==◌}
use Rattle.std.proofs.Common.{if◌then◌else◌, List, length, Some, None, inl, inr, refl, sym, ap, ap₂, subst, ◌∙◌, arith}
use Rattle.std.proofs.Common.{length-append, suc-mul, zero-mul}
use Rattle.std.proofs.Math.Nat.{le-mul_of_pos_right}
use Rattle.std.proofs.lemmas.Bool.{cases_lt}
use Rattle.std.proofs.lemmas.Bool.Decides.{nat_tests}
use Rattle.std.proofs.lemmas.List.{length-replicate}
use Rattle.std.proofs.lemmas.List.FromFn.{length-range_with_len}
use Rattle.std.specs.List.{range_with_len, repeat}
use Rattle.input_files.specs.Below.{HartCount, LineForm, most_turns, NoSuchHart, TooManyTurns}
use Rattle.input_files.specs.harts_file.Lines.{PlannedTurns, turns_of, rounds}
use Rattle.input_files.specs.harts_file.Plans.{turns_listed, is_known}
use Rattle.input_files.specs.harts_file.Faults.{rule_of_turns}
use Rattle.input_files.specs.harts_file.private.Reading.{held_number, held_turns}

-- ---- the rules as tests
-- a hart breaks no rule where no turns came before and there is room
pub hart_allowed : (begun room : Bool) → (if begun then Some LineForm else if room then None else Some HartCount)
    ≡ None → (begun ≡ false) × (room ≡ true)
hart_allowed false true e = (refl, refl)
hart_allowed begun room e = cc

pub record Allowed (harts before : ℕ) (turns : PlannedTurns) : Type 0 where
  pub some : 1 ≤ harts
  pub known : is_known harts turns ≡ true
  pub short : before + length (turns_listed harts turns) ≤ most_turns

turns_pass : (none known short : Bool)
    → (if none then Some HartCount else if known then (if short then None else Some TooManyTurns)
    else Some NoSuchHart) ≡ None → (none ≡ false) × (known ≡ true) × (short ≡ true)
turns_pass false true true e = (refl, refl, refl)
turns_pass none known short e = cc

module _ (harts before : ℕ) (turns : PlannedTurns) where
  abbrev listed : ℕ
  listed = length (turns_listed harts turns)

  pub turns_allowed : rule_of_turns harts before turns ≡ None → Allowed harts before turns
  turns_allowed e =
      let p = turns_pass (harts == 0) (is_known harts turns) (nat_le (before + listed) most_turns) e in
      record { some = grind (arith, nat_tests, p.0); known = p.1; short = grind (arith, nat_tests, p.2) }

  pub breaks_none : Allowed harts before turns → rule_of_turns harts before turns ≡ None
  breaks_none a =
      let some : (harts == 0) ≡ false = grind (arith, nat_tests, a.some) in
      let short : nat_le (before + listed) most_turns ≡ true = grind (arith, nat_tests, a.short) in
      rw (some, a.known, short)

  pub breaks_hart_count : harts ≡ 0 → rule_of_turns harts before turns ≡ Some HartCount
  breaks_hart_count e =
      let none : (harts == 0) ≡ true = grind (arith, nat_tests, e) in
      rw none

  pub breaks_no_such_hart : 1 ≤ harts → is_known harts turns ≡ false
      → rule_of_turns harts before turns ≡ Some NoSuchHart
  breaks_no_such_hart h e =
      let some : (harts == 0) ≡ false = grind (arith, nat_tests, h) in
      rw (some, e)

  pub breaks_too_many : 1 ≤ harts → is_known harts turns ≡ true → most_turns < before + listed
      → rule_of_turns harts before turns ≡ Some TooManyTurns
  breaks_too_many h e long =
      let some : (harts == 0) ≡ false = grind (arith, nat_tests, h) in
      let many : nat_le (before + listed) most_turns ≡ false = grind (arith, nat_tests, long) in
      rw (some, e, many)

-- ---- how long the lists of turns are
suc_times : (n k : ℕ) → k + n * k ≡ suc n * k
suc_times n k = omega (arith, suc-mul n k)

pub length-repeat : (n : ℕ) (xs : List ℕ) → length (repeat n xs) ≡ n * length xs
length-repeat zero xs = sym (zero-mul (length xs))
length-repeat (suc n) xs = length-append xs (repeat n xs) ∙ ap (λ k. length xs + k) (length-repeat n xs)
    ∙ suc_times n (length xs)

pub length-rounds : (harts count : ℕ) → length (turns_listed harts (rounds count)) ≡ count * harts
length-rounds harts count = length-repeat count (range_with_len 0 harts)
    ∙ ap (λ k. count * k) (length-range_with_len 0 harts)

pub length-turns : (harts hart count : ℕ) → length (turns_listed harts (turns_of hart count)) ≡ count
length-turns harts hart count = length-replicate count hart

-- ---- numbers past the greatest `u64` break the rules that that number breaks
held_small : (n : ℕ) → n ≤ most_turns → held_number n ≡ n
held_small n small = omega arith

module _ (harts before : ℕ) where
  -- turns that break no rule are held as they are
  pub held_same : (turns : PlannedTurns) → harts ≤ 8 → Allowed harts before turns → held_turns turns ≡ turns
  held_same (turns_of hart count) few a =
      let here : hart < harts = grind (arith, nat_tests, a.known) in
      let short : count ≤ most_turns = omega (arith, a.short, length-turns harts hart count) in
      ap₂ turns_of (held_small hart (omega arith)) (held_small count short)
  held_same (rounds count) few a =
      let some : 0 < harts = omega (arith, a.some) in
      let short : count ≤ most_turns =
      omega (arith, a.short, length-rounds harts count, le-mul_of_pos_right count some) in
      ap rounds (held_small count short)

  abbrev IsHeld : PlannedTurns → Type 0
  IsHeld turns = rule_of_turns harts before (held_turns turns) ≡ rule_of_turns harts before turns

  -- turns of no rule broken, or too many
  by_length : (turns : PlannedTurns) → harts ≤ 8 → 1 ≤ harts → is_known harts turns ≡ true
      → is_known harts (held_turns turns) ≡ true
      → (most_turns < before + length (turns_listed harts turns)
      → most_turns < before + length (turns_listed harts (held_turns turns))) → IsHeld turns
  by_length turns few some known known_held longer =
      elim (cases_lt most_turns (before + length (turns_listed harts turns))) [
        | inl long ↦ breaks_too_many harts before (held_turns turns) some known_held (longer long)
            ∙ sym (breaks_too_many harts before turns some known long)
        | inr short ↦ ap (rule_of_turns harts before)
            (held_same turns few (record { some = some; known = known; short = short }))
      ]

  longer_turns : (hart count : ℕ) → most_turns < before + length (turns_listed harts (turns_of hart count))
      → most_turns < before + length (turns_listed harts (held_turns (turns_of hart count)))
  longer_turns hart count long =
      omega (arith, long, length-turns harts hart count, length-turns harts (held_number hart) (held_number count))

  longer_rounds : (count : ℕ) → 1 ≤ harts → most_turns < before + length (turns_listed harts (rounds count))
      → most_turns < before + length (turns_listed harts (held_turns (rounds count)))
  longer_rounds count some long =
      elim (cases_lt count (2 ^ 64 - 1)) [
        | inl h ↦ (let same : count ≡ held_number count = omega arith in
            subst (λ n. most_turns < before + length (turns_listed harts (rounds n))) same long)
        | inr h ↦ (let pos : 0 < harts = omega (arith, some) in
            let big : 2 ^ 64 - 1 ≤ held_number count = omega arith in
            omega (arith, big, length-rounds harts (held_number count), le-mul_of_pos_right (held_number count) pos))
      ]

  some_held : (turns : PlannedTurns) → harts ≤ 8 → 1 ≤ harts → IsHeld turns
  some_held (turns_of hart count) few some =
      elim (cases_lt hart harts) [
        | inl h ↦ (
            let known : nat_lt hart harts ≡ true = grind (arith, nat_tests, h) in
            let known_held : nat_lt (held_number hart) harts ≡ true = grind (arith, nat_tests, h) in
            by_length (turns_of hart count) few some known known_held (longer_turns hart count))
        | inr h ↦ (
            let unknown : nat_lt hart harts ≡ false = grind (arith, nat_tests, h) in
            let big : harts ≤ held_number hart = omega arith in
            let unknown_held : nat_lt (held_number hart) harts ≡ false = grind (arith, nat_tests, big) in
            breaks_no_such_hart harts before (held_turns (turns_of hart count)) some unknown_held
            ∙ sym (breaks_no_such_hart harts before (turns_of hart count) some unknown))
      ]
  some_held (rounds count) few some = by_length (rounds count) few some refl refl (longer_rounds count some)

  pub rule_held : (turns : PlannedTurns) → harts ≤ 8 → IsHeld turns
  rule_held turns few =
      elim (cases_lt 0 harts) [
        | inl h ↦ some_held turns few (omega arith)
        | inr h ↦ (let none : harts ≡ 0 = omega arith in breaks_hart_count harts before (held_turns turns) none
            ∙ sym (breaks_hart_count harts before turns none))
      ]
