-- Reading decimal digits with sums that stop at the greatest `u64`.
use Rattle.std.proofs.Common.{◌≡◌, ℕ, ◌+◌, ◌-◌, ◌*◌, ◌^◌, ◌<◌, ◌≤◌, min, true, false, nat_lt, if◌then◌else◌, List, []}
use Rattle.std.proofs.Common.{◌∷◌, length, get_or, drop, Option, Some, None, inl, inr, refl, sym, ap, ◌∙◌, arith}
use Rattle.std.proofs.lemmas.Bool.{cases_lt}
use Rattle.std.proofs.lemmas.Bool.Decides.{nat_tests}
use Rattle.std.proofs.lemmas.List.{at_drop_more, at_drop_all}
use Rattle.std.specs.Char.{digit_value}
use Rattle.std.specs.Option.{option_map}
use Rattle.input_files.specs.Below.{number_after, number_in}
use Rattle.input_files.specs.harts_file.private.Reading.{held_number}

-- a number, or the greatest `u64` in place of one past it
abbrev pub capped : Option ℕ → Option ℕ
capped number = option_map held_number number

same_scaled : (most a b v : ℕ) → min a most ≡ min b most → min (a * 10 + v) most ≡ min (b * 10 + v) most
same_scaled most a b v e =
    elim (cases_lt a most) [
      | inl h ↦ (let s : a ≡ b = omega arith in ap (λ n. min (n * 10 + v) most) s)
      | inr h ↦ omega arith
    ]

-- fronts that are one number up to the cap go on to one number up to the cap
number_after-capped : (a b : ℕ) (ds : List ℕ) → min a (2 ^ 64 - 1) ≡ min b (2 ^ 64 - 1)
    → capped (number_after 10 a ds) ≡ capped (number_after 10 b ds)
number_after-capped a b [] e = ap Some e
number_after-capped a b (d ∷ ds) e =
    elim (nat_lt (digit_value d) 10) as (λ t. capped (if t then number_after 10 (a * 10 + digit_value d) ds else None)
    ≡ capped (if t then number_after 10 (b * 10 + digit_value d) ds else None)) [
      | true ↦ number_after-capped (a * 10 + digit_value d) (b * 10 + digit_value d) ds
          (same_scaled (2 ^ 64 - 1) a b (digit_value d) e)
      | false ↦ refl
    ]

-- a digit is added to the front
number_after-digit : (front d : ℕ) (ds : List ℕ) → digit_value d < 10
    → number_after 10 front (d ∷ ds) ≡ number_after 10 (front * 10 + digit_value d) ds
number_after-digit front d ds h =
    let e : nat_lt (digit_value d) 10 ≡ true = grind (arith, nat_tests) in
    rw e

number_after-no_digit : (front d : ℕ) (ds : List ℕ) → 10 ≤ digit_value d → number_after 10 front (d ∷ ds) ≡ None
number_after-no_digit front d ds h =
    let e : nat_lt (digit_value d) 10 ≡ false = grind (arith, nat_tests) in
    rw e

capped_twice : (x v most : ℕ) → min (min (min x most + v) most) most ≡ min (x + v) most
capped_twice x v most = omega arith

-- one iteration of the loop over digits
pub number_after-iteration : (front i digit : ℕ) (ds : List ℕ) → i < length ds → digit_value (get_or ds i 0) < 10
    → digit ≡ digit_value (get_or ds i 0) → capped (number_after 10 front (drop i ds))
    ≡ capped (number_after 10 (min (min (front * 10) (2 ^ 64 - 1) + digit) (2 ^ 64 - 1)) (drop (i + 1) ds))
number_after-iteration front i digit ds h is_digit e =
    at_drop_more (λ rest. capped (number_after 10 front rest)) ds i 0 h
    ∙ ap capped (number_after-digit front (get_or ds i 0) (drop (i + 1) ds) is_digit)
    ∙ number_after-capped (front * 10 + digit_value (get_or ds i 0))
    (min (min (front * 10) (2 ^ 64 - 1) + digit) (2 ^ 64 - 1)) (drop (i + 1) ds)
    (ap (λ v. min (front * 10 + v) (2 ^ 64 - 1)) (sym e) ∙ sym (capped_twice (front * 10) digit (2 ^ 64 - 1)))

-- it ends at a byte that is no digit
pub number_after-stops : (front i : ℕ) (ds : List ℕ) → i < length ds → 10 ≤ digit_value (get_or ds i 0)
    → capped (number_after 10 front (drop i ds)) ≡ None
number_after-stops front i ds h no_digit =
    at_drop_more (λ rest. capped (number_after 10 front rest)) ds i 0 h
    ∙ ap capped (number_after-no_digit front (get_or ds i 0) (drop (i + 1) ds) no_digit)

-- and behind the last digit
pub number_after-ends : (front i : ℕ) (ds : List ℕ) → length ds ≤ i → front < 2 ^ 64
    → capped (number_after 10 front (drop i ds)) ≡ Some front
number_after-ends front i ds h fits =
    let e : min front (2 ^ 64 - 1) ≡ front = omega arith in
    at_drop_all (λ rest. capped (number_after 10 front rest)) ds i h ∙ ap Some e

pub number_in-after : (ds : List ℕ) → 0 < length ds → number_in 10 ds ≡ number_after 10 0 ds
number_in-after [] h = absurd (omega arith)
number_in-after (d ∷ ds) h = refl
