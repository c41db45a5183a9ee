-- Reading digits with sums that stop at the greatest `u64`.
use Rattle.std.proofs.Common.{◌≡◌, ℕ, ◌+◌, ◌-◌, ◌*◌, ◌^◌, ◌<◌, ◌≤◌, min, true, false, nat_lt, if◌then◌else◌, List, []}
use Rattle.std.proofs.Common.{◌∷◌, length, get_or, drop, Option, Some, None, codes, subst, inl, inr, refl, sym, ap}
use Rattle.std.proofs.Common.{◌∙◌, arith}
use Rattle.std.proofs.Math.Nat.{le-mul_of_pos_right}
use Rattle.std.proofs.lemmas.Bool.{cases_lt}
use Rattle.std.proofs.lemmas.Bool.Decides.{nat_tests}
use Rattle.std.proofs.lemmas.List.{at_drop_more, at_drop_all}
use Rattle.std.proofs.lemmas.Str.Pattern.{starts_text}
use Rattle.std.specs.Str.{IsCharBoundary}
use Rattle.std.specs.Str.Pattern.{FindsTextPrefix, StripsPrefix}
use Rattle.std.specs.Char.{digit_value}
use Rattle.std.specs.Option.{option_map}
use Rattle.language.specs.arguments.Texts.{number_after, number_in, number_of}

-- a number, or the greatest `u64` in place of one past it
abbrev pub capped : Option ℕ → Option ℕ
capped number = option_map (λ n. min n (2 ^ 64 - 1)) number

same_scaled : (most base a b v : ℕ) → 0 < base → min a most ≡ min b most
    → min (a * base + v) most ≡ min (b * base + v) most
same_scaled most base a b v pos e =
    elim (cases_lt a most) [
      | inl h ↦ (let s : a ≡ b = omega arith in ap (λ n. min (n * base + v) most) s)
      | inr h ↦ (let p = le-mul_of_pos_right a pos in let q = le-mul_of_pos_right b pos in omega (arith, p, q))
    ]

-- fronts that are one number up to the cap go on to one number up to the cap
number_after-capped : (base a b : ℕ) (ds : List ℕ) → 0 < base → min a (2 ^ 64 - 1) ≡ min b (2 ^ 64 - 1)
    → capped (number_after base a ds) ≡ capped (number_after base b ds)
number_after-capped base a b [] pos e = ap Some e
number_after-capped base a b (d ∷ ds) pos e =
    elim (nat_lt (digit_value d) base) as
    (λ t. capped (if t then number_after base (a * base + digit_value d) ds else None)
    ≡ capped (if t then number_after base (b * base + digit_value d) ds else None)) [
      | true ↦ number_after-capped base (a * base + digit_value d) (b * base + digit_value d) ds pos
          (same_scaled (2 ^ 64 - 1) base a b (digit_value d) pos e)
      | false ↦ refl
    ]

-- a digit is added to the front
number_after-digit : (base front d : ℕ) (ds : List ℕ) → digit_value d < base
    → number_after base front (d ∷ ds) ≡ number_after base (front * base + digit_value d) ds
number_after-digit base front d ds h =
    let e : nat_lt (digit_value d) base ≡ true = grind (arith, nat_tests) in
    rw e

number_after-no_digit : (base front d : ℕ) (ds : List ℕ) → base ≤ digit_value d
    → number_after base front (d ∷ ds) ≡ None
number_after-no_digit base front d ds h =
    let e : nat_lt (digit_value d) base ≡ false = grind (arith, nat_tests) in
    rw e

capped_twice : (x v most : ℕ) → min (min (min x most + v) most) most ≡ min (x + v) most
capped_twice x v most = omega arith

-- one iteration of the loop over digits
pub number_after-iteration : (base front i digit : ℕ) (ds : List ℕ) → 2 ≤ base → i < length ds
    → digit_value (get_or ds i 0) < base → digit ≡ digit_value (get_or ds i 0)
    → capped (number_after base front (drop i ds))
    ≡ capped (number_after base (min (min (front * base) (2 ^ 64 - 1) + digit) (2 ^ 64 - 1)) (drop (i + 1) ds))
number_after-iteration base front i digit ds two h is_digit e =
    at_drop_more (λ rest. capped (number_after base front rest)) ds i 0 h
    ∙ ap capped (number_after-digit base front (get_or ds i 0) (drop (i + 1) ds) is_digit)
    ∙ number_after-capped base (front * base + digit_value (get_or ds i 0))
    (min (min (front * base) (2 ^ 64 - 1) + digit) (2 ^ 64 - 1)) (drop (i + 1) ds) (omega arith)
    (ap (λ v. min (front * base + v) (2 ^ 64 - 1)) (sym e)
    ∙ sym (capped_twice (front * base) digit (2 ^ 64 - 1)))

-- it ends at a byte that is no digit
pub number_after-stops : (base front i : ℕ) (ds : List ℕ) → i < length ds → base ≤ digit_value (get_or ds i 0)
    → capped (number_after base front (drop i ds)) ≡ None
number_after-stops base front i ds h no_digit =
    at_drop_more (λ rest. capped (number_after base front rest)) ds i 0 h
    ∙ ap capped (number_after-no_digit base front (get_or ds i 0) (drop (i + 1) ds) no_digit)

-- and behind the last digit
pub number_after-ends : (base front i : ℕ) (ds : List ℕ) → length ds ≤ i → front < 2 ^ 64
    → capped (number_after base front (drop i ds)) ≡ Some front
number_after-ends base front i ds h fits =
    let e : min front (2 ^ 64 - 1) ≡ front = omega arith in
    at_drop_all (λ rest. capped (number_after base front rest)) ds i h ∙ ap Some e

pub number_in-after : (base : ℕ) (ds : List ℕ) → 0 < length ds → number_in base ds ≡ number_after base 0 ds
number_in-after base [] h = absurd (omega arith)
number_in-after base (d ∷ ds) h = refl

-- a text that begins with `0x`, and one that does not
pub number_of-hexadecimal : (text digits : List ℕ) → StripsPrefix (FindsTextPrefix (codes "0x")) text digits
    → number_of text ≡ number_in 16 digits
number_of-hexadecimal text digits (n, found, rest, long) =
    let two : n ≡ 2 = found.0 in
    let starts = starts_text true (codes "0x") text
    (n, found, subst (λ k. IsCharBoundary text k) (sym two) found.2) in
    ap (λ b. if b then number_in 16 (drop 2 text) else number_in 10 text) (sym starts)
    ∙ ap (number_in 16) (ap (λ k. drop k text) (sym two) ∙ sym rest)

pub number_of-decimal : (text : List ℕ) → FindsTextPrefix (codes "0x") text None → number_of text ≡ number_in 10 text
number_of-decimal text lacks =
    let starts = starts_text false (codes "0x") text lacks in
    ap (λ b. if b then number_in 16 (drop 2 text) else number_in 10 text) (sym starts)
