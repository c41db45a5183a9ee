-- Two shifts, one up and one down, leave the bits that a shift and a mask leave.
use Rattle.std.proofs.Common.{◌≡◌, ℕ, ◌+◌, ◌-◌, ◌*◌, ◌/◌, ◌%◌, ◌^◌, ◌==◌, ◌<◌, ◌≤◌, ◌&&◌, ◌||◌, Bool, true, nat_le}
use Rattle.std.proofs.Common.{nat_lt, bit_and, Option, None, Some, IfSome, ⊎_elim, refl, sym, ap, ap₂, ◌∙◌, arith}
use Rattle.std.proofs.Math.Nat.{div-le_self, mod-eq_of_lt, mod-le, mul-div-mul_right}
use Rattle.std.proofs.lemmas.Bool.{and_parts, cond_both, eqb-true, ltb-true, or_cases}
use Rattle.std.proofs.lemmas.Nat.{and_mask, div-mul-add, mod-pow-add, mod_below, pow-add, pow_pos}
use Rattle.std.specs.Int.Count.{count_leading_zeros}
use Rattle.optimisation.specs.Below.{binary, number, Place, shifted_left, shifted_right, ShiftLeft, TermTree, value_in}
use Rattle.optimisation.specs.Below.{Values, W32, Width}
use Rattle.optimisation.specs.declared.constants.known.Constant.{Constant}
use Rattle.optimisation.specs.declared.constants.fields.BitField.{BitField}
use Rattle.optimisation.specs.constants.private.Fields.{cleared_by, field_within, lifted, moved}

-- a word that goes up, or stays
pub lifted_by : (P : TermTree → Type 0) (place : Place) (w : Width) (word : TermTree) (field : BitField)
    → (field.up ≡ 0 → P word) → P (binary place ShiftLeft w word (number field.up field.kind))
    → P (lifted place w word field)
lifted_by P place w word field stays goes =
    cond_both (field.up == 0) word (binary place ShiftLeft w word (number field.up field.kind)) P
    (λ is. stays (eqb-true field.up 0 is)) (λ is. goes)

-- Masks.

-- where bits go up and then down that a mask leaves, behind a shift by an amount
pub record IsField (amount : Constant) (n : ℕ) (field : BitField) : Type 0 where
  pub ones : n + 1 ≡ 2 ^ (32 - field.down)
  pub few : field.down < 32
  pub reach : amount.value + field.up ≡ field.down

-- a mask that is ones alone
record IsMask (n others : ℕ) : Type 0 where
  ones : n + 1 ≡ 2 ^ (32 - others)
  few : others < 32

is_mask : (n : ℕ) → IfSome (cleared_by n) (IsMask n)
is_mask n =
    let others = count_leading_zeros 32 n in
    let test = nat_lt others 32 && (n + 1 == 2 ^ (32 - others)) in
    cond_both test (Some others) None (λ o. IfSome o (IsMask n))
    (λ is.
    let parts = and_parts (nat_lt others 32) (n + 1 == 2 ^ (32 - others)) is in
    record { ones = eqb-true (n + 1) (2 ^ (32 - others)) parts.1; few = ltb-true others 32 parts.0 })
    (λ is. tt)

at_most : (b others : ℕ) (long : Bool) → (b == others || (nat_lt b others && long)) ≡ true → b ≤ others
at_most b others long is =
    ⊎_elim (λ same. omega (arith, eqb-true b others same))
    (λ less. omega (arith, ltb-true b others (and_parts (nat_lt b others) long less).0))
    (or_cases (b == others) (nat_lt b others && long) is)

pub is_field : (amount : Constant) (n : ℕ) → IfSome (field_within amount n (cleared_by n)) (IsField amount n)
is_field amount n = by_mask (cleared_by n) (is_mask n)
  where
    by_mask : (o : Option ℕ) → IfSome o (IsMask n) → IfSome (field_within amount n o) (IsField amount n)
    by_mask None mask = tt
    by_mask (Some others) mask =
        let b = amount.value in
        cond_both (b == others || (nat_lt b others && nat_le 2048 n)) _ None (λ o. IfSome o (IsField amount n))
        (λ is. record {
          ones = mask.ones;
          few = mask.few;
          reach = omega (arith, at_most b others (nat_le 2048 n) is);
        })
        (λ is. tt)

-- Words.

-- bits that are moved down are the low ones of what goes down
low_of : (x k down : ℕ) → x % 2 ^ (k + down) / 2 ^ down ≡ x / 2 ^ down % 2 ^ k
low_of x k down =
    ap (λ n. n / 2 ^ down) (mod-pow-add x k down)
    ∙ div-mul-add (x / 2 ^ down % 2 ^ k) (2 ^ down) (x % 2 ^ down) (mod_below x (2 ^ down) (pow_pos down))

moved_on : (v b up : ℕ) → v * 2 ^ up / 2 ^ (b + up) ≡ v / 2 ^ b
moved_on v b up = ap (λ n. v * 2 ^ up / n) (pow-add 2 b up) ∙ mul-div-mul_right v (2 ^ b) (pow_pos up)

two_shifts : (v n b up down : ℕ) → v < 2 ^ 32 → n + 1 ≡ 2 ^ (32 - down) → down < 32 → b + up ≡ down
    → shifted_right W32 (shifted_left W32 v up) down ≡ bit_and (shifted_right W32 v b) n
two_shifts v n b up down fits ones few reach =
    let k = 32 - down in
    let x = v / 2 ^ b in
    let whole : k + (b + up) ≡ 32 = omega (arith, few, reach) in
    let below : x < 2 ^ 32 = omega (arith, fits, div-le_self v (2 ^ b)) in
    let mask : n ≡ 2 ^ k - 1 = omega (arith, ones) in
    let low : v * 2 ^ up % 2 ^ 32 / 2 ^ down ≡ x % 2 ^ k =
    ap (λ j. v * 2 ^ up % 2 ^ j / 2 ^ down) (sym whole)
    ∙ (ap (λ j. v * 2 ^ up % 2 ^ (k + (b + up)) / 2 ^ j) (sym reach)
    ∙ (low_of (v * 2 ^ up) k (b + up) ∙ ap (λ y. y % 2 ^ k) (moved_on v b up))) in
    let small : x % 2 ^ k % 2 ^ 32 ≡ x % 2 ^ k = omega (arith, below, mod-le x (2 ^ k)) in
    let first : up % 32 ≡ up = omega (arith, few, reach) in
    let second : down % 32 ≡ down = omega (arith, few) in
    let amount : b % 32 ≡ b = omega (arith, few, reach) in
    let masked : bit_and (shifted_right W32 v b) n ≡ x % 2 ^ k =
    ap (λ j. bit_and (v / 2 ^ j % 2 ^ 32) n) amount
    ∙ (ap (λ y. bit_and y n) (mod-eq_of_lt below) ∙ (ap (bit_and x) mask ∙ and_mask x k)) in
    ap₂ (λ i j. v * 2 ^ i % 2 ^ 32 / 2 ^ j % 2 ^ 32) first second
    ∙ (ap (λ y. y % 2 ^ 32) low ∙ (small ∙ sym masked))

unmoved : (v : ℕ) → v < 2 ^ 32 → shifted_left W32 v 0 ≡ v
unmoved v fits = omega arith

module _ (m : Values) where
  lifted_value : (place : Place) (word : TermTree) (field : BitField) → value_in m word < 2 ^ 32
      → value_in m (lifted place W32 word field) ≡ shifted_left W32 (value_in m word) field.up
  lifted_value place word field fits =
      lifted_by (λ e. value_in m e ≡ shifted_left W32 (value_in m word) field.up) place W32 word field
      (λ zero. sym (ap (shifted_left W32 (value_in m word)) zero ∙ unmoved (value_in m word) fits)) refl

  -- two shifts have the value that the operators have
  pub moved_value : (place : Place) (word amount right : TermTree) (by : Constant) (n : ℕ) (field : BitField)
      → value_in m word < 2 ^ 32 → value_in m amount ≡ by.value → value_in m right ≡ n
      → IsField by n field
      → value_in m (moved place W32 word field)
      ≡ bit_and (shifted_right W32 (value_in m word) (value_in m amount)) (value_in m right)
  moved_value place word amount right by n field below is also found =
      let v = value_in m word in
      ap (λ x. shifted_right W32 x field.down) (lifted_value place word field below)
      ∙ (two_shifts v n by.value field.up field.down below found.ones found.few found.reach
      ∙ ap₂ (λ x y. bit_and (shifted_right W32 v x) y) (sym is) (sym also))
