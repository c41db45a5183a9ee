-- What the parts of a text between its commas say of its numbers.
use Rattle.std.proofs.Common.{◌≡◌, ◌≢◌, ℕ, ◌-◌, ◌^◌, ◌<◌, min, Bool, true, false, nat_le, ◌&&◌, if◌then◌else◌, ◌==◌}
use Rattle.std.proofs.Common.{List, [], ◌∷◌, length, Option, Some, None, refl, sym, ap, ◌∙◌, arith}
use Rattle.std.proofs.Math.Bool.{and-true, and_assoc}
use Rattle.std.specs.List.{fold, list_all}
use Rattle.std.specs.Option.{option_map, option_and_then}
use Rattle.std.proofs.lemmas.Bool.Decides.{Decides-eqb, Decides-like, same_from_decides, nat_tests}
use Rattle.std.proofs.lemmas.List.Folds.{fold_stays}
use Rattle.language.specs.declared.signature.Param.{Param}
use Rattle.language.specs.arguments.Within.{greatest_of}
use Rattle.language.specs.arguments.Faults.{rule_of_words}
use Rattle.language.specs.arguments.Texts.{number_of, each_number, count_of, rule_of_numbers}
use Rattle.language.specs.declared.arguments.fault.ArgumentRule.{ArgumentRule}
use Rattle.language.specs.declared.arguments.fault.ArgumentRule.TheVariants.{Shape, Value}
use Rattle.language.proofs.arguments_lemmas.NumberLemmas.{capped}
use Rattle.language.proofs.arguments_lemmas.FaultLemmas.{Decides-nat_le}

-- ---- whether all numbers are at most `most`
abbrev pub are_at_most : ℕ → List ℕ → Bool
are_at_most most numbers = list_all (λ number. nat_le number most) numbers

-- whether those of one part more are, where those before it say so
abbrev pub with_part : ℕ → Option Bool → List ℕ → Option Bool
with_part most all part =
    option_and_then (λ all. option_map (λ number. all && nat_le number most) (capped (number_of part))) all

nat_le-capped : (n most : ℕ) → most < 2 ^ 32 → nat_le (min n (2 ^ 64 - 1)) most ≡ nat_le n most
nat_le-capped n most small =
    same_from_decides (nat_le (min n (2 ^ 64 - 1)) most) (nat_le n most)
    (Decides-like (nat_le (min n (2 ^ 64 - 1)) most) (λ h. omega arith) (λ h. omega arith)
    (Decides-nat_le (min n (2 ^ 64 - 1)) most)) (Decides-nat_le n most)

one_more : (most n : ℕ) (all : Bool) (rest : Option (List ℕ)) → most < 2 ^ 32
    → option_map (λ numbers. (all && nat_le (min n (2 ^ 64 - 1)) most) && are_at_most most numbers) rest
    ≡ option_map (λ numbers. all && are_at_most most numbers) (option_map (λ numbers. n ∷ numbers) rest)
one_more most n all None small = refl
one_more most n all (Some numbers) small =
    ap (λ b. Some ((all && b) && are_at_most most numbers)) (nat_le-capped n most small)
    ∙ ap Some (and_assoc all (nat_le n most) (are_at_most most numbers))

-- and then those of more parts
pub fold-with_part : (most : ℕ) (all : Bool) (parts : List (List ℕ)) → most < 2 ^ 32
    → fold (with_part most) (Some all) parts
    ≡ option_map (λ numbers. all && are_at_most most numbers) (each_number parts)
fold-with_part most all [] small = ap Some (sym (and-true all))
fold-with_part most all (part ∷ parts) small =
    elim (number_of part) as (λ o. fold (with_part most) (option_map (λ n. all && nat_le n most) (capped o)) parts
    ≡ option_map (λ numbers. all && are_at_most most numbers)
    (option_and_then (λ number. option_map (λ numbers. number ∷ numbers) (each_number parts)) o)) [
      | None ↦ fold_stays (with_part most) None (λ _. refl) parts
      | Some n ↦ fold-with_part most (all && nat_le (min n (2 ^ 64 - 1)) most) parts small
          ∙ one_more most n all (each_number parts) small
    ]

-- ---- the rule that they break
-- where each part spells a number the first does, and the others do
pub record Splits (o : Option ℕ) (rest : Option (List ℕ)) (numbers : List ℕ) : Type 0 where
  pub first : ℕ
  pub others : List ℕ
  pub is_first : o ≡ Some first
  pub are_others : rest ≡ Some others
  pub same : first ∷ others ≡ numbers

pub splits : (o : Option ℕ) (rest : Option (List ℕ)) (numbers : List ℕ)
    → option_and_then (λ number. option_map (λ numbers. number ∷ numbers) rest) o ≡ Some numbers
    → Splits o rest numbers
splits None rest numbers e = cc
splits (Some n) None numbers e = cc
splits (Some n) (Some others) numbers e =
    record { first = n; others = others; is_first = refl; are_others = refl; same = cc }

-- there are as many as parts
length-each_number : (parts : List (List ℕ)) (numbers : List ℕ) → each_number parts ≡ Some numbers
    → length numbers ≡ length parts
length-each_number [] numbers e = cc
length-each_number (part ∷ parts) numbers e =
    let s = splits (number_of part) (each_number parts) numbers e in
    let later = length-each_number parts s.others s.are_others in
    omega (arith, later, ap length s.same)

-- the rule, by whether the numbers that there are are at most the greatest
abbrev pub rule_of_judged : Option Bool → Option ArgumentRule
rule_of_judged None = Some Shape
rule_of_judged (Some all) = if all then None else Some Value

module _ (param : Param) (parts : List (List ℕ)) where
  pub rule_of_numbers-miscounted : length parts ≢ count_of param.form param.length
      → rule_of_numbers param (each_number parts) ≡ Some Shape
  rule_of_numbers-miscounted differs = by (each_number parts) refl
    where
      by : (o : Option (List ℕ)) → each_number parts ≡ o → rule_of_numbers param o ≡ Some Shape
      by None e = refl
      by (Some numbers) e =
          let k = length-each_number parts numbers e in
          let apart : (length numbers == count_of param.form param.length) ≡ false = grind (arith, nat_tests) in
          ap (λ b. if b then rule_of_words param.kind numbers else Some Shape) apart

  -- with the right count it is told by whether the numbers are at most the greatest
  pub rule_of_numbers-counted : (judged : Option Bool) → length parts ≡ count_of param.form param.length
      → judged ≡ option_map (are_at_most (greatest_of param.kind)) (each_number parts)
      → rule_of_numbers param (each_number parts) ≡ rule_of_judged judged
  rule_of_numbers-counted judged l j = by (each_number parts) refl j
    where
      by : (o : Option (List ℕ)) → each_number parts ≡ o
          → judged ≡ option_map (are_at_most (greatest_of param.kind)) o
          → rule_of_numbers param o ≡ rule_of_judged judged
      by None e j = ap rule_of_judged (sym j)
      by (Some numbers) e j =
          let counted : (length numbers == count_of param.form param.length) ≡ true =
          (Decides-eqb (length numbers) (count_of param.form param.length)).1 (length-each_number parts numbers e
          ∙ l) in
          ap (λ b. if b then rule_of_words param.kind numbers else Some Shape) counted ∙ ap rule_of_judged (sym j)
