-- The first statements of a body, as a list of them.
use Rattle.std.proofs.Common.{◌≡◌, ℕ, zero, suc, ◌-◌, ◌≤◌, min, List, [], ◌∷◌, take, drop, length, refl, ap, ◌∙◌}
use Rattle.std.proofs.Common.{arith}
use Rattle.std.proofs.lemmas.List.{take_all}
use Rattle.intervals.specs.Below.{first, flat_block, flat_tree, FlatStatement}
use Rattle.intervals.specs.Work.{behind, first_of}

pub first_taken : (m n : ℕ) (list : List FlatStatement) → m ≡ min (length list) n
    → flat_block (take m list) ≡ first_of n (flat_block list)
first_taken zero zero list is = refl
first_taken zero (suc n) [] is = refl
first_taken zero (suc n) (s ∷ rest) is = absurd (omega (arith, is))
first_taken (suc m) zero list is = absurd (omega (arith, is))
first_taken (suc m) (suc n) [] is = absurd (omega (arith, is))
first_taken (suc m) (suc n) (s ∷ rest) is = ap (first (flat_tree s)) (first_taken m n rest (omega (arith, is)))

left_over : (m n : ℕ) (list : List FlatStatement) → m ≡ min (length list) n
    → flat_block (drop m list) ≡ behind n (flat_block list)
left_over zero zero list is = refl
left_over zero (suc n) [] is = refl
left_over zero (suc n) (s ∷ rest) is = absurd (omega (arith, is))
left_over (suc m) zero list is = absurd (omega (arith, is))
left_over (suc m) (suc n) [] is = absurd (omega (arith, is))
left_over (suc m) (suc n) (s ∷ rest) is = left_over m n rest (omega (arith, is))

rest_length : (m : ℕ) (list : List FlatStatement) → m ≤ length list → length (drop m list) ≡ length list - m
rest_length zero list few = omega arith
rest_length (suc m) [] few = absurd (omega (arith, few))
rest_length (suc m) (s ∷ rest) few = omega (arith, few, rest_length m rest (omega (arith, few)))

pub left_behind : (m n : ℕ) (list : List FlatStatement) → m ≡ min (length list) n
    → flat_block (take (length list - m) (drop m list)) ≡ behind n (flat_block list)
left_behind m n list is =
    ap flat_block (take_all (length list - m) (drop m list) (omega (arith, is, rest_length m list (omega (arith, is)))))
    ∙ left_over m n list is
