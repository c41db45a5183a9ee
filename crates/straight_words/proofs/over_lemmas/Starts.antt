-- What variables hold at first where there are more of them; and which arrays are results.
use Rattle.std.proofs.Common.{◌≡◌, ℕ, zero, suc, ◌+◌, ◌<◌, ◌≤◌, List, [], ◌∷◌, ◌++◌, drop, length, Some, slice_get}
use Rattle.std.proofs.Common.{refl, ap, ap₂, arith}
use Rattle.std.proofs.lemmas.Option.{none-some}
use Rattle.straight_words.specs.Below.{Arg, array_of, arrays_from, FlatVariable, given, Param, Values}

pub given_front : (declared more : List FlatVariable) (args : List Arg) (y : ℕ) (d : FlatVariable)
    → slice_get declared y ≡ Some d → given (declared ++ more) args y ≡ given declared args y
given_front [] more args y d there = absurd (none-some d there)
given_front (e ∷ declared) more [] zero d there = refl
given_front (e ∷ declared) more (arg ∷ args) zero d there = refl
given_front (e ∷ declared) more args (suc y) d there = given_front declared more (drop 1 args) y d there

-- the arrays of parameters that hold the same
pub same_arrays : (x : ℕ) (params : List Param) (m k : Values)
    → ((y : ℕ) → x ≤ y → y < x + length params → k y ≡ m y) → arrays_from x params k ≡ arrays_from x params m
same_arrays x [] m k same = refl
same_arrays x (p ∷ params) m k same =
    ap₂ (λ (a b : List (List ℕ)). a ++ b) (ap (array_of p.form) (same x (omega arith) (omega arith)))
    (same_arrays (x + 1) params m k (λ y from to. same y (omega arith) (omega arith)))
