-- The iterations that are counted for a program are counted for each of its loops.
use Rattle.std.proofs.Common.{◌≡◌, ℕ, false, ◌+◌, ◌<◌, ◌≤◌, List, length, slice_set, slice_index, refl, sym, ◌∙◌}
use Rattle.std.proofs.Common.{arith}
use Rattle.std.proofs.lemmas.List.{length-set, get_or-set_same, get_or-set_other}
use Rattle.std.proofs.lemmas.Option.{slice_get_within}
use Rattle.intervals.specs.Below.{AreNumbered, AreTyped, branch, counter_type, declarations_in, declarations_in_all}
use Rattle.intervals.specs.Below.{first, FlatBlock, FlatTree, FlatVariable, IsNumbered, IsTyped, joined, Label, loop}
use Rattle.intervals.specs.Below.{nothing, Types, types_after, with_type, word_as}
use Rattle.intervals.specs.Intervals.{Bounds, interval}
use Rattle.intervals.specs.Narrowing.{where_true, where_false}
use Rattle.intervals.specs.Ranges.{bounds_after, counted, counted_all, in_loop, most_iterations}
use Rattle.intervals.proofs.LooseStatements.{AreCounted, AllCounted}

-- what is set at a number is there, and others stay
set_here : (iterations : List ℕ) (x n : ℕ) → x < length iterations → slice_index (slice_set iterations x n) x ≡ n
set_here iterations x n h = get_or-set_same iterations x n 0 h

set_other : (iterations : List ℕ) (x n y : ℕ) → (y ≡ x → ⊥) → slice_index
    (slice_set iterations x n) y ≡ slice_index iterations y
set_other iterations x n y h = get_or-set_other iterations x y n 0 h

-- there are as many as before, and those of the numbers before n stay
record Stays (n : ℕ) (iterations after : List ℕ) : Type 0 where
  long : length after ≡ length iterations
  below : (y : ℕ) → y < n → slice_index after y ≡ slice_index iterations y

stays_twice : {n m : ℕ} {iterations middle after : List ℕ} → n ≤ m → Stays n iterations middle → Stays m middle after
    → Stays n iterations after
stays_twice more one other = record {
  long = other.long ∙ one.long;
  below = λ y less. other.below y (omega (arith, less, more)) ∙ one.below y less;
}

module _ (declared : List FlatVariable) where
  mutual
    stays : (s : FlatTree) (n : ℕ) (bounds : Bounds) (iterations : List ℕ) → IsNumbered n s
        → Stays n iterations (counted declared bounds iterations s)
    stays (branch label condition accepted otherwise) n bounds iterations numbered =
        stays_twice (omega arith) (stay accepted n (where_true declared bounds label condition) iterations numbered.0)
        (stay otherwise (n + declarations_in_all accepted) (where_false declared bounds label condition) _ numbered.1)
    stays (loop x low high body) n bounds iterations numbered =
        let most = most_iterations (interval declared bounds low) (interval declared bounds high) in
        stays_twice {m = n + 1} (omega arith) (record {
          long = length-set iterations x most;
          below = λ y less. set_other iterations x most y (λ same. omega (arith, same, numbered.0, less));
        }) (stay body (n + 1) (in_loop declared bounds x low high) (slice_set iterations x most) numbered.1)
    stays other n bounds iterations numbered = record { long = refl; below = λ y less. refl }

    stay : (b : FlatBlock) (n : ℕ) (bounds : Bounds) (iterations : List ℕ) → AreNumbered n b
        → Stays n iterations (counted_all declared bounds iterations b)
    stay nothing n bounds iterations numbered = record { long = refl; below = λ y less. refl }
    stay (first s rest) n bounds iterations numbered = stays_twice (omega arith)
        (stays s n bounds iterations numbered.0)
        (stay rest (n + declarations_in s) (bounds_after declared bounds s) _ numbered.1)

  -- a list that has what was counted at the numbers of a statement has enough for its loops
  abbrev HasOwn : List ℕ → ℕ → ℕ → List ℕ → Type 0
  HasOwn all n many iterations = (y : ℕ) → n ≤ y → y < n + many → slice_index all y ≡ slice_index iterations y

  module _ (all : List ℕ) where
    mutual
      enough : (s : FlatTree) (types : Types) (control : Label) (n : ℕ) (bounds : Bounds) (iterations : List ℕ)
          → IsTyped declared types control s → IsNumbered n s → length iterations ≡ length declared
          → HasOwn all n (declarations_in s) (counted declared bounds iterations s) → AreCounted declared all bounds s
      enough (branch label condition accepted otherwise) types control n bounds iterations typed numbered count own =
          let one = where_true declared bounds label condition in
          let other = where_false declared bounds label condition in
          let middle = counted_all declared one iterations accepted in (
            enough_all accepted types (joined label control) n one iterations typed.1 numbered.0 count
                (λ y low high. own y low (omega (arith, high))
                ∙ (stay otherwise (n + declarations_in_all accepted) other middle numbered.1).below y high),
            enough_all otherwise types (joined label control) (n + declarations_in_all accepted) other middle typed.2
                numbered.1 ((stay accepted n one iterations numbered.0).long ∙ count)
                (λ y low high. own y (omega (arith, low)) (omega (arith, high))),
          )
      enough (loop x low high body) types control n bounds iterations typed numbered count own =
          let inside = in_loop declared bounds x low high in
          let most = most_iterations (interval declared bounds low) (interval declared bounds high) in
          let set = slice_set iterations x most in
          let listed = slice_get_within declared x (word_as counter_type false) typed.2.listed in
          let here : slice_index all x ≡ most =
          own x (omega (arith, numbered.0)) (omega (arith, numbered.0))
          ∙ ((stay body (n + 1) inside set numbered.1).below x (omega (arith, numbered.0))
          ∙ set_here iterations x most (omega (arith, listed, count))) in (
            sym here,
            enough_all body (with_type types x (word_as counter_type false)) control (n + 1) inside set typed.3
                numbered.1 (length-set iterations x most ∙ count)
                (λ y least below. own y (omega (arith, least)) (omega (arith, below))),
          )
      enough other types control n bounds iterations typed numbered count own = tt

      pub enough_all : (b : FlatBlock) (types : Types) (control : Label) (n : ℕ) (bounds : Bounds) (iterations : List ℕ)
          → AreTyped declared types control b → AreNumbered n b → length iterations ≡ length declared
          → HasOwn all n (declarations_in_all b) (counted_all declared bounds iterations b)
          → AllCounted declared all bounds b
      enough_all nothing types control n bounds iterations typed numbered count own = tt
      enough_all (first s rest) types control n bounds iterations typed numbered count own =
          let after = counted declared bounds iterations s in (
            enough s types control n bounds iterations typed.0 numbered.0 count
                (λ y low high. own y low (omega (arith, high))
                ∙ (stay rest (n + declarations_in s) (bounds_after declared bounds s) after numbered.1).below y high),
            enough_all rest (types_after types s) control (n + declarations_in s) (bounds_after declared bounds s)
                after typed.1 numbered.1 ((stays s n bounds iterations numbered.0).long ∙ count)
                (λ y low high. own y (omega (arith, low)) (omega (arith, high))),
          )
