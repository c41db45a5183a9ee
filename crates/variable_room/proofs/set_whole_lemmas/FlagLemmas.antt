-- Two lists of numbers that are the same wherever flags say that an element was set.
use Rattle.std.proofs.Common.{◌≡◌, ℕ, zero, suc, Bool, true, false, List, [], ◌∷◌, length, replicate, None, Some}
use Rattle.std.proofs.Common.{slice_index, slice_set, refl, ap₂, arith, true≢false}
use Rattle.std.proofs.lemmas.Bool.{and_parts, false≢true}
use Rattle.variable_room.specs.set_whole.Watching.{all_set, Flags, is_set}

-- as many elements as flags, and the same where the flag is true
pub data AreSameWhere : Flags → List ℕ → List ℕ → Type 0 where
  at_end : AreSameWhere [] [] []
  one_more : {flag : Bool} {flags : Flags} {v w : ℕ} {vs ws : List ℕ} → (flag ≡ true → v ≡ w)
      → AreSameWhere flags vs ws → AreSameWhere (flag ∷ flags) (v ∷ vs) (w ∷ ws)

pub same_at : {flags : Flags} {vs ws : List ℕ} → AreSameWhere flags vs ws → (i : ℕ) → is_set flags (Some i) ≡ true
    → slice_index vs i ≡ slice_index ws i
same_at at_end i is = refl
same_at (one_more here rest) zero is = here is
same_at (one_more here rest) (suc i) is = same_at rest i is

pub same_all : {flags : Flags} {vs ws : List ℕ} → AreSameWhere flags vs ws → all_set flags ≡ true → vs ≡ ws
same_all at_end all = refl
same_all (one_more {flag} {flags} here rest) all =
    let parts = and_parts flag (all_set flags) all in
    ap₂ (λ (v : ℕ) (vs : List ℕ). v ∷ vs) (here parts.0) (same_all rest parts.1)

-- an element is set to the same in both, and then it was set
pub same_set : {flags : Flags} {vs ws : List ℕ} → AreSameWhere flags vs ws → (i v : ℕ)
    → AreSameWhere (slice_set flags i true) (slice_set vs i v) (slice_set ws i v)
same_set at_end i v = at_end
same_set (one_more here rest) zero v = one_more (λ is. refl) rest
same_set (one_more here rest) (suc i) v = one_more here (same_set rest i v)

-- or whether it was is not known
pub same_put : {flags : Flags} {vs ws : List ℕ} → AreSameWhere flags vs ws → (i v : ℕ)
    → AreSameWhere flags (slice_set vs i v) (slice_set ws i v)
same_put at_end i v = at_end
same_put (one_more here rest) zero v = one_more (λ is. refl) rest
same_put (one_more here rest) (suc i) v = one_more here (same_put rest i v)

-- one list is the same as itself
pub same_list : (flags : Flags) (vs : List ℕ) → length vs ≡ length flags → AreSameWhere flags vs vs
same_list [] [] count = at_end
same_list [] (v ∷ vs) count = absurd (omega (arith, count))
same_list (flag ∷ flags) [] count = absurd (omega (arith, count))
same_list (flag ∷ flags) (v ∷ vs) count = one_more (λ is. refl) (same_list flags vs (omega (arith, count)))

-- nothing is known of two lists where nothing was set
pub same_nowhere : (n : ℕ) (vs ws : List ℕ) → length vs ≡ n → length ws ≡ n → AreSameWhere (replicate n false) vs ws
same_nowhere zero [] [] count also = at_end
same_nowhere zero [] (w ∷ ws) count also = absurd (omega (arith, also))
same_nowhere zero (v ∷ vs) ws count also = absurd (omega (arith, count))
same_nowhere (suc n) [] ws count also = absurd (omega (arith, count))
same_nowhere (suc n) (v ∷ vs) [] count also = absurd (omega (arith, also))
same_nowhere (suc n) (v ∷ vs) (w ∷ ws) count also =
    one_more (λ is. absurd (false≢true is)) (same_nowhere n vs ws (omega (arith, count)) (omega (arith, also)))

-- What was set stays set.

pub data Grows : Flags → Flags → Type 0 where
  grown : Grows [] []
  grows : {one other : Bool} {ones others : Flags} → (one ≡ true → other ≡ true) → Grows ones others
      → Grows (one ∷ ones) (other ∷ others)

pub grows_not : (flags : Flags) → Grows flags flags
grows_not [] = grown
grows_not (flag ∷ flags) = grows (λ is. is) (grows_not flags)

pub grows_on : {one other last : Flags} → Grows one other → Grows other last → Grows one last
grows_on grown grown = grown
grows_on (grows here rest) (grows then later) = grows (λ is. then (here is)) (grows_on rest later)

pub grows_set : (flags : Flags) (i : ℕ) → Grows flags (slice_set flags i true)
grows_set [] i = grown
grows_set (flag ∷ flags) zero = grows (λ is. refl) (grows_not flags)
grows_set (flag ∷ flags) (suc i) = grows (λ is. is) (grows_set flags i)

pub grows_whole : (flags : Flags) → Grows flags (replicate (length flags) true)
grows_whole [] = grown
grows_whole (flag ∷ flags) = grows (λ is. refl) (grows_whole flags)

pub same_less : {one other : Flags} {vs ws : List ℕ} → Grows one other → AreSameWhere other vs ws
    → AreSameWhere one vs ws
same_less grown at_end = at_end
same_less (grows here rest) (one_more same others) = one_more (λ is. same (here is)) (same_less rest others)
