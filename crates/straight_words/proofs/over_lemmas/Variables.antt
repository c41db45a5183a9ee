-- The variables of a list but for one; and a word is no array.
use Rattle.std.proofs.Common.{◌≡◌, ℕ, ◌==◌, Bool, true, false, if◌then◌else◌, List, Option, None, Some, slice_get, sym}
use Rattle.std.proofs.Common.{◌∙◌}
use Rattle.std.proofs.lemmas.Bool.{cond-true, eq-eqb}
use Rattle.std.proofs.lemmas.Option.{none-some}
use Rattle.straight_words.specs.Below.{FlatVariable}

-- the variables of a list but for one
abbrev pub but : List FlatVariable → ℕ → ℕ → Option FlatVariable
but declared x y = if y == x then None else slice_get declared y

pub but_within : (declared : List FlatVariable) (x y : ℕ) (d : FlatVariable) → but declared x y ≡ Some d
    → slice_get declared y ≡ Some d
but_within declared x y d = by_number (y == x)
  where
    by_number : (b : Bool) → (if b then None else slice_get declared y) ≡ Some d → slice_get declared y ≡ Some d
    by_number true h = absurd (none-some d h)
    by_number false h = h

pub but_apart : (declared : List FlatVariable) (x y : ℕ) (d : FlatVariable) → but declared x y ≡ Some d → y ≡ x → ⊥
but_apart declared x y d there same =
    none-some d (sym (cond-true (y == x) None (slice_get declared y) (eq-eqb y x same)) ∙ there)
