-- What of two results an observer may compare: the return where it is public, and the `mut` arrays whose elements
-- are.
use Rattle.std.specs.Prelude.{◌≡◌, ℕ, List, [], ◌∷◌, ◌++◌, drop, take, Option, if◌then◌else◌, IfSome}
use Rattle.language.specs.Results.{Results}
use Rattle.language.specs.Typing.{is_mutable}
use Rattle.language.specs.declared.signature.Label.{Label}
use Rattle.language.specs.declared.signature.Label.TheVariants.{Public, Secret}
use Rattle.language.specs.declared.signature.Param.{Param}
use Rattle.language.specs.declared.typing.WordType.{WordType}

-- the next array, where it is public
abbrev pub next_public : Label → List (List ℕ) → List (List ℕ)
next_public Public arrays = take 1 arrays
next_public Secret arrays = []

-- of the final arrays of the `mut` parameters, one for each, the public ones
abbrev pub public_arrays : List Param → List (List ℕ) → List (List ℕ)
public_arrays [] arrays = []
public_arrays (p ∷ ps) arrays =
    if is_mutable p.form then next_public p.label arrays ++ public_arrays ps (drop 1 arrays)
    else public_arrays ps arrays

-- two results of a program with these parameters and this type of its return are equal where they are public
pub record AgreeInPublic (parameters : List Param) (returned : Option WordType) (one other : Results) : Type 0 where
  pub returned_equal : IfSome returned (λ (word : WordType). word.label ≡ Public) → one.returned ≡ other.returned
  pub arrays_equal : public_arrays parameters one.arrays ≡ public_arrays parameters other.arrays
