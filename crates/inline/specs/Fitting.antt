-- Values within the types of their variables.
use Rattle.std.specs.Prelude.{◌≡◌, ℕ, ◌^◌, ◌<◌, List, length, All, Some}
use Rattle.inline.specs.declared.flat.FlatVariable.{FlatVariable}
use Rattle.inline.specs.Flat.{numbers_in}
use Rattle.inline.specs.FlatMeaning.{Values}
use Rattle.inline.specs.FlatTyping.{Types}
use Rattle.inline.specs.Below.{bits_of, Kind}

-- a bool is 0 or 1, and a number is below 2 to its width
abbrev pub IsWithinKind : Kind → ℕ → Type 0
IsWithinKind kind v = v < 2 ^ bits_of kind

-- as many numbers as are declared, each within their kind
pub record IsHeld (d : FlatVariable) (numbers : List ℕ) : Type 0 where
  pub count : length numbers ≡ numbers_in d.elements
  pub within : All (IsWithinKind d.word.kind) numbers

-- each variable in scope holds what it is declared as
abbrev pub Fits : Types → Values → Type 0
Fits types m = (x : ℕ) (d : FlatVariable) → types.at x ≡ Some d → IsHeld d (m x)
