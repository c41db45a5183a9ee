-- What is kept of the arrays that the arguments of a call are, each with the place of the first parameter for which it
-- is given.
use Rattle.std.specs.Prelude.{ℕ, Bool, List, Option, Some, None, if◌then◌else◌}
use Rattle.labels.specs.Below.{Place}
use Rattle.language.specs.names.Scope.{declared, found}

-- arrays with one more argument's, where it is one
abbrev pub with_array : List (List ℕ × Place) → Option (List ℕ) → Place → List (List ℕ × Place)
with_array names (Some name) place = declared names name place
with_array names None place = names

-- the same of those that may be changed
abbrev pub with_changed : List (List ℕ × Place) → Bool → Option (List ℕ) → Place → List (List ℕ × Place)
with_changed names mutable (Some name) place = if mutable then declared names name place else names
with_changed names mutable None place = names

-- the first parameter for which an argument was given before, where that or this one may change it
abbrev pub given_before : List (List ℕ × Place) → List (List ℕ × Place) → Bool → Option (List ℕ) → Option Place
given_before given changed mutable (Some name) = if mutable then found given name else found changed name
given_before given changed mutable None = None
