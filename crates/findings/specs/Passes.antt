-- Passes that are asked one after the other.
use Rattle.std.specs.Prelude.{List, [], ◌∷◌}
use Rattle.language.specs.declared.typing.Violation.{Violation}

-- what the first of two passes that finds anything finds
abbrev pub first_found : List Violation → List Violation → List Violation
first_found [] later = later
first_found (violation ∷ others) later = violation ∷ others
