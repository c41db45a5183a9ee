-- Each rule has a row among the explanations.
use Rattle.std.proofs.Common.{◌≡◌, true, Contains, refl}
use Rattle.std.proofs.lemmas.Map.Views.{Contains-from_any}
use Rattle.std.proofs.lemmas.Slice.Eq.{bytes_eq-Decides}
use Rattle.std.specs.List.{list_any}
use Rattle.std.specs.Str.{bytes_eq}
use Rattle.explanations.specs.Listed.{reading, names, types, names_and_types, labels, limits, inputs, executables, files}
use Rattle.explanations.specs.Listed.{runs, listed}
use Rattle.explanations.specs.Below.{code_of, Rule, UnknownCharacter}

is_found : (rule : Rule) → list_any (bytes_eq (code_of rule)) listed ≡ true
unfolding listed reading names types names_and_types labels limits inputs executables files runs
is_found UnknownCharacter = refl
is_found _ = refl

pub is_listed : (rule : Rule) → Contains listed (code_of rule)
is_listed rule =
    Contains-from_any (λ x y. (bytes_eq-Decides x y).0) (code_of rule) listed (is_found rule)
