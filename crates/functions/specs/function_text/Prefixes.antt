-- What may stand before the name of an export, as part of the name of its function.
use Rattle.std.specs.Prelude.{ℕ, Bool, true, List, [], ◌∷◌}
use Rattle.functions.specs.Below.{is_name_or_keyword}

-- nothing, or what a name of a source may be: letters, digits and `_`, with no digit first
unfoldable pub is_prefix : List ℕ → Bool
is_prefix [] = true
is_prefix (b ∷ bytes) = is_name_or_keyword (b ∷ bytes)
