-- The end of a scope.
use Rattle.std.specs.Prelude.{ℕ, take}
use Rattle.language.specs.Types.{Scope}

-- the earliest so many of its names
abbrev pub shortened : ℕ → Scope → Scope
shortened count scope = record {
  profile = scope.profile;
  names = take count scope.names;
  places = take count scope.places;
}
