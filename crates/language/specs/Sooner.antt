-- The first of the violations seen so far, kept as they come.
use Rattle.std.specs.Prelude.{Bool, true, ◌==◌, ◌&&◌, ◌||◌, nat_lt, Option, None, Some, if◌then◌else◌}
use Rattle.language.specs.declared.typing.Violation.{Violation}
use Rattle.language.specs.Rules.{rank_of}

-- whether u is named rather than v
abbrev pub comes_before : Violation → Violation → Bool
comes_before u v =
    nat_lt u.place.offset v.place.offset
    || ((u.place.offset == v.place.offset) && nat_lt (rank_of u.rule) (rank_of v.rule))

-- whether it is named rather than the first so far
abbrev pub is_sooner : Option Violation → Violation → Bool
is_sooner None v = true
is_sooner (Some u) v = comes_before v u

-- the first of those so far and of one more
abbrev pub sooner : Option Violation → Violation → Option Violation
sooner None v = Some v
sooner (Some u) v = if comes_before v u then Some v else Some u
