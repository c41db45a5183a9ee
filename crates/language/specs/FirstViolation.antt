-- Which of several violations is named: that of least place, and of those at one place the rule that comes first.
use Rattle.std.specs.Prelude.{◌≡◌, ◌<◌, ◌≤◌, ◌⊎◌, List, Option, None, Some, Contains, All, fold}
use Rattle.word.specs.declared.place.Place.{Place}
use Rattle.language.specs.declared.refusal.Refusal.{Refusal}
use Rattle.language.specs.declared.rule.Rule.{Rule}
use Rattle.language.specs.declared.typing.Violation.{Violation}
use Rattle.language.specs.Rules.{rank_of}
use Rattle.language.specs.Sooner.{sooner}
use Rattle.language.specs.WantOfMemory.{IsWantOfMemory}

-- u is named rather than v
abbrev pub IsNoLaterThan : Violation → Violation → Type 0
IsNoLaterThan u v =
    (u.place.offset < v.place.offset) ⊎ ((u.place.offset ≡ v.place.offset) × (rank_of u.rule ≤ rank_of v.rule))

-- it is one of them, and none of them comes before it
pub record IsFirst (all : List Violation) (first : Violation) : Type 0 where
  pub there : Contains all first
  pub least : All (IsNoLaterThan first) all

-- the refusal says out of memory, and has no place, or its rule and place are those of the first of the violations
abbrev pub IsRefusedFor : List Violation → Rule → Option Place → Type 0
IsRefusedFor all rule place =
    IsWantOfMemory rule place ⊎ ((first : Violation) × IsFirst all first × (rule ≡ first.rule)
    × (place ≡ Some first.place))

-- of these, as they come, it is the first that is named
abbrev pub IsNamed : List Violation → Violation → Type 0
IsNamed all first = fold sooner None all ≡ Some first

-- the refusal tells of the violation: its rule, its place, and why
pub record TellsOf (refusal : Refusal) (violation : Violation) : Type 0 where
  pub rule : refusal.rule ≡ violation.rule
  pub place : refusal.place ≡ Some violation.place
  pub why : refusal.why ≡ violation.why

-- the refusal says out of memory, or it tells of the first of these
abbrev pub IsToldOf : List Violation → Refusal → Type 0
IsToldOf all refusal = IsWantOfMemory refusal.rule refusal.place
    ⊎ ((first : Violation) × IsNamed all first × TellsOf refusal first)
