-- What is kept of violations as they come.
use Rattle.std.specs.Prelude.{ℕ, ◌+◌, ◌^◌, ◌-◌, Bool, ◌||◌, nat_lt, List, [], ◌∷◌, ◌++◌, length, Option, None}
use Rattle.std.specs.Prelude.{if◌then◌else◌}
use Rattle.language.specs.declared.typing.Violation.{Violation}
use Rattle.language.specs.Sooner.{is_sooner, sooner}

-- the first of them, how many there are, up to the greatest number, and the earliest, as many as there is room for
pub record Noted : Type 0 where
  pub first : Option Violation
  pub count : ℕ
  pub kept : List Violation
  pub room : ℕ

-- none so far
abbrev pub nothing_within : ℕ → Noted
nothing_within room = record { first = None; count = 0; kept = []; room = room }

-- one more, up to the greatest number
abbrev pub one_more : ℕ → ℕ
one_more count = if nat_lt count (2 ^ 64 - 1) then count + 1 else count

-- with one more behind, where there is room
abbrev pub kept_within : ℕ → List Violation → Violation → List Violation
kept_within room kept violation = if nat_lt (length kept) room then kept ++ violation ∷ [] else kept

-- and one more
unfoldable pub noted : Noted → Violation → Noted
noted before violation = record {
  first = sooner before.first violation;
  count = one_more before.count;
  kept = kept_within before.room before.kept violation;
  room = before.room;
}

-- whether it would be told of one more: it would be the first, or there is room for it
abbrev pub would_tell : Noted → Violation → Bool
would_tell before violation = is_sooner before.first violation || nat_lt (length before.kept) before.room
