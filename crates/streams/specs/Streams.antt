-- Sinks and sources: what is known of the bytes that went out or came in, and how failed calls are counted.
use Rattle.std.specs.Prelude.{◌≡◌, ℕ, ◌-◌, ◌<◌, ◌≤◌, ◌++◌, ◌==◌, Bool, false, List, length, take, drop, Option, Some}
use Rattle.std.specs.Prelude.{None, if◌then◌else◌}

-- to what had gone out, some of these bytes were added, from their beginning, and not all of them
pub record GainsPart (before after bytes : List ℕ) : Type 0 where
  pub count : ℕ
  pub some_left : count < length bytes
  pub added : after ≡ before ++ take count bytes

-- to what had gone out, such bytes were added
pub record Writes (P : List ℕ → Type 0) (before after : List ℕ) : Type 0 where
  pub bytes : List ℕ
  pub such : P bytes
  pub added : after ≡ before ++ bytes

-- to what had gone out, a beginning of such bytes was added, and not all of them
pub record WritesPart (P : List ℕ → Type 0) (before after : List ℕ) : Type 0 where
  pub bytes : List ℕ
  pub such : P bytes
  pub part : GainsPart before after bytes

-- of what was to come, some bytes were handed out, from its beginning, and at most so many
pub record LosesPart (before after : List ℕ) (limit : ℕ) : Type 0 where
  pub count : ℕ
  pub within : count ≤ limit
  pub left : after ≡ drop count before

-- what a sink in memory has taken, and how many of its calls have failed
pub record Collected : Type 0 where
  pub bytes : List ℕ
  pub failures : ℕ

-- whether the present call of a faltering stream is the one that fails, by how many calls are left before that one
abbrev pub is_due : Option ℕ → Bool
is_due (Some calls) = calls == 0
is_due None = false

-- how many calls are left after the present one; no other is to fail once one has failed
abbrev pub left_after : Option ℕ → Option ℕ
left_after (Some calls) = if calls == 0 then None else Some (calls - 1)
left_after None = None
