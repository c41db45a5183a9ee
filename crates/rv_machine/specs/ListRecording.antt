-- What a recorder that keeps a list holds.
use Rattle.std.specs.Prelude.{ℕ, ◌≤◌, List}
use Rattle.rv_machine.specs.declared.observation.Observation.{Observation}

-- what it has kept, how often it has refused, and for how many more it has room
pub record Recorded : Type 0 where
  pub kept : List Observation
  pub refusals : ℕ
  pub room : ℕ

abbrev pub recorded : Recorded → List Observation
recorded r = r.kept

abbrev pub refused : Recorded → ℕ
refused r = r.refusals

abbrev pub has_room : Recorded → ℕ → Type 0
has_room r more = more ≤ r.room
