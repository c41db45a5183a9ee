-- What a recorder of several harts does with a record, and what one that keeps a list holds.
use Rattle.std.specs.Prelude.{ℕ, ◌++◌, Bool, List, if◌then◌else◌}
use Rattle.rv_machine.specs.declared.hart_recording.HartObservation.{HartObservation}

-- the list after these observations were taken
abbrev pub kept_of : Bool → List HartObservation → List HartObservation → List HartObservation
kept_of keeps list seen = if keeps then list ++ seen else list

-- what it has kept, and how often it has refused
pub record HartRecorded : Type 0 where
  pub kept : List HartObservation
  pub refusals : ℕ

abbrev pub hart_recorded : HartRecorded → List HartObservation
hart_recorded r = r.kept

abbrev pub hart_refused : HartRecorded → ℕ
hart_refused r = r.refusals
