-- What goes out while the picture of two runs is made.
use Rattle.std.specs.Prelude.{ℕ}
use Rattle.run_reports.specs.Below.{Collected, MachineCode, State}
use Rattle.run_reports.specs.progress.GoingOn.{Counting, GoesOn, IsTold, OneGoesOn}

-- the lines of the first run, then those of the second, and then those of both together, while one of them goes on
pub record PictureTells (Has : Counting) (code : MachineCode) (steps : ℕ) (s : State) (steps' : ℕ) (s' : State)
    (before after : Collected) : Type 0 where
  pub between : Collected
  pub counted : Collected
  pub one : IsTold Has (GoesOn code steps s) before between
  pub other : IsTold Has (GoesOn code steps' s') between counted
  pub drawn : IsTold Has (OneGoesOn code steps s steps' s') counted after
