-- How runs of an image are to end that are cut off after so many steps.
use Rattle.std.specs.Prelude.{◌≡◌, ◌⊎◌, ℕ, ◌<◌, List}
use Rattle.hepurita.specs.Below.{Arg, Budget, Ecall, Fields, ProgramTree, results_in, State, Stop}
use Rattle.hepurita.specs.Bases.{frame_base}
use Rattle.hepurita.specs.Compiled.{Means}

-- it has stopped by ECALL with what the program means; or it has not stopped, and had fewer steps than the image
-- states
abbrev pub IsRightSoFar : ProgramTree → Fields → List Arg → ℕ → Stop → State → Type 0
IsRightSoFar program image args steps stop end =
    ((stop ≡ Ecall) × Means program args (results_in frame_base image end.bytes))
    ⊎ ((stop ≡ Budget) × (steps < image.max_steps))
