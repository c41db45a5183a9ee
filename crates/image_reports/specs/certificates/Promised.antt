-- What a certificate promises of all arguments that have the given values.
use Rattle.std.specs.Prelude.{◌≡◌, ℕ, List, length, Option, take}
use Rattle.image_reports.specs.Below.{Arg, code_at, code_base, entries_of, Entry, Fields, frame_base}
use Rattle.image_reports.specs.Below.{image_program, loaded_at, Observation, params_of, ShiftsBy, Stop}
use Rattle.hepurita.specs.Uncut.{ImageEnds}
use Rattle.image_reports.specs.certificates.Given.{Completes}

-- every run of the image on them, cut short by no recorder, shows this list and stops so
abbrev pub AllShow : Fields → List (Option Arg) → List Observation → Stop → Type 0
AllShow image given seen stop =
    (args : List Arg) (shown : List Observation) (other : Stop)
    → Completes (params_of image) given args → ImageEnds image args shown other → (shown ≡ seen) × (other ≡ stop)

-- every run of the image on them, with its steps and cut short by no recorder, shifts registers by these amounts, one
-- after another
abbrev pub AllShiftBy : Fields → List (Option Arg) → List ℕ → Type 0
AllShiftBy image given amounts =
    (args : List Arg) → Completes (params_of image) given args
    → ShiftsBy (image_program (code_at code_base image)) image.max_steps (loaded_at code_base frame_base image args)
    amounts

-- the entries of every such run begin with these
abbrev pub AllBegin : Fields → List (Option Arg) → List Entry → Type 0
AllBegin image given first =
    (args : List Arg) (shown : List Observation) (stop : Stop)
    → Completes (params_of image) given args → ImageEnds image args shown stop
    → take (length first) (entries_of shown) ≡ first
