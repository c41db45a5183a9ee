-- What goes out while the picture of an image's runs is made.
use Rattle.std.specs.Prelude.{List, Option}
use Rattle.image_reports.specs.certificates.KnownImage.{known_at}
use Rattle.image_reports.specs.Below.{Arg, code_at, code_base, Collected, Counting, Fields, frame_base, Hidden}
use Rattle.image_reports.specs.Below.{loaded_at, PictureTells, State}

-- of two runs of an image, or of one in both places, each within its steps
abbrev pub TellsImage : Counting → Fields → State → State → Collected → Collected → Type 0
TellsImage Has image s s' before after =
    PictureTells Has (code_at code_base image) image.max_steps s image.max_steps s' before after

-- of the one run with 0 for each argument that is not given
abbrev pub TellsOne : Counting → Fields → List (Option Arg) → Collected → Collected → Type 0
TellsOne Has image given before after =
    let start : State = (known_at code_base frame_base image given Hidden).state in
    TellsImage Has image start start before after

-- of the runs on two lists of arguments
abbrev pub TellsTwo : Counting → Fields → List Arg → List Arg → Collected → Collected → Type 0
TellsTwo Has image one other before after =
    TellsImage Has image (loaded_at code_base frame_base image one) (loaded_at code_base frame_base image other)
    before after
