-- Which page is the picture of an image's runs.
use Rattle.std.specs.Prelude.{◌≡◌, ℕ, ◌/◌, Bool, true, false, List, length, Option}
use Rattle.image_reports.specs.certificates.KnownImage.{known_at}
use Rattle.image_reports.specs.Below.{Arg, code_at, code_base, Fields, frame_base, Hidden, loaded_at, State}
use Rattle.run_reports.specs.pictures.Pictured.{IsPicture}
use Rattle.run_reports.specs.declared.pictures.cells.Area.{Area}

-- the words of an image's code, and those of its frame
abbrev pub code_area : Fields → Area
code_area image = record { base = code_base; words = length image.words }

abbrev pub frame_area : Fields → Area
frame_area image = record { base = frame_base; words = image.frame_bytes / 4 }

-- the page of two runs of an image, or of one in both places, each within its steps, with what was asked for and with
-- this said of them
abbrev pub DrawsImage : Fields → State → State → List ℕ → List ℕ → Bool → List ℕ → Type 0
DrawsImage image s s' asked said are_two page =
    IsPicture (code_at code_base image) image.max_steps s image.max_steps s' (code_area image) (frame_area image) asked
    said are_two page

-- the page of the one run with 0 for each argument that is not given
abbrev pub DrawsOne : Fields → List (Option Arg) → List ℕ → List ℕ → List ℕ → Type 0
DrawsOne image given asked said page =
    let start : State = (known_at code_base frame_base image given Hidden).state in
    DrawsImage image start start asked said false page

-- the page of the runs on two lists of arguments
abbrev pub DrawsTwo : Fields → List Arg → List Arg → List ℕ → List ℕ → List ℕ → Type 0
DrawsTwo image one other asked said page =
    DrawsImage image (loaded_at code_base frame_base image one) (loaded_at code_base frame_base image other)
    asked said true page

-- a run that has not begun is in this state, and may make the image's steps
pub record BeginsAt (image : Fields) (start s : State) (steps : ℕ) : Type 0 where
  pub state : s ≡ start
  pub all_steps : steps ≡ image.max_steps
