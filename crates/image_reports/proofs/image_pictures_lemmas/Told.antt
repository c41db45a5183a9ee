-- What went out while an image's runs were drawn, from the states in which they were loaded.
use Rattle.std.proofs.Common.{◌≡◌, ℕ, List, Option, Result, Ok, Err, OnErr, subst}
use Rattle.image_reports.specs.Below.{Arg, code_at, code_base, Collected, Counting, Fields, frame_base, Hidden}
use Rattle.image_reports.specs.Below.{loaded_at, MachineCode, PictureTells, Reaches, State}
use Rattle.image_reports.specs.certificates.KnownImage.{known_at}
use Rattle.image_reports.specs.image_pictures.Telling.{TellsImage, TellsOne, TellsTwo}
use Rattle.run_reports.proofs.pictures_lemmas.Reported.{nothing_tells}

-- what goes out of the image's code and steps
pub tells_of_image : (Has : Counting) {code : MachineCode} {steps steps' : ℕ} {s s' : State} {before after : Collected}
    (image : Fields) → code ≡ code_at code_base image → steps ≡ image.max_steps → steps' ≡ image.max_steps
    → PictureTells Has code steps s steps' s' before after → TellsImage Has image s s' before after
tells_of_image Has {code} {steps} {steps'} {s} {s'} {before} {after} image code_is steps_is steps_is' told =
    subst (λ (x : ℕ). PictureTells Has (code_at code_base image) image.max_steps s x s' before after) steps_is'
    (subst (λ (x : ℕ). PictureTells Has (code_at code_base image) x s steps' s' before after) steps_is
    (subst (λ (x : MachineCode). PictureTells Has x steps s steps' s' before after) code_is told))

-- and from the states in which the runs begin
pub tells_from : (Has : Counting) (image : Fields) {s t s' t' : State} {before after : Collected} → s ≡ t → s' ≡ t'
    → TellsImage Has image s s' before after → TellsImage Has image t t' before after
tells_from Has image {t = t} {s'} {before = before} {after} same same' told =
    subst (λ (x : State). TellsImage Has image t x before after) same'
    (subst (λ (x : State). TellsImage Has image x s' before after) same told)

-- nothing, where no run was made
pub none_tells : {T E : Type 0} (answer : Result T E) (image : Fields) (s s' : State) (now : Collected)
    → OnErr answer (TellsImage Reaches image s s' now now)
none_tells (Ok done) image s s' now = tt
none_tells (Err fault) image s s' now =
    nothing_tells (code_at code_base image) image.max_steps s image.max_steps s' now

-- of the one run, and of the two
pub one_untold : (image : Fields) (given : List (Option Arg)) (now : Collected) → TellsOne Reaches image given now now
one_untold image given now =
    let start : State = (known_at code_base frame_base image given Hidden).state in
    nothing_tells (code_at code_base image) image.max_steps start image.max_steps start now

pub two_untold : (image : Fields) (one other : List Arg) (now : Collected) → TellsTwo Reaches image one other now now
two_untold image one other now =
    nothing_tells (code_at code_base image) image.max_steps (loaded_at code_base frame_base image one) image.max_steps
    (loaded_at code_base frame_base image other) now
