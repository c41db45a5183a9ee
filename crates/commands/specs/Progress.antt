-- What goes out on standard error while an image or a function runs, where that is asked for: a line behind each so
-- many steps after which the run goes on; and of a run once it has stopped the line of its steps.
use Rattle.std.specs.Prelude.{◌≡◌, ℕ, ◌==◌, Bool, true, false, List, length, map, Option}
use Rattle.image_reports.specs.certificates.KnownImage.{known_at}
use Rattle.commands.specs.Below.{Arg, AskedRun, AskedWords, AsksFor, BothGoOn, code_at, code_base, Collected}
use Rattle.commands.specs.Below.{Counting, Executable, Fields}
use Rattle.commands.specs.Below.{frame_base, GoesOn, Hidden, image_program, IsTold, known_at_start, loaded_at}
use Rattle.commands.specs.Below.{machine_program, params_of, RunOptions, Shifts, TellsOne, TellsTwo}
use Rattle.command_line.specs.declared.options.StepOptions.{StepOptions}
use Rattle.command_line.specs.declared.words.Request.{Request}
use Rattle.command_line.specs.declared.words.Request.TheVariants as requests
use Rattle.commands.specs.Certificates.{shifts_seen}
use Rattle.commands.specs.Contents.{Contents}
use Rattle.commands.specs.Executables.{HoldsExecutable}
use Rattle.commands.specs.FunctionCertificates.{run_options}
use Rattle.commands.specs.Images.{HoldsImage}
use Rattle.commands.specs.StepCounts.{RunMakes, TellsSteps}
use Rattle.commands.specs.Words.{AreSpelled, AreBothSpelled, AreGiven}
use Rattle.run_reports.specs.progress.Certified.{GoesOnKnown}

-- an image's run on arguments goes on after so many steps
abbrev pub RunGoesOn : Fields → List Arg → ℕ → Type 0
RunGoesOn image args = GoesOn (code_at code_base image) image.max_steps (loaded_at code_base frame_base image args)

-- so do its runs on two lists of arguments, which have shown the same
abbrev pub PairGoesOn : Fields → List Arg → List Arg → ℕ → Type 0
PairGoesOn image one other =
    BothGoOn (code_at code_base image) image.max_steps (loaded_at code_base frame_base image one)
    (loaded_at code_base frame_base image other)

-- and its certified run on what is given
abbrev pub CertificateGoesOn : Fields → List (Option Arg) → Shifts → ℕ → Type 0
CertificateGoesOn image given shifts =
    GoesOnKnown (image_program (code_at code_base image)) image.max_steps
    (known_at code_base frame_base image given shifts)

-- and a function's certified run on what is asked
abbrev pub FunctionGoesOn : Executable → AskedRun → RunOptions → ℕ → Type 0
FunctionGoesOn program asked options =
    GoesOnKnown (machine_program program asked options.profile) options.steps
    (known_at_start program asked options.shifts)

-- what goes out of a run, where it is asked for
abbrev pub Tells : Counting → Bool → (ℕ → Type 0) → Collected → Collected → Type 0
Tells Has false GoesOnAfter before after = after ≡ before
Tells Has true GoesOnAfter before after = IsTold Has GoesOnAfter before after

-- and of an image's run on arguments, and then the line of its steps, each where it is asked for
abbrev pub RunTells : Counting → StepOptions → Fields → List Arg → Collected → Collected → Type 0
RunTells Has options image args before after =
    (told : Collected) × Tells Has options.progress (RunGoesOn image args) before told
    × TellsSteps options.steps (RunMakes image args) told after

-- the same of the run of the file's image on the arguments that the words spell
pub record FileRunTells (Has : Counting) (options : StepOptions) (files : Contents) (path : List ℕ)
    (words : List (List ℕ)) (before after : Collected) : Type 0 where
  pub image : Fields
  pub args : List Arg
  pub held : HoldsImage files path image
  pub spelled : AreSpelled (params_of image) words args
  pub told : RunTells Has options image args before after

-- of its runs on the two lists that they spell
abbrev pub FilePairTells : Counting → Bool → Contents → List ℕ → List (List ℕ) → Collected → Collected → Type 0
FilePairTells Has false files path words before after = after ≡ before
FilePairTells Has true files path words before after =
    (image : Fields) × (one other : List Arg) × HoldsImage files path image
    × AreBothSpelled (params_of image) words one other × IsTold Has (PairGoesOn image one other) before after

-- of its certified run on what they give
abbrev pub FileCertificateTells : Counting → Bool → Bool → Contents → List ℕ → List (List ℕ) → Collected
    → Collected → Type 0
FileCertificateTells Has false shifts files path words before after = after ≡ before
FileCertificateTells Has true shifts files path words before after =
    (image : Fields) × (given : List (Option Arg)) × HoldsImage files path image
    × AreGiven (params_of image) words given
    × IsTold Has (CertificateGoesOn image given (shifts_seen shifts)) before after

-- and of the certified run of a function of the file's program, as the words ask
abbrev pub FileFunctionTells : Counting → Bool → RunOptions → Contents → List ℕ → AskedWords → Collected
    → Collected → Type 0
FileFunctionTells Has false options files path words before after = after ≡ before
FileFunctionTells Has true options files path words before after =
    (program : Executable) × (asked : AskedRun) × HoldsExecutable files path program × AsksFor words asked
    × IsTold Has (FunctionGoesOn program asked options) before after

-- of what is made for the picture of one list of arguments that the words give: of the certified run, and then of the
-- drawing
abbrev pub OneListTells : Counting → Fields → List (List ℕ) → Collected → Collected → Type 0
OneListTells Has image words before after =
    (given : List (Option Arg)) × (certified : Collected) × AreGiven (params_of image) words given
    × IsTold Has (CertificateGoesOn image given Hidden) before certified × TellsOne Has image given certified after

-- and of two lists that they spell: of the comparison of their runs, and then of the drawing
abbrev pub TwoListsTell : Counting → Fields → List (List ℕ) → Collected → Collected → Type 0
TwoListsTell Has image words before after =
    (one other : List Arg) × (compared : Collected) × AreBothSpelled (params_of image) words one other
    × IsTold Has (PairGoesOn image one other) before compared × TellsTwo Has image one other compared after

-- as many words as parameters are one list, and others two
pub data ListsTell (Has : Counting) (image : Fields) (words : List (List ℕ)) (before after : Collected) : Type 0 where
  one_tells : (length words == length (params_of image)) ≡ true → OneListTells Has image words before after
      → ListsTell Has image words before after
  two_tell : (length words == length (params_of image)) ≡ false → TwoListsTell Has image words before after
      → ListsTell Has image words before after

-- of what is made for the picture of the file's image
abbrev pub FilePictureTells : Counting → Bool → Contents → List ℕ → List (List ℕ) → Collected → Collected → Type 0
FilePictureTells Has false files path words before after = after ≡ before
FilePictureTells Has true files path words before after =
    (image : Fields) × HoldsImage files path image × ListsTell Has image words before after

-- what goes out for a request, by what files hold
abbrev pub RequestTells : Counting → Request → Contents → Collected → Collected → Type 0
RequestTells Has (requests.Run image arguments options) files before after =
    FileRunTells Has options files image.now (map (λ word. word.now) arguments.now) before after
RequestTells Has (requests.Pair image arguments options) files before after =
    FilePairTells Has options.progress files image.now (map (λ word. word.now) arguments.now) before after
RequestTells Has (requests.Certify image arguments options) files before after =
    FileCertificateTells Has options.progress options.shifts files image.now (map (λ word. word.now) arguments.now)
    before after
RequestTells Has (requests.Picture image arguments progress) files before after =
    FilePictureTells Has progress files image.now (map (λ word. word.now) arguments.now) before after
RequestTells Has (requests.ElfCertify file words options) files before after =
    FileFunctionTells Has options.progress (run_options options) files file.now words before after
RequestTells Has request files before after = after ≡ before
