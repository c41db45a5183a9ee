-- What goes out while an image runs, case by case.
use Rattle.std.proofs.Common.{◌≡◌, ℕ, Bool, true, false, List, Option, Result, Ok, Err, OnOk, OnErr, subst}
use Rattle.commands.specs.Below.{Arg, AskedRun, AskedWords, AsksFor, BothGoOn, MachineCode, code_at, code_base, Collected}
use Rattle.commands.specs.Below.{Counting}
use Rattle.commands.specs.Below.{Executable, Fields}
use Rattle.commands.specs.Below.{frame_base, GoesOn, HasLines, IsTold, loaded_at, params_of, Reaches, RunOptions, State}
use Rattle.commands.specs.Certificates.{shifts_seen}
use Rattle.commands.specs.Contents.{Contents}
use Rattle.commands.specs.Executables.{HoldsExecutable}
use Rattle.commands.specs.Images.{HoldsImage}
use Rattle.commands.specs.Progress.{RunGoesOn, PairGoesOn, CertificateGoesOn, FunctionGoesOn, Tells}
use Rattle.commands.specs.Progress.{FilePairTells, FileCertificateTells, FileFunctionTells}
use Rattle.commands.specs.Words.{AreBothSpelled, AreGiven}
use Rattle.run_reports.proofs.progress_lemmas.Told.{reaches}

-- where it holds whatever the answer is
pub on_ok : {T E P : Type 0} (answer : Result T E) → P → OnOk answer P
on_ok (Ok done) p = p
on_ok (Err fault) p = tt

pub on_err : {T E P : Type 0} (answer : Result T E) → P → OnErr answer P
on_err (Ok done) p = tt
on_err (Err fault) p = p

-- the lines of a run from the loaded state are those of the image's run
pub told_of_image : (Has : Counting) {code : MachineCode} {steps : ℕ} {s : State} {before after : Collected}
    (image : Fields)
    (args : List Arg) → code ≡ code_at code_base image → steps ≡ image.max_steps
    → s ≡ loaded_at code_base frame_base image args → IsTold Has (GoesOn code steps s) before after
    → IsTold Has (RunGoesOn image args) before after
told_of_image Has {code} {steps} {s} {before} {after} image args code_is steps_is state_is told =
    subst (λ (x : State). IsTold Has (GoesOn (code_at code_base image) image.max_steps x) before after) state_is
    (subst (λ (x : ℕ). IsTold Has (GoesOn (code_at code_base image) x s) before after) steps_is
    (subst (λ (x : MachineCode). IsTold Has (GoesOn x steps s) before after) code_is told))

-- those of two runs from loaded states are those of the image's two runs
pub told_of_pair : (Has : Counting) {code : MachineCode} {steps : ℕ} {s s' : State} {before after : Collected}
    (image : Fields)
    (one other : List Arg) → code ≡ code_at code_base image → steps ≡ image.max_steps
    → s ≡ loaded_at code_base frame_base image one → s' ≡ loaded_at code_base frame_base image other
    → IsTold Has (BothGoOn code steps s s') before after → IsTold Has (PairGoesOn image one other) before after
told_of_pair Has {code} {steps} {s} {s'} {before} {after} image one other code_is steps_is state_is state_is' told =
    let begun = loaded_at code_base frame_base image one in
    let at_code = code_at code_base image in
    subst (λ (x : State). IsTold Has (BothGoOn at_code image.max_steps begun x) before after) state_is'
    (subst (λ (x : State). IsTold Has (BothGoOn at_code image.max_steps x s') before after) state_is
    (subst (λ (x : ℕ). IsTold Has (BothGoOn at_code x s s') before after) steps_is
    (subst (λ (x : MachineCode). IsTold Has (BothGoOn x steps s s') before after) code_is told)))

-- those of the image are those of its file
module _ (Has : Counting) (before after : Collected) {files : Contents} {path : List ℕ} {words : List (List ℕ)}
    {image : Fields} (held : HoldsImage files path image) where
  pub file_pair_tells : {one other : List Arg} (progress : Bool) → AreBothSpelled (params_of image) words one other
      → Tells Has progress (PairGoesOn image one other) before after
      → FilePairTells Has progress files path words before after
  file_pair_tells false spelled told = told
  file_pair_tells {one} {other} true spelled told = (image, one, other, held, spelled, told)

  pub file_certificate_tells : {given : List (Option Arg)} (progress shifts : Bool)
      → AreGiven (params_of image) words given
      → Tells Has progress (CertificateGoesOn image given (shifts_seen shifts)) before after
      → FileCertificateTells Has progress shifts files path words before after
  file_certificate_tells false shifts as_said told = told
  file_certificate_tells {given} true shifts as_said told = (image, given, held, as_said, told)

-- those of a program are those of its file
pub file_function_tells : (Has : Counting) (before after : Collected) {files : Contents} {path : List ℕ}
    {words : AskedWords} {program : Executable} {asked : AskedRun} (options : RunOptions) (progress : Bool)
    → HoldsExecutable files path program → AsksFor words asked
    → Tells Has progress (FunctionGoesOn program asked options) before after
    → FileFunctionTells Has progress options files path words before after
file_function_tells Has before after options false held as_said told = told
file_function_tells Has before after {program = program} {asked = asked} options true held as_said told =
    (program, asked, held, as_said, told)

-- all lines are some
pub pair_reaches : (files : Contents) (path : List ℕ) (words : List (List ℕ)) (before after : Collected)
    (progress : Bool) → FilePairTells HasLines progress files path words before after
    → FilePairTells Reaches progress files path words before after
pair_reaches files path words before after false told = told
pair_reaches files path words before after true told = (told.0, told.1, told.2, told.3, told.4, reaches told.5)

pub certificate_reaches : (files : Contents) (path : List ℕ) (words : List (List ℕ)) (before after : Collected)
    (progress shifts : Bool) → FileCertificateTells HasLines progress shifts files path words before after
    → FileCertificateTells Reaches progress shifts files path words before after
certificate_reaches files path words before after false shifts told = told
certificate_reaches files path words before after true shifts told = (told.0, told.1, told.2, told.3, reaches told.4)

pub function_reaches : (files : Contents) (path : List ℕ) (words : AskedWords) (options : RunOptions)
    (before after : Collected) (progress : Bool)
    → FileFunctionTells HasLines progress options files path words before after
    → FileFunctionTells Reaches progress options files path words before after
function_reaches files path words options before after false told = told
function_reaches files path words options before after true told =
    (told.0, told.1, told.2, told.3, reaches told.4)

-- where they are asked for, a certified run's lines are told
pub function_told : {A E : Type 0} (program : Executable) (asked : AskedRun) (before after : Collected)
    (answer : Result A E) (progress : Bool) {run : RunOptions} (options : RunOptions) → progress ≡ true
    → run ≡ options → OnOk answer (IsTold HasLines (FunctionGoesOn program asked run) before after)
    → OnOk answer (Tells HasLines progress (FunctionGoesOn program asked options) before after)
function_told program asked before after (Ok done) progress options wanted same told =
    rw wanted
    (subst (λ (o : RunOptions). IsTold HasLines (FunctionGoesOn program asked o) before after) same told)
function_told program asked before after (Err fault) progress options wanted same told = tt
