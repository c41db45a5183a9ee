-- What is printed of a run of the image of a file, by its outcome.
use Rattle.std.specs.Prelude.{◌≡◌, ◌≢◌, ℕ, false, List, [], Ok, Err}
use Rattle.commands.specs.Below.{Arg, Executed, fault_of_texts, Fields, params_of, RecorderRefused, Results, RunFault}
use Rattle.commands.specs.Below.{Stopped}
use Rattle.commands.specs.Contents.{Contents}
use Rattle.commands.specs.ImageRefusals.{RefusesImage}
use Rattle.commands.specs.Images.{HoldsImage}
use Rattle.commands.specs.OutcomeText.{outcome_text}
use Rattle.commands.specs.Words.{AreSpelled}
use Rattle.commands.specs.declared.fault.Fault.{Fault}
use Rattle.commands.specs.declared.fault.Fault.TheVariants.{Run}

-- the text of the outcome of the file's image on the arguments that the words spell
pub record SaysFileRun (files : Contents) (path : List ℕ) (words : List (List ℕ)) (text : List ℕ) : Type 0 where
  pub image : Fields
  pub args : List Arg
  pub outcome : Results
  pub held : HoldsImage files path image
  pub spelled : AreSpelled (params_of image) words args
  pub executed : Executed image args false [] (Ok outcome) []
  pub printed : text ≡ outcome_text (params_of image) outcome

-- the run on these arguments has this fault: it stops otherwise than by ECALL, and not by a recorder, which there is
-- none of
abbrev pub FaultsByRun : List (List ℕ) → Fields → Fault → Type 0
FaultsByRun words image fault =
    (args : List Arg) × (why : RunFault) × AreSpelled (params_of image) words args
    × Executed image args false [] (Err why) [] × (why ≢ Stopped RecorderRefused) × (fault ≡ Run why)

-- why no outcome is printed
abbrev pub RefusesRun : Contents → List ℕ → List (List ℕ) → Fault → Type 0
RefusesRun files path words =
    RefusesImage files path (λ image. fault_of_texts (params_of image) words) (FaultsByRun words)
