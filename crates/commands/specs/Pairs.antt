-- What is printed of two runs of the image of a file, and of its words.
use Rattle.std.specs.Prelude.{◌≡◌, Bool, true, false, ℕ, ◌++◌, List, Ok, Err, codes}
use Rattle.std.specs.Fmt.{decimal}
use Rattle.commands.specs.Below.{Arg, code_base, Fields, ListsCode, Paired, Pairing, params_of, RunFault}
use Rattle.commands.specs.Contents.{Contents}
use Rattle.commands.specs.ImageRefusals.{RefusesImage}
use Rattle.commands.specs.Images.{HoldsImage}
use Rattle.commands.specs.Words.{AreBothSpelled, fault_of_both}
use Rattle.commands.specs.declared.fault.Fault.{Fault}
use Rattle.commands.specs.declared.fault.Fault.TheVariants.{Run}
use Rattle.image_reports.specs.pair_explanations.Explained.{ExplainsDifference}
use Rattle.rv_machine.specs.declared.pairing.Pairing.TheVariants.{Same, Differ}

-- how a comparison is printed
abbrev pub pairing_text : Pairing → List ℕ
pairing_text Same = codes "same\n"
pairing_text (Differ place) = codes "differ at " ++ decimal place ++ codes "\n"

-- the same of two runs of an image; where it is to be explained why they differ, these lines follow
abbrev pub PrintsPairing : Bool → Fields → List Arg → List Arg → Pairing → List ℕ → Type 0
PrintsPairing explain image one other Same text = text ≡ pairing_text Same
PrintsPairing false image one other (Differ place) text = text ≡ pairing_text (Differ place)
PrintsPairing true image one other (Differ place) text =
    (lines : List ℕ) × ExplainsDifference image one other place lines × (text ≡ pairing_text (Differ place) ++ lines)

-- whether an observer sees the same of the file's image on the two lists of arguments that the words spell, and why
-- not, where that is to be explained
pub record SaysPair (explain : Bool) (files : Contents) (path : List ℕ) (words : List (List ℕ)) (text : List ℕ) :
    Type 0 where
  pub image : Fields
  pub one : List Arg
  pub other : List Arg
  pub pairing : Pairing
  pub held : HoldsImage files path image
  pub spelled : AreBothSpelled (params_of image) words one other
  pub paired : Paired image one other (Ok pairing)
  pub printed : PrintsPairing explain image one other pairing text

-- the comparison on these arguments has this fault
abbrev pub FaultsByPair : List (List ℕ) → Fields → Fault → Type 0
FaultsByPair words image fault =
    (one : List Arg) × (other : List Arg) × (why : RunFault) × AreBothSpelled (params_of image) words one other
    × Paired image one other (Err why) × (fault ≡ Run why)

-- why that is not answered
abbrev pub RefusesPair : Contents → List ℕ → List (List ℕ) → Fault → Type 0
RefusesPair files path words =
    RefusesImage files path (λ image. fault_of_both (params_of image) words) (FaultsByPair words)

-- a line for each word of the file's image
pub record SaysList (files : Contents) (path : List ℕ) (text : List ℕ) : Type 0 where
  pub image : Fields
  pub held : HoldsImage files path image
  pub listed : ListsCode code_base image.words text
