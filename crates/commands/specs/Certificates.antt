-- What is printed of a certificate.
use Rattle.std.specs.Prelude.{◌≡◌, ◌≢◌, ℕ, Bool, true, false, ◌++◌, List, Option, Some, None, Ok, Err, codes, ⊤}
use Rattle.std.specs.Fmt.{decimal}
use Rattle.commands.specs.Below.{Arg, Certified, CertifiedEnd, code_at, code_base, Ecall, fault_of_given_texts}
use Rattle.commands.specs.Below.{Fields, Hidden, IsLineAt, MayDiffer, params_of, RunFault, Same, Seen, Shifts, Stop}
use Rattle.commands.specs.Below.{stop_line, word_at}
use Rattle.commands.specs.Contents.{Contents}
use Rattle.commands.specs.ImageRefusals.{RefusesImage}
use Rattle.commands.specs.Images.{HoldsImage}
use Rattle.commands.specs.Stops.{status_of}
use Rattle.commands.specs.Words.{AreGiven}
use Rattle.commands.specs.declared.fault.Fault.{Fault}
use Rattle.commands.specs.declared.fault.Fault.TheVariants.{Run}
use Rattle.image_reports.specs.certificate_explanations.Explained.{ExplainsCertificate}

-- `same` and the stop where all runs end by ECALL; where they stop otherwise, that stop comes first
abbrev pub same_text : Stop → List ℕ
same_text Ecall = codes "same\n" ++ stop_line Ecall
same_text stop = stop_line stop ++ codes "same\n"

-- that text; or the entry that may differ, and the line of the word that stands where its step is made
abbrev pub PrintsCertificate : Fields → CertifiedEnd → List ℕ → Type 0
PrintsCertificate image (Same stop entries) text = text ≡ same_text stop
PrintsCertificate image (MayDiffer entry pc) text =
    (line : List ℕ) × IsLineAt (code_at code_base image) pc (Some line)
    × (text ≡ codes "may differ at " ++ decimal entry ++ codes "\n" ++ line)

-- the same; where it is to be explained, and an entry may differ, these lines follow
abbrev pub PrintsExplained : Bool → Fields → List (Option Arg) → Shifts → CertifiedEnd → List ℕ → Type 0
PrintsExplained explain image given shifts (Same stop entries) text = PrintsCertificate image (Same stop entries) text
PrintsExplained false image given shifts (MayDiffer entry pc) text = PrintsCertificate image (MayDiffer entry pc) text
PrintsExplained true image given shifts (MayDiffer entry pc) text =
    (first lines : List ℕ) × PrintsCertificate image (MayDiffer entry pc) first
    × ExplainsCertificate image given shifts lines × (text ≡ first ++ lines)

-- a word begins where the step is made that may differ
abbrev pub StandsInCode : Fields → CertifiedEnd → Type 0
StandsInCode image (Same stop entries) = ⊤
StandsInCode image (MayDiffer entry pc) = word_at (code_at code_base image) pc ≢ None

-- the exit status: that of the stop; or 1
abbrev pub certificate_status : CertifiedEnd → ℕ
certificate_status (Same stop entries) = status_of stop
certificate_status (MayDiffer entry pc) = 1

-- whether an observer sees amounts of shifts, as the flag says
abbrev pub shifts_seen : Bool → Shifts
shifts_seen false = Hidden
shifts_seen true = Seen

-- whether this observer sees the same of the file's image for all arguments that have the values which the words give,
-- and what is unknown where it may differ, where that is to be explained
pub record SaysCertificate (explain : Bool) (shifts : Shifts) (files : Contents) (path : List ℕ) (words : List (List ℕ))
    (text : List ℕ) (status : ℕ) : Type 0 where
  pub image : Fields
  pub given : List (Option Arg)
  pub certificate : CertifiedEnd
  pub held : HoldsImage files path image
  pub as_said : AreGiven (params_of image) words given
  pub certified : Certified image given shifts (Ok certificate)
  pub printed : PrintsExplained explain image given shifts certificate text
  pub ended : status ≡ certificate_status certificate

-- the certified run on what is given has this fault
abbrev pub FaultsByCertificate : Shifts → List (List ℕ) → Fields → Fault → Type 0
FaultsByCertificate shifts words image fault =
    (given : List (Option Arg)) × (why : RunFault) × AreGiven (params_of image) words given
    × Certified image given shifts (Err why) × (fault ≡ Run why)

-- why that is not answered
abbrev pub RefusesCertificate : Shifts → Contents → List ℕ → List (List ℕ) → Fault → Type 0
RefusesCertificate shifts files path words =
    RefusesImage files path (λ image. fault_of_given_texts (params_of image) words) (FaultsByCertificate shifts words)
