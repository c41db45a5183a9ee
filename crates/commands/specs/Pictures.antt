-- Which page is the picture of the image of a file.
use Rattle.std.specs.Prelude.{◌≡◌, ◌⊎◌, ℕ, ◌==◌, true, false, List, ◌++◌, length, Option, Ok, codes, if◌then◌else◌}
use Rattle.std.specs.List.{flat_map}
use Rattle.commands.specs.Below.{Arg, ArgumentFault, Certified, CertifiedEnd, DrawsOne, DrawsTwo, fault_of_given_texts}
use Rattle.commands.specs.Below.{Fields, Hidden, Paired, Pairing, Param, params_of, RunFault}
use Rattle.commands.specs.Certificates.{PrintsCertificate, FaultsByCertificate}
use Rattle.commands.specs.Contents.{Contents}
use Rattle.commands.specs.ImageRefusals.{RefusesImage}
use Rattle.commands.specs.Images.{HoldsImage}
use Rattle.commands.specs.Pairs.{pairing_text, FaultsByPair}
use Rattle.commands.specs.Words.{AreGiven, AreBothSpelled, IsFaultOfWords, fault_of_both}
use Rattle.commands.specs.declared.fault.Fault.{Fault}
use Rattle.commands.specs.declared.fault.Fault.TheVariants.{Run}

-- what is said before a certificate, and before a comparison
abbrev pub before_certificate : List ℕ
before_certificate = codes "One run, with 0 for each ?. For all values of each ?, certify says:\n"

abbrev pub before_pairing : List ℕ
before_pairing = codes "Two runs, one over the other. pair says:\n"

-- what was asked for: the path, and behind it each word with a blank before it
abbrev pub asked_text : List ℕ → List (List ℕ) → List ℕ
asked_text path words = path ++ flat_map (λ word. codes " " ++ word) words

-- words for one list: the run with 0 for each argument that is not given, and the certificate of all values
pub record PicturesOne (image : Fields) (path : List ℕ) (words : List (List ℕ)) (page : List ℕ) : Type 0 where
  pub given : List (Option Arg)
  pub certificate : CertifiedEnd
  pub told : List ℕ
  pub as_said : AreGiven (params_of image) words given
  pub certified : Certified image given Hidden (Ok certificate)
  pub printed : PrintsCertificate image certificate told
  pub drawn : DrawsOne image given (asked_text path words) (before_certificate ++ told) page

-- words for two lists: their two runs, and how they compare
pub record PicturesTwo (image : Fields) (path : List ℕ) (words : List (List ℕ)) (page : List ℕ) : Type 0 where
  pub one : List Arg
  pub other : List Arg
  pub pairing : Pairing
  pub spelled : AreBothSpelled (params_of image) words one other
  pub paired : Paired image one other (Ok pairing)
  pub drawn : DrawsTwo image one other (asked_text path words) (before_pairing ++ pairing_text pairing) page

-- as many words as parameters are one list, and others two
pub data PicturesImage (image : Fields) (path : List ℕ) (words : List (List ℕ)) (page : List ℕ) : Type 0 where
  of_one : (length words == length (params_of image)) ≡ true → PicturesOne image path words page
      → PicturesImage image path words page
  of_two : (length words == length (params_of image)) ≡ false → PicturesTwo image path words page
      → PicturesImage image path words page

-- the page of the file's image on the arguments that the words spell
pub record SaysPicture (files : Contents) (path : List ℕ) (words : List (List ℕ)) (page : List ℕ) : Type 0 where
  pub image : Fields
  pub held : HoldsImage files path image
  pub pictured : PicturesImage image path words page

-- the first fault of words for one list or two
abbrev pub fault_of_lists : List Param → List (List ℕ) → Option ArgumentFault
fault_of_lists params words =
    if length words == length params then fault_of_given_texts params words else fault_of_both params words

-- the certificate or the comparison on these arguments has this fault
abbrev pub FaultsByPicture : List (List ℕ) → Fields → Fault → Type 0
FaultsByPicture words image fault = FaultsByCertificate Hidden words image fault ⊎ FaultsByPair words image fault

-- why no page is answered for one list, and for two
abbrev pub RefusesOne : Fields → List (List ℕ) → RunFault → Type 0
RefusesOne image words why = IsFaultOfWords (fault_of_given_texts (params_of image) words) why
    ⊎ FaultsByCertificate Hidden words image (Run why)

abbrev pub RefusesTwo : Fields → List (List ℕ) → RunFault → Type 0
RefusesTwo image words why = IsFaultOfWords (fault_of_both (params_of image) words) why
    ⊎ FaultsByPair words image (Run why)

-- and for either, by how many words there are
pub data RefusesLists (image : Fields) (words : List (List ℕ)) (why : RunFault) : Type 0 where
  one_refused : (length words == length (params_of image)) ≡ true → RefusesOne image words why
      → RefusesLists image words why
  two_refused : (length words == length (params_of image)) ≡ false → RefusesTwo image words why
      → RefusesLists image words why

-- why no page is answered
abbrev pub RefusesPicture : Contents → List ℕ → List (List ℕ) → Fault → Type 0
RefusesPicture files path words =
    RefusesImage files path (λ image. fault_of_lists (params_of image) words) (FaultsByPicture words)
