-- What goes out while the picture of an image is made.
use Rattle.std.proofs.Common.{◌≡◌, ◌⊎◌, ℕ, Bool, true, false, List, Option, inl, inr, refl, subst}
use Rattle.commands.specs.Below.{Arg, Collected, Counting, Fields, HasLines, Hidden, IsTold, Param, params_of, Reaches}
use Rattle.commands.specs.Below.{TellsOne, TellsTwo}
use Rattle.commands.specs.Contents.{Contents}
use Rattle.commands.specs.Images.{HoldsImage}
use Rattle.commands.specs.Progress.{CertificateGoesOn, FilePictureTells, ListsTell, OneListTells, one_tells, PairGoesOn}
use Rattle.commands.specs.Progress.{TwoListsTell, two_tell}
use Rattle.commands.specs.Words.{AreBothSpelled, AreGiven}
use Rattle.image_reports.proofs.image_pictures_lemmas.Told.{one_untold, two_untold}
use Rattle.run_reports.proofs.pictures_lemmas.Reported.{picture_reaches}
use Rattle.run_reports.proofs.progress_lemmas.Told.{reaches}

-- of what the words give, and of what they spell
pub one_list_tells : (Has : Counting) (image : Fields) {words : List (List ℕ)} {given given' : List (Option Arg)}
    {before certified after : Collected} → AreGiven (params_of image) words given → given' ≡ given
    → IsTold Has (CertificateGoesOn image given' Hidden) before certified → TellsOne Has image given' certified after
    → OneListTells Has image words before after
one_list_tells Has image {words} {given} {given'} {before} {certified} {after} as_said same told drawn = (
  given,
  certified,
  as_said,
  subst (λ (xs : List (Option Arg)). IsTold Has (CertificateGoesOn image xs Hidden) before certified) same told,
  subst (λ (xs : List (Option Arg)). TellsOne Has image xs certified after) same drawn,
)

pub two_lists_tell : (Has : Counting) (image : Fields) {words : List (List ℕ)} {params : List Param}
    {one other : List Arg} {before compared after : Collected} → AreBothSpelled params words one other
    → params ≡ params_of image → IsTold Has (PairGoesOn image one other) before compared
    → TellsTwo Has image one other compared after → TwoListsTell Has image words before after
two_lists_tell Has image {words} {one = one} {other = other} {compared = compared} spelled same told drawn = (
  one,
  other,
  compared,
  subst (λ (params : List Param). AreBothSpelled params words one other) same spelled,
  told,
  drawn,
)

-- all of it, where nothing was drawn after the run
pub one_list_undrawn : (image : Fields) {words : List (List ℕ)} {given given' : List (Option Arg)}
    {before after : Collected} → AreGiven (params_of image) words given → given' ≡ given
    → IsTold HasLines (CertificateGoesOn image given' Hidden) before after → OneListTells Reaches image words before after
one_list_undrawn image {given' = given'} {after = after} as_said same told =
    one_list_tells Reaches image as_said same (reaches told) (one_untold image given' after)

pub two_lists_undrawn : (image : Fields) {words : List (List ℕ)} {params : List Param} {one other : List Arg}
    {before after : Collected} → AreBothSpelled params words one other → params ≡ params_of image
    → IsTold HasLines (PairGoesOn image one other) before after → TwoListsTell Reaches image words before after
two_lists_undrawn image {one = one} {other = other} {after = after} spelled same told =
    two_lists_tell Reaches image spelled same (reaches told) (two_untold image one other after)

-- what goes out of the image is what goes out of its file
pub file_picture_tells : (Has : Counting) {files : Contents} {path : List ℕ} {words : List (List ℕ)} {image : Fields}
    {before after : Collected} (progress : Bool) → progress ≡ true → HoldsImage files path image
    → ListsTell Has image words before after → FilePictureTells Has progress files path words before after
file_picture_tells Has {image = image} true asked held told = (image, held, told)
file_picture_tells Has false asked held told = cc

-- so it is where only some of it went out, or none
pub file_picture_part : (Quiet : Type 0) {files : Contents} {path : List ℕ} {words : List (List ℕ)} {image : Fields}
    {before after : Collected} (progress : Bool) → progress ≡ true → HoldsImage files path image
    → Quiet ⊎ ListsTell Reaches image words before after
    → Quiet ⊎ FilePictureTells Reaches progress files path words before after
file_picture_part Quiet progress asked held (inl quiet) = inl quiet
file_picture_part Quiet progress asked held (inr told) = inr (file_picture_tells Reaches progress asked held told)

-- nothing, where it is not asked for
pub file_picture_untold : (Has : Counting) (files : Contents) (path : List ℕ) (words : List (List ℕ)) (now : Collected)
    (progress : Bool) → progress ≡ false → FilePictureTells Has progress files path words now now
file_picture_untold Has files path words now false not_asked = refl
file_picture_untold Has files path words now true not_asked = cc

-- all lines are some
lists_reach : {image : Fields} {words : List (List ℕ)} {before after : Collected}
    → ListsTell HasLines image words before after → ListsTell Reaches image words before after
lists_reach (one_tells as_many told) =
    one_tells as_many (told.0, told.1, told.2, reaches told.3, picture_reaches told.4)
lists_reach (two_tell not_as_many told) =
    two_tell not_as_many (told.0, told.1, told.2, told.3, reaches told.4, picture_reaches told.5)

pub file_picture_reaches : (files : Contents) (path : List ℕ) (words : List (List ℕ)) (before after : Collected)
    (progress : Bool) → FilePictureTells HasLines progress files path words before after
    → FilePictureTells Reaches progress files path words before after
file_picture_reaches files path words before after false told = told
file_picture_reaches files path words before after true told = (told.0, told.1, lists_reach told.2)
