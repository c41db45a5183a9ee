-- Why a picture is refused, by how many words there are.
use Rattle.std.proofs.Common.{ℕ, Bool, List, if◌then◌else◌, sym, subst, inl, inr}
use Rattle.commands.specs.Below.{fault_of_given_texts, Fields, params_of, RunFault}
use Rattle.commands.specs.Contents.{Contents}
use Rattle.commands.specs.ImageRefusals.{no_arguments, no_answer}
use Rattle.commands.specs.Images.{HoldsImage}
use Rattle.commands.specs.Pictures.{RefusesLists, one_refused, two_refused, RefusesPicture}
use Rattle.commands.specs.Words.{IsFaultOfWords, fault_of_both}
use Rattle.commands.specs.declared.fault.Fault.TheVariants.{Run}

module _ (files : Contents) (path : List ℕ) (words : List (List ℕ)) (image : Fields) (why : RunFault)
    (held : HoldsImage files path image) where
  abbrev is_first : Bool → Type 0
  is_first one = IsFaultOfWords (if one then fault_of_given_texts (params_of image) words
      else fault_of_both (params_of image) words) why

  pub picture_refused : RefusesLists image words why → RefusesPicture files path words (Run why)
  picture_refused (one_refused as_many (inl fault)) = no_arguments held (subst is_first (sym as_many) fault)
  picture_refused (one_refused as_many (inr faults)) = no_answer held (inl faults)
  picture_refused (two_refused not_as_many (inl fault)) = no_arguments held (subst is_first (sym not_as_many) fault)
  picture_refused (two_refused not_as_many (inr faults)) = no_answer held (inr faults)
