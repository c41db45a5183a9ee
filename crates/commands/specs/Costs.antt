-- What a source or the image of a file costs, as lines, and why there are none.
use Rattle.std.specs.Prelude.{◌≡◌, ◌≤◌, false, ℕ, List, [], Some, Err}
use Rattle.commands.specs.Contents.{Contents}
use Rattle.commands.specs.Images.{HoldsImage}
use Rattle.commands.specs.Judged.{IsRefusedIn, SaysStatistics}
use Rattle.commands.specs.Unread.{NotRead}
use Rattle.commands.specs.declared.fault.Fault.{Fault}
use Rattle.commands.specs.declared.fault.Fault.TheVariants.{Image}
use Rattle.commands.specs.Below.{BeginsOtherwise, Field, Fields, ImageRule, Optimisation, Profile, reading}
use Rattle.image_reports.specs.statistics.FieldsText.{fields_text}

-- the file at a path does not begin as an image does
abbrev pub HoldsOther : Contents → List ℕ → Type 0
HoldsOther files path = (bytes : List ℕ) × (files path ≡ Some bytes) × BeginsOtherwise bytes

-- what is measured of libraries and of the file at a path is a source: with libraries it is one whatever the file
-- begins with, and without where that does not begin as an image does
abbrev pub IsSource : Contents → List (List ℕ) → List ℕ → Type 0
IsSource files paths path = paths ≡ [] → HoldsOther files path

-- the text is what the file costs: of an image its fields, and of all else its source, in plain or optimised code
pub data SaysFileCosts (optimisation : Optimisation) (profile : Profile) (files : Contents) (paths : List (List ℕ))
    (path text : List ℕ) : Type 0 where
  of_image : (image : Fields) → paths ≡ [] → HoldsImage files path image → text ≡ fields_text image
      → SaysFileCosts optimisation profile files paths path text
  of_source : IsSource files paths path → SaysStatistics optimisation profile files paths path text
      → SaysFileCosts optimisation profile files paths path text

-- why it has no such text: it was not read; or it begins as an image does, and has a first fault behind the magic; or
-- its source is refused
pub data RefusesCosts (profile : Profile) (files : Contents) (paths : List (List ℕ)) (path : List ℕ) : Fault
    → Type 0 where
  not_read : {fault : Fault} → paths ≡ [] → NotRead path fault → RefusesCosts profile files paths path fault
  not_spelled : {bytes : List ℕ} {rule : ImageRule} {offset : ℕ} → paths ≡ [] → files path ≡ Some bytes
      → reading bytes ≡ Err (Field rule offset) → 1 ≤ offset
      → RefusesCosts profile files paths path (Image (Field rule offset))
  no_source : {fault : Fault} → IsSource files paths path → IsRefusedIn false profile files paths path fault
      → RefusesCosts profile files paths path fault
