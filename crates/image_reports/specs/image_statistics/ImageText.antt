-- What the image that bytes spell costs, as lines; or that they are no image's; or what is wrong with them.
use Rattle.std.specs.Prelude.{◌≡◌, ◌≤◌, ℕ, List, Err}
use Rattle.image.specs.Reading.{Spells, reading}
use Rattle.image.specs.declared.fault.ImageFault.{ImageFault}
use Rattle.image.specs.declared.fault.ImageFault.TheVariants.{Field, Memory}
use Rattle.image.specs.declared.fault.ImageRule.{ImageRule}
use Rattle.image_reports.specs.Below.{Fields, IsImage}
use Rattle.image_reports.specs.statistics.FieldsText.{fields_text}

-- bytes that do not begin as an image does: the first fault is in the first field, the magic, which begins at 0
abbrev pub BeginsOtherwise : List ℕ → Type 0
BeginsOtherwise bytes = (rule : ImageRule) × (reading bytes ≡ Err (Field rule 0))

-- the bytes spell an image, and the text is of its fields
pub record SaysFields (bytes text : List ℕ) : Type 0 where
  pub image : Fields
  pub spelled : Spells bytes image
  pub allowed : IsImage image
  pub printed : text ≡ fields_text image

-- the first fault of bytes that begin as an image does; or out of memory
abbrev pub IsFaultOf : List ℕ → ImageFault → Type 0
IsFaultOf bytes Memory = Unit {0}
IsFaultOf bytes (Field rule offset) = (1 ≤ offset) × (reading bytes ≡ Err (Field rule offset))
