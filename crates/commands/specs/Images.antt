-- The image of a file, or why there is none.
use Rattle.std.specs.Prelude.{◌≡◌, ℕ, List, Some, Err}
use Rattle.commands.specs.Contents.{Contents}
use Rattle.commands.specs.Unread.{NotRead}
use Rattle.commands.specs.declared.fault.Fault.{Fault}
use Rattle.commands.specs.declared.fault.Fault.TheVariants.{Image}
use Rattle.commands.specs.Below.{Field, Fields, ImageRule, IsImage, reading, Spells}

-- the bytes of the file at a path, all of them, spell the fields of an image
pub record HoldsImage (files : Contents) (path : List ℕ) (image : Fields) : Type 0 where
  pub bytes : List ℕ
  pub held : files path ≡ Some bytes
  pub spelled : Spells bytes image
  pub allowed : IsImage image

-- why no image is had of the file at a path: the first fault of its bytes, all of them, or they were not read
pub data NoImage (files : Contents) (path : List ℕ) : Fault → Type 0 where
  not_read : {fault : Fault} → NotRead path fault → NoImage files path fault
  not_spelled : {bytes : List ℕ} {rule : ImageRule} {offset : ℕ} → files path ≡ Some bytes
      → reading bytes ≡ Err (Field rule offset) → NoImage files path (Image (Field rule offset))
