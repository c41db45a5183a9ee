-- What each fault of an image is called where it is printed.
use Rattle.std.specs.Prelude.{ℕ, List, codes}
use Rattle.image.specs.declared.fault.ImageRule.{ImageRule}
use Rattle.image.specs.declared.fault.ImageRule.TheVariants.{Magic, Version, Profile, Truncated}
use Rattle.image.specs.declared.fault.ImageRule.TheVariants.{FieldOutOfRange}
use Rattle.image.specs.declared.fault.ImageRule.TheVariants.{TrailingBytes}

-- its short code
abbrev pub code_of : ImageRule → List ℕ
code_of Magic = codes "B1"
code_of Version = codes "B2"
code_of Profile = codes "B3"
code_of Truncated = codes "B4"
code_of FieldOutOfRange = codes "B5"
code_of TrailingBytes = codes "B6"

-- what it says, in a few words
abbrev pub name_of : ImageRule → List ℕ
name_of Magic = codes "magic"
name_of Version = codes "version"
name_of Profile = codes "profile"
name_of Truncated = codes "truncated"
name_of FieldOutOfRange = codes "field out of range"
name_of TrailingBytes = codes "trailing bytes"
