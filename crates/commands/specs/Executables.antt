-- The executable of a file, or why there is none; and the lines of its code.
use Rattle.std.specs.Prelude.{◌≡◌, ℕ, ◌^◌, ◌<◌, ◌≤◌, List, [], length, None, Some, Ok, Err}
use Rattle.commands.specs.Below.{ElfRule, Encoding, encoding_at, Executable, IsLineOfEncoding}
use Rattle.commands.specs.Contents.{Contents}
use Rattle.commands.specs.Unread.{NotRead}
use Rattle.commands.specs.declared.fault.Fault.{Fault}
use Rattle.commands.specs.declared.fault.Fault.TheVariants.{Elf}
use Rattle.elf.specs.Reading.{reading}
use Rattle.elf.specs.declared.fault.ElfFault.TheVariants.{File}
use Rattle.elf.specs.declared.fault.ElfRule.TheVariants.{Ranges}

-- the most bytes that the file of an executable may have
abbrev pub longest_file : ℕ
longest_file = 2 ^ 26

-- the file at a path has these bytes, and no more than it may have
pub record HoldsShort (files : Contents) (path bytes : List ℕ) : Type 0 where
  pub held : files path ≡ Some bytes
  pub short : length bytes ≤ longest_file

-- the bytes of the file at a path, all of them, spell a program
pub record HoldsExecutable (files : Contents) (path : List ℕ) (program : Executable) : Type 0 where
  pub bytes : List ℕ
  pub held : HoldsShort files path bytes
  pub spelled : reading bytes ≡ Ok program

-- why no program is had of the file at a path: it was not read, or is too long; or the first fault of its bytes, all of
-- them
pub data NoExecutable (files : Contents) (path : List ℕ) : Fault → Type 0 where
  not_read : {fault : Fault} → NotRead path fault → NoExecutable files path fault
  too_long : {bytes : List ℕ} → files path ≡ Some bytes → longest_file < length bytes
      → NoExecutable files path (Elf (File Ranges longest_file))
  not_spelled : {bytes : List ℕ} {rule : ElfRule} {at : ℕ} → HoldsShort files path bytes
      → reading bytes ≡ Err (File rule at) → NoExecutable files path (Elf (File rule at))

-- the line of what begins at an address of code; nothing where nothing does
pub data IsLineOrNothing (program : Executable) (address : ℕ) : List ℕ → Type 0 where
  of_encoding : {encoding : Encoding} {line : List ℕ} → encoding_at program address ≡ Some encoding
      → IsLineOfEncoding address encoding line → IsLineOrNothing program address line
  of_nothing : encoding_at program address ≡ None → IsLineOrNothing program address []
