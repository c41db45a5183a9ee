-- What is written of code that was made elsewhere, and what is refused of it.
use Rattle.std.specs.Prelude.{◌≡◌, ℕ, ◌==◌, ◌&&◌, Bool, true, false, List, ◌∷◌, Some}
use Rattle.commands.specs.Contents.{Contents}
use Rattle.commands.specs.FileTexts.{HoldsText}
use Rattle.commands.specs.Judged.{IsRefused}
use Rattle.commands.specs.Unread.{NotRead}
use Rattle.commands.specs.declared.fault.Fault.{Fault}
use Rattle.commands.specs.declared.fault.Fault.TheVariants.{Code, File}
use Rattle.commands.specs.declared.fault.FileFault.{FileFault}
use Rattle.commands.specs.declared.fault.FileFault.TheVariants.{CannotRead, CannotWrite, IsElf, NotUtf8}
use Rattle.commands.specs.Below.{Asked, Breaks, CodeRule, IsWrapped}

-- bytes begin as an ELF file does: with 7f, and then ELF as text
abbrev pub begins_as_elf : List ℕ → Bool
begins_as_elf (a ∷ b ∷ c ∷ d ∷ rest) = (a == 127) && (b == 69) && (c == 76) && (d == 70)
begins_as_elf other = false

-- the bytes are the image asked for, of the code that one file holds, for the text of another
pub record IsImageOfCode (asked : Asked) (files : Contents) (path code : List ℕ) (bytes : List ℕ) : Type 0 where
  pub text : List ℕ
  pub words : List ℕ
  pub held : HoldsText files path text
  pub code_held : files code ≡ Some words
  pub no_elf : begins_as_elf words ≡ false
  pub wrapped : IsWrapped text words asked bytes

-- the file at a path is an executable
abbrev pub NamesElf : List ℕ → FileFault → Type 0
NamesElf path (CannotRead named) = ⊥
NamesElf path (CannotWrite named) = ⊥
NamesElf path (NotUtf8 named) = ⊥
NamesElf path (IsElf named) = named.now ≡ path

-- why no code is had of the file at a path: it is not read, or begins as an ELF file does
pub data NoCode (files : Contents) (path : List ℕ) : Fault → Type 0 where
  not_read : {fault : Fault} → NotRead path fault → NoCode files path fault
  is_elf : {bytes : List ℕ} {fault : FileFault} → files path ≡ Some bytes → begins_as_elf bytes ≡ true
      → NamesElf path fault → NoCode files path (File fault)

-- why there is none: the text is not accepted, there is no code, or a rule is broken
pub data RefusesCode (asked : Asked) (files : Contents) (path code : List ℕ) : Fault → Type 0 where
  not_accepted : {fault : Fault} → IsRefused asked.profile files path fault → RefusesCode asked files path code fault
  no_code : {fault : Fault} → NoCode files code fault → RefusesCode asked files path code fault
  broken : {text words : List ℕ} {rule : CodeRule} → HoldsText files path text → files code ≡ Some words
      → begins_as_elf words ≡ false → Breaks text words asked rule → RefusesCode asked files path code (Code rule)
