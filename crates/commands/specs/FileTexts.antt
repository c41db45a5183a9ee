-- The text of a file, or why there is none.
use Rattle.std.specs.Prelude.{◌≡◌, ℕ, ◌≤◌, List, length, Some}
use Rattle.std.specs.Str.{IsUtf8}
use Rattle.commands.specs.Contents.{Contents}
use Rattle.commands.specs.Unread.{NotRead}
use Rattle.commands.specs.declared.fault.Fault.{Fault}
use Rattle.commands.specs.declared.fault.Fault.TheVariants.{Text, File}
use Rattle.commands.specs.declared.fault.FileFault.{FileFault}
use Rattle.commands.specs.declared.fault.FileFault.TheVariants.{CannotRead, CannotWrite, IsElf, NotUtf8}
use Rattle.commands.specs.Below.{IsText, IsTooLong, Refusal, source_limit}

-- the bytes of the file at a path, all of them, are a text that is not too long
pub record HoldsText (files : Contents) (path : List ℕ) (bytes : List ℕ) : Type 0 where
  pub held : files path ≡ Some bytes
  pub is_text : IsText bytes

-- the file at a path is no text
abbrev pub IsNotUtf8 : List ℕ → FileFault → Type 0
IsNotUtf8 path (CannotRead named) = ⊥
IsNotUtf8 path (CannotWrite named) = ⊥
IsNotUtf8 path (NotUtf8 named) = named.now ≡ path
IsNotUtf8 path (IsElf named) = ⊥

-- why no text is had of the file at a path, where a text may have any length
pub data NoWholeText (files : Contents) (path : List ℕ) : Fault → Type 0 where
  unread_whole : {fault : Fault} → NotRead path fault → NoWholeText files path fault
  not_utf8_whole : {bytes : List ℕ} {fault : FileFault} → files path ≡ Some bytes → ¬ IsUtf8 bytes
      → IsNotUtf8 path fault → NoWholeText files path (File fault)

-- why no text is had of the file at a path: its length is asked before all else
pub data NoText (files : Contents) (path : List ℕ) : Fault → Type 0 where
  not_read : {fault : Fault} → NotRead path fault → NoText files path fault
  too_long : {bytes : List ℕ} {refusal : Refusal} → files path ≡ Some bytes → IsTooLong bytes refusal
      → NoText files path (Text refusal)
  not_utf8 : {bytes : List ℕ} {fault : FileFault} → files path ≡ Some bytes → length bytes ≤ source_limit
      → ¬ IsUtf8 bytes → IsNotUtf8 path fault → NoText files path (File fault)
