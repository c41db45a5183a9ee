-- How files change where a command writes one: it is written with such bytes, or not at all, or its writing fails.
use Rattle.std.specs.Prelude.{◌≡◌, ℕ, List}
use Rattle.commands.specs.Contents.{Contents, IsWritten, IsCutOff}
use Rattle.commands.specs.Unread.{IsUnwritten}
use Rattle.commands.specs.declared.fault.Fault.{Fault}
use Rattle.commands.specs.declared.fault.Fault.TheVariants.{File}
use Rattle.commands.specs.declared.fault.FileFault.{FileFault}

-- the file at a path cannot be written
abbrev pub IsWriteFault : List ℕ → Fault → Type 0
IsWriteFault path fault = (file : FileFault) × IsUnwritten path file × (fault ≡ File file)

-- the file at a path was written with such bytes, and no other was
pub record WritesFile (path : List ℕ) (Such : List ℕ → Type 0) (before after : Contents) : Type 0 where
  pub bytes : List ℕ
  pub such : Such bytes
  pub written : IsWritten path bytes before after

-- why the file at a path was not written: it was refused before any file was opened, or the writing of such bytes
-- failed
pub data FailsToWrite (path : List ℕ) (Such : List ℕ → Type 0) (Refuses : Fault
    → Type 0) (before after : Contents) : Fault → Type 0 where
  refused : {fault : Fault} → Refuses fault → after ≡ before → FailsToWrite path Such Refuses before after fault
  cut_off : {bytes : List ℕ} {fault : Fault} → Such bytes → IsCutOff path bytes before after → IsWriteFault path fault
      → FailsToWrite path Such Refuses before after fault
