-- Which calls have failed where a fault comes of a command: of files one, where one of them could not be read or
-- written; of standard output one, where that could not be written; and none else.
use Rattle.std.specs.Prelude.{◌≡◌, ◌⊎◌, ℕ}
use Rattle.commands.specs.Contents.{Store, failed}
use Rattle.commands.specs.Leaks.{IsOutputFault}
use Rattle.commands.specs.declared.fault.Fault.{Fault}
use Rattle.commands.specs.declared.fault.Fault.TheVariants.{File}
use Rattle.commands.specs.declared.fault.FileFault.{FileFault}
use Rattle.commands.specs.declared.fault.FileFault.TheVariants.{CannotRead, CannotWrite, IsElf, NotUtf8}
use Rattle.commands.specs.Below.{one_more}

-- how many calls of files have failed after a fault of one: one more, unless it was read and is no text, or is an
-- executable
abbrev pub file_failures : FileFault → ℕ → ℕ
file_failures (CannotRead path) before = one_more before
file_failures (CannotWrite path) before = one_more before
file_failures (NotUtf8 path) before = before
file_failures (IsElf path) before = before

-- and after a fault of a command
abbrev pub failures_by : Fault → ℕ → ℕ
failures_by (File fault) before = file_failures fault before
failures_by other before = before

-- files that were only read, by the fault of one: no file changed, and a call failed where it could not be read
abbrev pub IsReadByFile : FileFault → Store → Store → Type 0
IsReadByFile (CannotRead path) before after = after ≡ failed before
IsReadByFile (CannotWrite path) before after = ⊥
IsReadByFile (NotUtf8 path) before after = after ≡ before
IsReadByFile (IsElf path) before after = after ≡ before

-- and by the fault of a command that writes no file
abbrev pub IsReadBy : Fault → Store → Store → Type 0
IsReadBy (File fault) before after = IsReadByFile fault before after
IsReadBy other before after = after ≡ before

-- files and the count of failed calls of standard output, by the fault of a command that reads files and prints while
-- it runs: files were read, and no call of standard output failed; or one did, and files are as they were
abbrev pub IsReadOrPrinted : Fault → Store → Store → ℕ → ℕ → Type 0
IsReadOrPrinted fault before after printed printed' = (IsReadBy fault before after × (printed' ≡ printed))
    ⊎ (IsOutputFault fault × (after ≡ before) × (printed' ≡ one_more printed))

-- the counts of failed calls of files and of standard output, by the fault of a command
pub data CountsFailures (before after printed printed' : ℕ) : Fault → Type 0 where
  of_files : {fault : Fault} → after ≡ failures_by fault before → printed' ≡ printed
      → CountsFailures before after printed printed' fault
  of_output : {fault : Fault} → IsOutputFault fault → after ≡ before → printed' ≡ one_more printed
      → CountsFailures before after printed printed' fault
