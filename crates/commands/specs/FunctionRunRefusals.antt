-- Why what words ask of a function of an executable is not done.
use Rattle.std.specs.Prelude.{◌≡◌, ℕ, List, Option, Some}
use Rattle.std.proofs.Common.{Global, String}
use Rattle.std.specs.String.{string_bytes}
use Rattle.elf_runs.specs.declared.fault.StartFault.TheVariants.{Memory, Refused}
use Rattle.commands.specs.Below.{AskedRun, AskedWords, AsksFor, Executable, first_unmet, needs, part_word, spelling}
use Rattle.commands.specs.Below.{StartFault, Unmet}
use Rattle.commands.specs.Contents.{Contents}
use Rattle.commands.specs.Executables.{HoldsExecutable, NoExecutable}
use Rattle.commands.specs.Unread.{IsOutOfMemory}
use Rattle.commands.specs.declared.fault.Fault.{Fault}
use Rattle.commands.specs.declared.fault.Fault.TheVariants as faults

-- the fault that this is broken first, or that memory was refused
abbrev pub IsStartFault : Option Unmet → StartFault → Type 0
IsStartFault first (Refused unmet) = first ≡ Some unmet
IsStartFault first Memory = Unit {0}

-- why words are refused where this is broken first: by the rule, and the word that breaks it; or memory was refused
pub data RefusesWords (words : AskedWords) (first : Option Unmet) : Fault → Type 0 where
  broken : {unmet : Unmet} {word : String Global} → first ≡ Some unmet
      → string_bytes word ≡ part_word words unmet.part → RefusesWords words first (faults.Unmet unmet.rule word)
  out_of_memory : {fault : Fault} → IsOutOfMemory fault → RefusesWords words first fault

-- the file has no program; or a word asks nothing; or what the words ask of the program is not met
pub data RefusesFunctionRun (files : Contents) (path : List ℕ) (words : AskedWords) : Fault → Type 0 where
  no_executable : {fault : Fault} → NoExecutable files path fault → RefusesFunctionRun files path words fault
  misspelled : (program : Executable) {fault : Fault} → HoldsExecutable files path program
      → RefusesWords words (first_unmet (spelling words)) fault → RefusesFunctionRun files path words fault
  unmet : (program : Executable) (asked : AskedRun) {fault : Fault} → HoldsExecutable files path program
      → AsksFor words asked → RefusesWords words (first_unmet (needs program asked)) fault
      → RefusesFunctionRun files path words fault
