-- Files of executables, and that a step that may differ is one of an instruction of the program.
use Rattle.std.proofs.Common.{◌≡◌, ◌≢◌, ℕ, zero, suc, ◌+◌, ◌-◌, ◌<◌, ◌≤◌, List, length, take, Option, None, Some}
use Rattle.std.proofs.Common.{Result, Ok, Err, refl, sym, ap, ◌∙◌, subst, arith}
use Rattle.std.proofs.lemmas.List.{length-take, length-take-le, take_all}
use Rattle.certified_runs.specs.Certified.{CertifiedRun, may_differ, RunEnding, same}
use Rattle.certified_runs.specs.End.{end_of}
use Rattle.certified_runs.specs.Known.{KnownState}
use Rattle.elf.specs.Reading.{IsUnlessMemory, reading}
use Rattle.elf.specs.declared.fault.ElfFault.TheVariants.{File, Memory}
use Rattle.elf.specs.declared.fault.ElfRule.TheVariants.{Ranges}
use Rattle.elf_runs.specs.Certified.{certificate_at, certified, refused}
use Rattle.elf_reports.proofs.Standing.{begins_there}
use Rattle.elf_runs.specs.declared.certifying.FunctionCertificate.TheVariants.{MayDiffer, Same}
use Rattle.rv_machine.specs.declared.observation.Observation.{Observation}
use Rattle.commands.specs.Below.{AskedRun, AskedWords, CertifiedFunction, ElfFault, Executable, FunctionCertificate, machine_program}
use Rattle.commands.specs.Below.{Encoding, encoding_at, first_unmet, Instr, IsLineOfEncoding}
use Rattle.commands.specs.Below.{MachineProgram, RunOptions, StandsAt, StartFault, Unmet}
use Rattle.commands.specs.Contents.{Contents, BeginsFile}
use Rattle.commands.specs.Executables.{HoldsExecutable, HoldsShort, IsLineOrNothing, longest_file, NoExecutable}
use Rattle.commands.specs.Executables.{not_read, not_spelled, of_encoding, of_nothing, too_long}
use Rattle.commands.specs.FunctionCertificates.{StandsInProgram}
use Rattle.commands.specs.Unread.{out_of_memory}
use Rattle.commands.specs.declared.fault.Fault.TheVariants.{Elf}
use Rattle.elf_runs.specs.Needs.{IsTold, Need}
use Rattle.elf_runs.specs.declared.fault.StartFault.TheVariants as faults
use Rattle.elf_runs.specs.declared.fault.StartFault.TheVariants.{Refused}
use Rattle.commands.specs.Contents.{Store}
use Rattle.commands.specs.Failures.{IsReadBy}
use Rattle.commands.specs.FunctionRunRefusals.{broken, IsStartFault, out_of_memory as no_memory, RefusesWords}
use Rattle.commands.specs.declared.fault.Fault.{Fault}
use Rattle.commands.proofs.CertificateLemmas.{cut_at}
use Rattle.commands.proofs.Counting.{memory_calm}

-- ---- what was read of a file

-- a beginning that has fewer bytes than were asked for is all of the file
whole_short : (whole bytes : List ℕ) → bytes ≡ take (longest_file + 1) whole → length bytes ≤ longest_file
    → whole ≡ bytes
whole_short whole bytes begun short = by (length whole - (longest_file + 1)) refl
  where
    by : (beyond : ℕ) → length whole - (longest_file + 1) ≡ beyond → whole ≡ bytes
    by zero is = sym (begun ∙ take_all (longest_file + 1) whole (omega (arith, is)))
    by (suc n) is =
        let long = length-take-le (longest_file + 1) whole (omega (arith, is)) in
        let same : length bytes ≡ length (take (longest_file + 1) whole) = ap length begun in
        absurd (omega (arith, long, same, short))

pub held_short : (files : Contents) (path bytes : List ℕ) → BeginsFile files path (longest_file + 1) bytes
    → length bytes ≤ longest_file → HoldsShort files path bytes
held_short files path bytes begun short = record {
  held = begun.held ∙ ap Some (whole_short begun.whole bytes begun.begun short);
  short = short;
}

pub read_too_much : (files : Contents) (path bytes : List ℕ) → BeginsFile files path (longest_file + 1) bytes
    → longest_file < length bytes → NoExecutable files path (Elf (File Ranges longest_file))
read_too_much files path bytes begun long =
    let counted : length bytes ≡ length (take (longest_file + 1) begun.whole) = ap length begun.begun in
    too_long begun.held (omega (arith, counted, length-take (longest_file + 1) begun.whole, long))

pub executable_held : (files : Contents) (path bytes : List ℕ) (program : Executable) → HoldsShort files path bytes
    → reading bytes ≡ Ok program → HoldsExecutable files path program
executable_held files path bytes program held is = record { bytes = bytes; held = held; spelled = is }

pub executable_refused : (files : Contents) (path bytes : List ℕ) (fault : ElfFault) → HoldsShort files path bytes
    → IsUnlessMemory {A = Executable} (Err fault) (reading bytes) → NoExecutable files path (Elf fault)
executable_refused files path bytes (File rule at) held is = not_spelled held is
executable_refused files path bytes Memory held is = not_read (out_of_memory refl)

-- ---- where a step may differ

ends_in_code : (program : MachineProgram) (n : ℕ) (k : KnownState) (seen : List Observation) (ending : RunEnding)
    (address entry pc : ℕ) → CertifiedRun program n k seen ending
    → certificate_at address (end_of seen ending) ≡ MayDiffer entry pc → (i : Instr) × StandsAt program pc i
ends_in_code program n k seen (same stop) address entry pc run is = cc
ends_in_code program n k seen (may_differ at) address entry pc run is =
    let there : at ≡ pc = cc in
    subst (λ (p : ℕ). (i : Instr) × StandsAt program p i) there (cut_at program n k seen (may_differ at) at run refl)

function_stands : (program : Executable) (asked : AskedRun) (options : RunOptions)
    (answer : Result FunctionCertificate StartFault) (entry pc : ℕ) → CertifiedFunction program asked options answer
    → answer ≡ Ok (MayDiffer entry pc)
    → (i : Instr) × StandsAt (machine_program program asked options.profile) pc i
function_stands program asked options answer entry pc (refused told) is = cc
function_stands program asked options answer entry pc (certified {certificate} met run) is =
    let same : certificate ≡ MayDiffer entry pc = cc in
    ends_in_code (machine_program program asked options.profile) _ _ run.seen run.ending run.address entry pc run.run
    (sym run.certificate_is ∙ same)

pub stands_in_program : (program : Executable) (asked : AskedRun) (options : RunOptions)
    (certificate : FunctionCertificate) → CertifiedFunction program asked options (Ok certificate)
    → StandsInProgram program certificate
stands_in_program program asked options (Same stop entries) h = tt
stands_in_program program asked options (MayDiffer entry pc) h =
    let it = function_stands program asked options (Ok (MayDiffer entry pc)) entry pc h refl in
    begins_there program asked options.profile pc it.0 it.1

-- and has a line
pub line_of_something : {program : Executable} {address : ℕ} {line : List ℕ} → IsLineOrNothing program address line
    → encoding_at program address ≢ None
    → (encoding : Encoding) × (encoding_at program address ≡ Some encoding) × IsLineOfEncoding address encoding line
line_of_something (of_encoding {encoding} is shown) some = (encoding, is, shown)
line_of_something (of_nothing none) some = absurd (some none)

-- ---- requests that are not met

pub start_fault : (fault : StartFault) (asks : List Need) → IsTold fault asks → IsStartFault (first_unmet asks) fault
start_fault (Refused unmet) asks told = told
start_fault faults.Memory asks told = tt

-- words fail no call of files
pub words_read : (words : AskedWords) (first : Option Unmet) (fault : Fault) (before after : Store)
    → RefusesWords words first fault → after ≡ before → IsReadBy fault before after
words_read words first fault before after (broken is named) kept = kept
words_read words first fault before after (no_memory memory) kept = memory_calm fault memory kept
