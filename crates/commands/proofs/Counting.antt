-- Which faults say that a call of files failed, case by case.
use Rattle.std.proofs.Common.{Result, Ok, Err, IfErr, OnErr, Option, Some, None}
use Rattle.std.proofs.Common.{◌≡◌, ◌≢◌, ℕ, Bool, true, false, List, refl, sym, ap, ◌∙◌, inl, inr, ◌⊎◌, subst}
use Rattle.commands.specs.Contents.{Store, failed, failed_times}
use Rattle.commands.specs.FaultText.{fault_status}
use Rattle.commands.specs.Failures.{IsReadBy, IsReadOrPrinted, failures_by, CountsFailures, of_files, of_output}
use Rattle.commands.specs.Judged.{as_told, IsExplainedIn, TellsIn, plainly, with_lines, without_memory}
use Rattle.commands.specs.Sources.{IsToldIn, standing}
use Rattle.commands.specs.Leaks.{IsOutputFault}
use Rattle.commands.specs.Requests.{EndsByStatus, calm, files_failed, output_failed}
use Rattle.commands.specs.Unread.{IsOutOfMemory}
use Rattle.commands.specs.Written.{IsWriteFault}
use Rattle.commands.specs.declared.fault.Fault.{Fault}
use Rattle.commands.specs.declared.fault.Fault.TheVariants.{Text, Explained, Image, Run, Eval, Plan, Harts, Vectors}
use Rattle.commands.specs.declared.fault.Fault.TheVariants.{Code, Name, Elf, Unmet, File, InLibrary, ExplainedInLibrary}
use Rattle.commands.specs.declared.fault.FileFault.TheVariants.{CannotRead, CannotWrite, IsElf, NotUtf8}
use Rattle.commands.specs.Below.{BuildFault, one_more, Read, Refusal, Refused}
use Rattle.input_files.specs.declared.stream_build.fault.BuildFault.TheVariants.{Write}
use Rattle.input_files.specs.declared.stream_build.fault.BuildFault.TheVariants as texts

-- where memory was refused, none did
pub memory_calm : (fault : Fault) {before after : Store} → IsOutOfMemory fault → after ≡ before
    → IsReadBy fault before after
memory_calm (Text refusal) memory same = same
memory_calm (Explained refusal lines) memory same = same
memory_calm (InLibrary path refusal) memory same = absurd memory
memory_calm (ExplainedInLibrary path refusal lines) memory same = absurd memory
memory_calm (Image why) memory same = same
memory_calm (Run why) memory same = same
memory_calm (Eval why) memory same = same
memory_calm (Plan why) memory same = same
memory_calm (Harts why) memory same = same
memory_calm (Vectors why) memory same = same
memory_calm (Code rule) memory same = same
memory_calm (Name name) memory same = same
memory_calm (Elf why) memory same = same
memory_calm (Unmet rule word) memory same = same
memory_calm (File file) memory same = absurd memory

-- and where the text of libraries and a file is refused
pub in_calm : (library : Option (List ℕ)) (refusal : Refusal) (fault : Fault) {before after : Store}
    → IsToldIn library refusal fault → after ≡ before → IsReadBy fault before after
in_calm library refusal (Text told) is same = same
in_calm library refusal (Explained told lines) is same = same
in_calm library refusal (InLibrary path told) is same = same
in_calm library refusal (ExplainedInLibrary path told lines) is same = same
in_calm library refusal (Image why) is same = same
in_calm library refusal (Run why) is same = same
in_calm library refusal (Eval why) is same = same
in_calm library refusal (Plan why) is same = same
in_calm library refusal (Harts why) is same = same
in_calm library refusal (Vectors why) is same = same
in_calm library refusal (Code rule) is same = same
in_calm library refusal (Name name) is same = same
in_calm library refusal (Elf why) is same = same
in_calm library refusal (Unmet rule word) is same = same
in_calm None refusal (File file) is same = absurd is
in_calm (Some path) refusal (File file) is same = absurd is

explained_in_calm : (library : Option (List ℕ)) (refusal : Refusal) (below : List ℕ) (fault : Fault)
    {before after : Store} → IsExplainedIn library refusal below fault → after ≡ before → IsReadBy fault before after
explained_in_calm library refusal below (Text told) is same = same
explained_in_calm library refusal below (Explained told lines) is same = same
explained_in_calm library refusal below (InLibrary path told) is same = same
explained_in_calm library refusal below (ExplainedInLibrary path told lines) is same = same
explained_in_calm library refusal below (Image why) is same = same
explained_in_calm library refusal below (Run why) is same = same
explained_in_calm library refusal below (Eval why) is same = same
explained_in_calm library refusal below (Plan why) is same = same
explained_in_calm library refusal below (Harts why) is same = same
explained_in_calm library refusal below (Vectors why) is same = same
explained_in_calm library refusal below (Code rule) is same = same
explained_in_calm library refusal below (Name name) is same = same
explained_in_calm library refusal below (Elf why) is same = same
explained_in_calm library refusal below (Unmet rule word) is same = same
explained_in_calm None refusal below (File file) is same = absurd is
explained_in_calm (Some path) refusal below (File file) is same = absurd is

pub tells_in_calm : (text : List ℕ) (by_lines : List (List ℕ × ℕ)) (refusal : Refusal) (explain : Bool) (fault : Fault)
    {before after : Store} → TellsIn text by_lines refusal explain fault → after ≡ before → IsReadBy fault before after
tells_in_calm text by_lines refusal false fault (as_told (plainly told at is)) same =
    in_calm (standing by_lines refusal).0 told fault is same
tells_in_calm text by_lines refusal true fault (as_told (with_lines told lines at explains is)) same =
    explained_in_calm (standing by_lines refusal).0 told lines fault is same
tells_in_calm text by_lines refusal true fault (without_memory memory) same = memory_calm fault memory same

-- files that were only read have as many failed calls as the fault says
pub counted_by : (fault : Fault) (before after : Store) → IsReadBy fault before after
    → after.failures ≡ failures_by fault before.failures
counted_by (Text refusal) before after read = ap (λ (s : Store). s.failures) read
counted_by (Explained refusal lines) before after read = ap (λ (s : Store). s.failures) read
counted_by (InLibrary path refusal) before after read = ap (λ (s : Store). s.failures) read
counted_by (ExplainedInLibrary path refusal lines) before after read = ap (λ (s : Store). s.failures) read
counted_by (Image why) before after read = ap (λ (s : Store). s.failures) read
counted_by (Run why) before after read = ap (λ (s : Store). s.failures) read
counted_by (Eval why) before after read = ap (λ (s : Store). s.failures) read
counted_by (Plan why) before after read = ap (λ (s : Store). s.failures) read
counted_by (Harts why) before after read = ap (λ (s : Store). s.failures) read
counted_by (Vectors why) before after read = ap (λ (s : Store). s.failures) read
counted_by (Code rule) before after read = ap (λ (s : Store). s.failures) read
counted_by (Name name) before after read = ap (λ (s : Store). s.failures) read
counted_by (Elf why) before after read = ap (λ (s : Store). s.failures) read
counted_by (Unmet rule word) before after read = ap (λ (s : Store). s.failures) read
counted_by (File (CannotRead path)) before after read = ap (λ (s : Store). s.failures) read
counted_by (File (CannotWrite path)) before after read = absurd read
counted_by (File (NotUtf8 path)) before after read = ap (λ (s : Store). s.failures) read
counted_by (File (IsElf path)) before after read = ap (λ (s : Store). s.failures) read

-- and hold what they held
pub kept_by : (fault : Fault) (before after : Store) → IsReadBy fault before after → after.contents ≡ before.contents
kept_by (Text refusal) before after read = ap (λ (s : Store). s.contents) read
kept_by (Explained refusal lines) before after read = ap (λ (s : Store). s.contents) read
kept_by (InLibrary path refusal) before after read = ap (λ (s : Store). s.contents) read
kept_by (ExplainedInLibrary path refusal lines) before after read = ap (λ (s : Store). s.contents) read
kept_by (Image why) before after read = ap (λ (s : Store). s.contents) read
kept_by (Run why) before after read = ap (λ (s : Store). s.contents) read
kept_by (Eval why) before after read = ap (λ (s : Store). s.contents) read
kept_by (Plan why) before after read = ap (λ (s : Store). s.contents) read
kept_by (Harts why) before after read = ap (λ (s : Store). s.contents) read
kept_by (Vectors why) before after read = ap (λ (s : Store). s.contents) read
kept_by (Code rule) before after read = ap (λ (s : Store). s.contents) read
kept_by (Name name) before after read = ap (λ (s : Store). s.contents) read
kept_by (Elf why) before after read = ap (λ (s : Store). s.contents) read
kept_by (Unmet rule word) before after read = ap (λ (s : Store). s.contents) read
kept_by (File (CannotRead path)) before after read = ap (λ (s : Store). s.contents) read
kept_by (File (CannotWrite path)) before after read = absurd read
kept_by (File (NotUtf8 path)) before after read = ap (λ (s : Store). s.contents) read
kept_by (File (IsElf path)) before after read = ap (λ (s : Store). s.contents) read

-- which calls failed, where files were read, or standard output failed
pub either_counts : (fault : Fault) {before after : Store} {printed printed' : ℕ}
    → IsReadOrPrinted fault before after printed printed'
    → CountsFailures before.failures after.failures printed printed' fault
either_counts fault {before} {after} (inl (read, same)) = of_files (counted_by fault before after read) same
either_counts fault (inr (output, same, failed)) = of_output output (ap (λ (s : Store). s.failures) same) failed

-- a stream of which no call failed, and one of which one did
pub no_more : {times : ℕ} {before after : Store} → after ≡ failed_times times before → times ≡ 0 → after ≡ before
no_more {times} {before} is none = is ∙ ap (λ n. failed_times n before) none

pub once_more : {times : ℕ} (before : Store) {after : Store} → after ≡ failed_times times before → times ≡ 1
    → after ≡ failed before
once_more {times} before is once = is ∙ ap (λ n. failed_times n before) once

-- where a file could not be written, one more call of files has failed
pub write_counts : (path : List ℕ) (fault : Fault) (before : ℕ) → IsWriteFault path fault
    → failures_by fault before ≡ one_more before
write_counts path fault before (CannotRead named, is, same) = absurd is
write_counts path fault before (CannotWrite named, is, same) = rw same refl
write_counts path fault before (NotUtf8 named, is, same) = absurd is
write_counts path fault before (IsElf named, is, same) = absurd is

-- a command that only reads files has no fault of standard output
pub not_output : (fault : Fault) (before after : Store) → IsReadBy fault before after → IsOutputFault fault → ⊥
not_output fault before after read (CannotRead named, is, same) = is
not_output fault before after read (CannotWrite named, is, same) =
    subst (λ (f : Fault). IsReadBy f before after) same read
not_output fault before after read (NotUtf8 named, is, same) = is
not_output fault before after read (IsElf named, is, same) = is

output_status : (fault : Fault) {status : ℕ} → IsOutputFault fault → (status ≡ fault_status fault) ⊎ (status ≡ 4)
    → (status ≡ 3) ⊎ (status ≡ 4)
output_status fault (file, is, same) (inl status) = inl (status ∙ ap fault_status same)
output_status fault output (inr status) = inr status

-- the exit status says which calls may have failed
pub ends : {before after printed printed' : ℕ} (fault : Fault) {status : ℕ}
    → CountsFailures before after printed printed' fault
    → (status ≡ fault_status fault) ⊎ (status ≡ 4) → EndsByStatus before after printed printed' status
ends fault (of_output output same one) status = output_failed same one (output_status fault output status)
ends (Text refusal) (of_files is same) status = calm is same
ends (Explained refusal lines) (of_files is same) status = calm is same
ends (InLibrary path refusal) (of_files is same) status = calm is same
ends (ExplainedInLibrary path refusal lines) (of_files is same) status = calm is same
ends (Image why) (of_files is same) status = calm is same
ends (Run why) (of_files is same) status = calm is same
ends (Eval why) (of_files is same) status = calm is same
ends (Plan why) (of_files is same) status = calm is same
ends (Harts why) (of_files is same) status = calm is same
ends (Vectors why) (of_files is same) status = calm is same
ends (Code rule) (of_files is same) status = calm is same
ends (Name name) (of_files is same) status = calm is same
ends (Elf why) (of_files is same) status = calm is same
ends (Unmet rule word) (of_files is same) status = calm is same
ends (File (CannotRead path)) (of_files is same) status = files_failed is same status
ends (File (CannotWrite path)) (of_files is same) status = files_failed is same status
ends (File (NotUtf8 path)) (of_files is same) status = calm is same
ends (File (IsElf path)) (of_files is same) status = calm is same

-- a file that could not be written, and two of which one could not
pub write_failed : {T : Type 0} (answer : Result T Fault) (before after : ℕ)
    → IfErr answer (λ fault. failures_by fault before ≡ one_more before) → OnErr answer (after ≡ one_more before)
    → IfErr answer (λ fault. after ≡ failures_by fault before)
write_failed (Ok done) before after why counts = tt
write_failed (Err fault) before after why counts = counts ∙ sym why

pub if_write_counts : {T : Type 0} (path : List ℕ) (before : ℕ) (answer : Result T Fault)
    → IfErr answer (IsWriteFault path) → IfErr answer (λ fault. failures_by fault before ≡ one_more before)
if_write_counts path before (Ok done) why = tt
if_write_counts path before (Err fault) why = write_counts path fault before why

pub either_write_counts : {T : Type 0} (one other : List ℕ) (before : ℕ) (answer : Result T Fault)
    → IfErr answer (λ fault. IsWriteFault one fault ⊎ IsWriteFault other fault)
    → IfErr answer (λ fault. failures_by fault before ≡ one_more before)
either_write_counts one other before (Ok done) why = tt
either_write_counts one other before (Err fault) (inl why) = write_counts one fault before why
either_write_counts one other before (Err fault) (inr why) = write_counts other fault before why

pub err_inj : {T E : Type 0} {one other : E} → ◌≡◌ {A = Result T E} (Err one) (Err other) → one ≡ other
err_inj is = cc

-- a text that was not had: a call of its source failed, or none did
pub text_counts : (fault : BuildFault Refusal) (told : Fault) {times : ℕ} (before : Store) {after : Store}
    → after ≡ failed_times times before → (fault ≡ Read → times ≡ 1) → (fault ≢ Read → times ≡ 0) → fault ≢ Write
    → ((files : Store) → fault ≡ Read → IsReadBy told files (failed files))
    → ((files : Store) → fault ≢ Read → fault ≢ Write → IsReadBy told files files) → IsReadBy told before after
text_counts Read told before is once none unwritten counts same =
    subst (IsReadBy told before) (sym (once_more before is (once refl))) (counts before refl)
text_counts texts.NotUtf8 told before is once none unwritten counts same =
    let other : ◌≡◌ {A = BuildFault Refusal} texts.NotUtf8 Read → ⊥ = λ h. cc in
    subst (IsReadBy told before) (sym (no_more is (none other))) (same before other unwritten)
text_counts (Refused refusal) told before is once none unwritten counts same =
    let other : Refused refusal ≢ Read = λ h. cc in
    subst (IsReadBy told before) (sym (no_more is (none other))) (same before other unwritten)
text_counts Write told before is once none unwritten counts same = absurd (unwritten refl)
