-- What is asked for, done: what is printed, the exit status, and what files hold then.
use Rattle.std.specs.Prelude.{◌≡◌, ◌⊎◌, ℕ, List, [], ◌++◌, map, codes}
use Rattle.command_line.specs.declared.words.Request.{Request}
use Rattle.command_line.specs.declared.words.Request.TheVariants as requests
use Rattle.commands.specs.Certificates.{SaysCertificate, RefusesCertificate, shifts_seen}
use Rattle.commands.specs.Contents.{Contents, Store}
use Rattle.commands.specs.Costs.{SaysFileCosts, RefusesCosts}
use Rattle.commands.specs.Failures.{failures_by}
use Rattle.commands.specs.FaultText.{fault_line, fault_status}
use Rattle.commands.specs.FunctionCertificates.{SaysFunctionCertificate}
use Rattle.commands.specs.FunctionFiles.{AreFunctionTexts, RefusesFunction}
use Rattle.commands.specs.FunctionLeaks.{SaysFunctionLeak}
use Rattle.commands.specs.FunctionRunRefusals.{RefusesFunctionRun}
use Rattle.commands.specs.FunctionWitnesses.{SaysFunctionWitness}
use Rattle.commands.specs.Harts.{SaysHarts, RefusesHarts}
use Rattle.commands.specs.Images.{NoImage}
use Rattle.commands.specs.Judged.{IsAccepted, IsRefusedIn, IsImageOf}
use Rattle.commands.specs.Leaks.{SaysLeak, RefusesLeak, IsOutputFault}
use Rattle.commands.specs.Meanings.{SaysMeaning, RefusesMeaning}
use Rattle.commands.specs.Pairs.{SaysPair, RefusesPair, SaysList}
use Rattle.commands.specs.Pictures.{SaysPicture, RefusesPicture}
use Rattle.commands.specs.Progress.{RequestTells}
use Rattle.commands.specs.Runs.{SaysFileRun, RefusesRun}
use Rattle.commands.specs.Sources.{NoSources}
use Rattle.commands.specs.TwoFiles.{WritesTwo, FailsToWriteTwo}
use Rattle.commands.specs.Unread.{IsOutOfMemory}
use Rattle.commands.specs.Vectors.{SaysVectors, RefusesVectors}
use Rattle.commands.specs.Violations.{SaysViolations}
use Rattle.commands.specs.WrappedCode.{IsImageOfCode, RefusesCode}
use Rattle.commands.specs.Written.{WritesFile, FailsToWrite}
use Rattle.commands.specs.declared.fault.Fault.{Fault}
use Rattle.explanations.specs.Text.{explanation_text}
use Rattle.commands.specs.Below.{Asked, Collected, HasLines, IsPut, IsPutInPart, IsPutWhole, one_more, Reaches}

-- the text that answers a request, and the exit status, by what files hold
abbrev pub Answers : Request → Contents → List ℕ → ℕ → Type 0
Answers (requests.Check libraries file profile explain) files text status =
    IsAccepted profile files (map (λ path. path.now) libraries.now) file.now × (text ≡ codes "accepted\n")
    × (status ≡ 0)
Answers (requests.CheckAll libraries file profile explain) files text status =
    SaysViolations explain profile files (map (λ path. path.now) libraries.now) file.now text status
Answers (requests.Build libraries file image options) files text status = (text ≡ []) × (status ≡ 0)
Answers (requests.Stat libraries file profile optimisation) files text status =
    SaysFileCosts optimisation profile files (map (λ path. path.now) libraries.now) file.now text × (status ≡ 0)
Answers (requests.Function libraries file assembler header options) files text status = (text ≡ []) × (status ≡ 0)
Answers (requests.Eval libraries file arguments explain) files text status =
    SaysMeaning files (map (λ path. path.now) libraries.now) file.now (map (λ word. word.now) arguments.now) text
    × (status ≡ 0)
Answers (requests.Run image arguments options) files text status =
    SaysFileRun files image.now (map (λ word. word.now) arguments.now) text × (status ≡ 0)
Answers (requests.Leak image arguments) files text status =
    SaysLeak files image.now (map (λ word. word.now) arguments.now) status text
Answers (requests.Pair image arguments options) files text status =
    SaysPair options.explain files image.now (map (λ word. word.now) arguments.now) text × (status ≡ 0)
Answers (requests.Certify image arguments options) files text status =
    SaysCertificate options.explain (shifts_seen options.shifts) files image.now
    (map (λ word. word.now) arguments.now) text status
Answers (requests.Picture image arguments progress) files text status =
    SaysPicture files image.now (map (λ word. word.now) arguments.now) text × (status ≡ 0)
Answers (requests.List image) files text status = SaysList files image.now text × (status ≡ 0)
Answers (requests.Wrap file code image frame steps profile) files text status = (text ≡ []) × (status ≡ 0)
Answers (requests.Harts file) files text status = SaysHarts files file.now text status
Answers (requests.Vectors libraries file vectors profile optimisation) files text status =
    SaysVectors optimisation profile files (map (λ path. path.now) libraries.now) file.now vectors.now text status
Answers (requests.Explain explanation) files text status = (text ≡ explanation_text explanation ++ codes "\n")
    × (status ≡ 0)
Answers (requests.ElfCertify file words options) files text status =
    SaysFunctionCertificate files file.now words options text status
Answers (requests.ElfLeak file words options) files text status =
    SaysFunctionLeak files file.now words options text status
Answers (requests.ElfWitness file words options tries) files text status =
    SaysFunctionWitness files file.now words options tries text × (status ≡ 0)

-- what files hold once a request is done: an image or a function's texts that were written, and else what they held
abbrev pub Leaves : Request → Contents → Contents → Type 0
Leaves (requests.Check libraries file profile explain) before after = after ≡ before
Leaves (requests.CheckAll libraries file profile explain) before after = after ≡ before
Leaves (requests.Build libraries file image options) before after =
    WritesFile image.now
    (IsImageOf options.optimisation options.profile before (map (λ path. path.now) libraries.now) file.now) before after
Leaves (requests.Stat libraries file profile optimisation) before after = after ≡ before
Leaves (requests.Function libraries file assembler header options) before after =
    WritesTwo assembler.now header.now
    (AreFunctionTexts options before (map (λ path. path.now) libraries.now) file.now) before after
Leaves (requests.Eval libraries file arguments explain) before after = after ≡ before
Leaves (requests.Run image arguments options) before after = after ≡ before
Leaves (requests.Leak image arguments) before after = after ≡ before
Leaves (requests.Pair image arguments options) before after = after ≡ before
Leaves (requests.Certify image arguments options) before after = after ≡ before
Leaves (requests.Picture image arguments progress) before after = after ≡ before
Leaves (requests.List image) before after = after ≡ before
Leaves (requests.Wrap file code image frame steps profile) before after =
    WritesFile image.now (IsImageOfCode (record { frame_bytes = frame; max_steps = steps; profile = profile }) before
    file.now code.now) before after
Leaves (requests.Harts file) before after = after ≡ before
Leaves (requests.Vectors libraries file vectors profile optimisation) before after = after ≡ before
Leaves (requests.Explain explanation) before after = after ≡ before
Leaves (requests.ElfCertify file words options) before after = after ≡ before
Leaves (requests.ElfLeak file words options) before after = after ≡ before
Leaves (requests.ElfWitness file words options tries) before after = after ≡ before

-- why a request is not done, and what files hold then
abbrev pub Refuses : Request → Contents → Contents → Fault → Type 0
Refuses (requests.Check libraries file profile explain) before after fault =
    IsRefusedIn explain profile before (map (λ path. path.now) libraries.now) file.now fault × (after ≡ before)
Refuses (requests.CheckAll libraries file profile explain) before after fault =
    NoSources before (map (λ path. path.now) libraries.now) file.now fault × (after ≡ before)
Refuses (requests.Build libraries file image options) before after fault =
    FailsToWrite image.now
    (IsImageOf options.optimisation options.profile before (map (λ path. path.now) libraries.now) file.now)
    (IsRefusedIn options.explain options.profile before (map (λ path. path.now) libraries.now) file.now) before after
    fault
Refuses (requests.Stat libraries file profile optimisation) before after fault =
    RefusesCosts profile before (map (λ path. path.now) libraries.now) file.now fault × (after ≡ before)
Refuses (requests.Function libraries file assembler header options) before after fault =
    FailsToWriteTwo assembler.now header.now
    (AreFunctionTexts options before (map (λ path. path.now) libraries.now) file.now)
    (RefusesFunction options before (map (λ path. path.now) libraries.now) file.now) before after fault
Refuses (requests.Eval libraries file arguments explain) before after fault =
    RefusesMeaning explain before (map (λ path. path.now) libraries.now) file.now (map (λ word. word.now) arguments.now)
    fault × (after ≡ before)
Refuses (requests.Run image arguments options) before after fault =
    RefusesRun before image.now (map (λ word. word.now) arguments.now) fault × (after ≡ before)
Refuses (requests.Leak image arguments) before after fault =
    RefusesLeak before image.now (map (λ word. word.now) arguments.now) fault × (after ≡ before)
Refuses (requests.Pair image arguments options) before after fault =
    RefusesPair before image.now (map (λ word. word.now) arguments.now) fault × (after ≡ before)
Refuses (requests.Certify image arguments options) before after fault =
    RefusesCertificate (shifts_seen options.shifts) before image.now (map (λ word. word.now) arguments.now) fault
    × (after ≡ before)
Refuses (requests.Picture image arguments progress) before after fault =
    RefusesPicture before image.now (map (λ word. word.now) arguments.now) fault × (after ≡ before)
Refuses (requests.List image) before after fault = NoImage before image.now fault × (after ≡ before)
Refuses (requests.Wrap file code image frame steps profile) before after fault =
    let asked : Asked = record { frame_bytes = frame; max_steps = steps; profile = profile } in
    FailsToWrite image.now (IsImageOfCode asked before file.now code.now) (RefusesCode asked before file.now code.now)
    before after fault
Refuses (requests.Harts file) before after fault = RefusesHarts before file.now fault × (after ≡ before)
Refuses (requests.Vectors libraries file vectors profile optimisation) before after fault =
    RefusesVectors profile before (map (λ path. path.now) libraries.now) file.now vectors.now fault
    × (after ≡ before)
Refuses (requests.Explain explanation) before after fault = IsOutOfMemory fault × (after ≡ before)
Refuses (requests.ElfCertify file words options) before after fault = RefusesFunctionRun before file.now words fault
    × (after ≡ before)
Refuses (requests.ElfLeak file words options) before after fault = RefusesFunctionRun before file.now words fault
    × (after ≡ before)
Refuses (requests.ElfWitness file words options tries) before after fault =
    RefusesFunctionRun before file.now words fault × (after ≡ before)

-- how a fault is reported on standard error, with which exit status: by its lines; or, where there is no memory for
-- that, as out of memory
pub data Reports (fault : Fault) (before after : Collected) : ℕ → Type 0 where
  by_line : IsPut (fault_line fault ++ codes "\n") before after → Reports fault before after (fault_status fault)
  no_memory : IsPut (codes "refused: M1: memory\n") before after → Reports fault before after 4

-- a request is done, with this exit status: standard output gains its text, and no call failed
pub record IsDone (request : Request) (before after : Store) (out out' : Collected) (status : ℕ) : Type 0 where
  pub text : List ℕ
  pub answered : Answers request before.contents text status
  pub left : Leaves request before.contents after.contents
  pub calm : after.failures ≡ before.failures
  pub printed : IsPutWhole text out out'

-- a request fails by a fault: it is refused, with one more failed call of files where one could not be read or written,
-- and nothing is printed; or it is done, and standard output failed
pub data Fails (request : Request) (before after : Store) (out out' : Collected) : Fault → Type 0 where
  refused : {fault : Fault} → Refuses request before.contents after.contents fault
      → after.failures ≡ failures_by fault before.failures → out' ≡ out
      → Fails request before after out out' fault
  unprinted : {text : List ℕ} {fault : Fault} (status : ℕ) → Answers request before.contents text status
      → Leaves request before.contents after.contents → after.failures ≡ before.failures
      → IsPutInPart text out out' → IsOutputFault fault → Fails request before after out out' fault

-- what comes of a request, with the exit status: on standard error the lines of progress go out first
pub data Performs (request : Request) (before after : Store) (out out' err err' : Collected) : ℕ → Type 0 where
  done : {status : ℕ} → IsDone request before after out out' status
      → RequestTells HasLines request before.contents err err'
      → Performs request before after out out' err err' status
  failed : {fault : Fault} {told : Collected} {status : ℕ} → Fails request before after out out' fault
      → (told ≡ err) ⊎ RequestTells Reaches request before.contents err told
      → Reports fault told err' status
      → Performs request before after out out' err err' status

-- which calls of files and of standard output failed, by the exit status, whether or not it is known what they hold
-- and have taken: none; or one of either, or one of each where the line of JSON on a file that failed is not printed,
-- which is answered by status 3, or by 4 where there was no memory to say so
pub data EndsByStatus (before after printed printed' : ℕ) : ℕ → Type 0 where
  calm : {status : ℕ} → after ≡ before → printed' ≡ printed → EndsByStatus before after printed printed' status
  files_failed : {status : ℕ} → after ≡ one_more before → printed' ≡ printed → (status ≡ 3) ⊎ (status ≡ 4)
      → EndsByStatus before after printed printed' status
  output_failed : {status : ℕ} → after ≡ before → printed' ≡ one_more printed → (status ≡ 3) ⊎ (status ≡ 4)
      → EndsByStatus before after printed printed' status
  both_failed : {status : ℕ} → after ≡ one_more before → printed' ≡ one_more printed → (status ≡ 3) ⊎ (status ≡ 4)
      → EndsByStatus before after printed printed' status
