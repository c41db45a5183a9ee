-- What comes of a request that is answered in JSON, from what its call gives and what is printed of it.
use Rattle.std.proofs.Common.{◌≡◌, ◌⊎◌, inl, inr, ℕ, List, Result, Ok, Err, refl, sym, ap, ◌∙◌, subst, arith}
use Rattle.std.specs.Result.{IsErrAnd, OnOk, OnErr}
use Rattle.commands.specs.Answered.{Finds, RequestGives, answered, IsCounted, IsRead, not_answered}
use Rattle.commands.specs.Below.{Collected, HasLines, one_more, Optimisation, Profile, Reaches}
use Rattle.commands.specs.Contents.{Contents, Store}
use Rattle.commands.specs.Costs.{no_source, not_read, of_image, of_source, RefusesCosts, SaysFileCosts}
use Rattle.commands.specs.Failures.{failures_by, IsReadBy, of_files}
use Rattle.commands.specs.FaultText.{fault_status}
use Rattle.commands.specs.Judged.{no_sources}
use Rattle.commands.specs.Progress.{RequestTells}
use Rattle.commands.specs.Requests.{Answers, EndsByStatus, calm, output_failed, both_failed, Leaves}
use Rattle.commands.specs.Requests.{Performs, Refuses}
use Rattle.commands.specs.Sources.{no_memory}
use Rattle.commands.specs.Unread.{IsOutOfMemory, out_of_memory}
use Rattle.command_line.specs.declared.options.Format.TheVariants as formats
use Rattle.commands.specs.declared.answer.Answer.{Answer}
use Rattle.command_line.specs.declared.words.Request.{Request}
use Rattle.commands.specs.declared.fault.Fault.{Fault}
use Rattle.commands.specs.declared.fault.Fault.TheVariants.{Text, Explained, Image, Run, Eval, Plan, Harts, Vectors}
use Rattle.commands.specs.declared.fault.Fault.TheVariants.{Code, Name, Elf, Unmet, File, InLibrary, ExplainedInLibrary}
use Rattle.commands.specs.declared.fault.FileFault.TheVariants.{CannotRead, CannotWrite, IsElf, NotUtf8}
use Rattle.commands.specs.declared.json.subject.JsonCommand.{JsonCommand}
use Rattle.commands.specs.declared.json.subject.Subject.{Subject}
use Rattle.commands.specs.json.Answers.{AnswersByLines, AnswersInJson, lines_members}
use Rattle.commands.specs.json.Faults as objects
use Rattle.commands.specs.json.Performed.{answered_in_json, GivesInJson, HasTold, IsLineOf, of_answer, of_fault}
use Rattle.commands.specs.json.Performed.{of_memory, PerformsAs, PerformsInJson, refused_in_json}
use Rattle.commands.specs.json.Printed.{as_lines, CountsLine, CountsLineOf, GivesLines, no_line, PrintsLineOf}
use Rattle.commands.specs.json.Printed.{same_fault}
use Rattle.json_lines.specs.Lines.{line_of}
use Rattle.commands.proofs.Counting.{counted_by, ends, kept_by, memory_calm}

-- ---- a call of which it is known what it gives

pub fault_found : {request : Request} {before after : Contents} {fault : Fault}
    → RequestGives request before after (Err fault) → Refuses request before after fault
fault_found (not_answered why) = why

pub answer_found : {request : Request} {before after : Contents} {answer : Answer}
    → RequestGives request before after (Ok answer)
    → Answers request before answer.text.items answer.status × Leaves request before after
answer_found (answered said left) = (said, left)

-- a fault of what only reads files
pub kept_fault : {request : Request} (before after : Store) {fault : Fault} → Finds request before.contents (Err fault)
    → IsReadBy fault before after → Refuses request before.contents after.contents fault
kept_fault {request} before after {fault} finds read =
    subst (λ (now : Contents). Refuses request before.contents now fault) (sym (kept_by fault before after read))
    (fault_found finds)

-- a fault that is handed on
pub gives_fault : {request : Request} {before after : Contents} (given : Result Answer Fault) (fault : Fault)
    → IsErrAnd given (λ e. e ≡ fault) → Refuses request before after fault → GivesInJson request before after given
gives_fault (Ok done) fault is why = absurd is
gives_fault {request} {before} {after} (Err e) fault is why =
    subst (λ (f : Fault). GivesInJson request before after (Err f)) (sym is) (refused_in_json why)

pub counts_fault : (before : ℕ) {after : ℕ} (given : Result Answer Fault) (fault : Fault)
    → IsErrAnd given (λ e. e ≡ fault) → after ≡ failures_by fault before → IsCounted given before after
counts_fault before (Ok done) fault is counted = absurd is
counts_fault before {after} (Err e) fault is counted =
    subst (λ (f : Fault). after ≡ failures_by f before) (sym is) counted

-- a want of memory
pub gives_memory : {request : Request} {before after : Contents} (given : Result Answer Fault)
    → IsErrAnd given IsOutOfMemory → ((f : Fault) → IsOutOfMemory f → Refuses request before after f)
    → GivesInJson request before after given
gives_memory (Ok done) is why = absurd is
gives_memory (Err e) is why = refused_in_json (why e is)

pub counts_memory : {before after : Store} (given : Result Answer Fault) → IsErrAnd given IsOutOfMemory
    → after ≡ before → IsCounted given before.failures after.failures
counts_memory (Ok done) is same = absurd is
counts_memory {before} {after} (Err e) is same = counted_by e before after (memory_calm e is same)

-- ---- an answer by its lines

pub no_line_found : {command : JsonCommand} (answer : Answer) (given : Result Answer Fault)
    → IsErrAnd given IsOutOfMemory → GivesLines command (Ok answer) given
no_line_found answer (Ok done) is = absurd is
no_line_found answer (Err fault) is = no_line answer fault is

pub gives_lines : {command : JsonCommand} {request : Request} (before after : Store)
    {found given : Result Answer Fault} → GivesLines command found given
    → ((files : Contents) (line : List ℕ) (status : ℕ) → AnswersByLines command request files line status
    → AnswersInJson request files line status)
    → ((text : List ℕ) (status : ℕ) → Answers request before.contents text status → (f : Fault) → IsOutOfMemory f
    → Refuses request before.contents before.contents f)
    → Finds request before.contents found → IsRead found before after
    → GivesInJson request before.contents after.contents given
gives_lines {request = request} before after (same_fault fault) into memory finds read =
    refused_in_json (subst (λ (now : Contents). Refuses request before.contents now fault)
    (sym (kept_by fault before after read)) (fault_found finds))
gives_lines {command} {request} before after (as_lines answer line is same) into memory finds read =
    let found = answer_found finds in
    answered_in_json
    (into before.contents line.text.items line.status (
      answer.text.items,
      subst (λ (s : ℕ). Answers request before.contents answer.text.items s) (sym same) found.0,
      is ∙ ap (λ (s : ℕ). line_of (lines_members command s answer.text.items)) (sym same),
    ))
    (subst (λ (now : Store). Leaves request before.contents now.contents) (sym read) found.1)
gives_lines {request = request} before after (no_line answer fault why) into memory finds read =
    refused_in_json (subst (λ (now : Store). Refuses request before.contents now.contents fault) (sym read)
    (memory answer.text.items answer.status (answer_found finds).0 fault why))

pub counts_lines : {command : JsonCommand} (before after : Store) {found given : Result Answer Fault}
    → GivesLines command found given → IsRead found before after → IsCounted given before.failures after.failures
counts_lines before after (same_fault fault) read = counted_by fault before after read
counts_lines before after (as_lines answer line is same) read = ap (λ (s : Store). s.failures) read
counts_lines before after (no_line answer fault why) read =
    counted_by fault before after (memory_calm fault why read)

-- what a source or an image costs had been found
pub costs_memory : {optimisation : Optimisation} {profile : Profile} {files : Contents} {paths : List (List ℕ)}
    {path text : List ℕ} {fault : Fault} → SaysFileCosts optimisation profile files paths path text
    → IsOutOfMemory fault → RefusesCosts profile files paths path fault
costs_memory (of_image image none held same) memory = not_read none (out_of_memory memory)
costs_memory (of_source source said) memory = no_source source (no_sources (no_memory memory))

-- ---- what went out before that

told_nothing : (request : Request) (files : Contents) (err : Collected) (given : Result Answer Fault)
    → RequestTells HasLines request files err err → HasTold request files given err err
told_nothing request files err (Ok answer) quiet = quiet
told_nothing request files err (Err fault) quiet = inl refl

pub lines_told : {command : JsonCommand} (request : Request) (files : Contents) {S : Type 0} (err told : S)
    {found given : Result Answer Fault} (view : S → Collected) → GivesLines command found given
    → OnOk found (RequestTells HasLines request files (view err) (view told))
    → OnErr found ((told ≡ err) ⊎ RequestTells Reaches request files (view err) (view told))
    → (RequestTells HasLines request files (view err) (view told)
    → RequestTells Reaches request files (view err) (view told))
    → HasTold request files given (view err) (view told)
lines_told request files err told view (same_fault fault) whole (inl same) reaches = inl (ap view same)
lines_told request files err told view (same_fault fault) whole (inr part) reaches = inr part
lines_told request files err told view (as_lines answer line is same) whole part reaches = whole
lines_told request files err told view (no_line answer fault why) whole part reaches = inr (reaches whole)

-- ---- and the line of it

pub performed_from : {subject known : Subject} {request : Request} {before after : Store} {given : Result Answer Fault}
    {out out' err told err' : Collected} {status : ℕ} → subject ≡ known
    → GivesInJson request before.contents after.contents given
    → IsCounted given before.failures after.failures → HasTold request before.contents given err told
    → PrintsLineOf subject given out out' told err' status
    → PerformsInJson known request before after out out' err err' status
performed_from {given = given} {told = told} same gives counted progress (line, said, is_line, printed) =
    record {
      given = given;
      line = line;
      said = said;
      told = told;
      gives = gives;
      counted = counted;
      progress = progress;
      is_line = subst (λ (s : Subject). IsLineOf s given line said) same is_line;
      printed = printed;
    }

pub performed_quietly : {subject known : Subject} {request : Request} {before after : Store}
    {given : Result Answer Fault} {out out' err err' : Collected} {status : ℕ} → subject ≡ known
    → GivesInJson request before.contents after.contents given
    → IsCounted given before.failures after.failures
    → ((files : Contents) (now : Collected) → RequestTells HasLines request files now now)
    → PrintsLineOf subject given out out' err err' status
    → PerformsInJson known request before after out out' err err' status
performed_quietly {request = request} {before} {given = given} {err = err} same gives counted quiet printed =
    let files = before.contents in
    performed_from same gives counted (told_nothing request files err given (quiet files err)) printed

-- a line, by what it is made of
pub is_fault_line : {subject : Subject} {fault : Fault} {line : List ℕ} {status : ℕ}
    → line ≡ line_of (objects.fault_members subject fault) → status ≡ fault_status fault
    → IsLineOf subject (Err fault) line status
is_fault_line {subject} {fault} {line} {status} is same =
    subst (λ (l : List ℕ). IsLineOf subject (Err fault) l status) (sym is)
    (subst (λ (s : ℕ). IsLineOf subject (Err fault) (line_of (objects.fault_members subject fault)) s) (sym same)
    (of_fault fault))

pub is_memory_line : {subject : Subject} {given : Result Answer Fault} {line : List ℕ} {fault : Fault}
    → given ≡ Err fault → line ≡ line_of (objects.out_of_memory subject.command) → IsLineOf subject given line 4
is_memory_line {subject} {given} {line} {fault} same is =
    subst (λ (r : Result Answer Fault). IsLineOf subject r line 4) (sym same)
    (subst (λ (l : List ℕ). IsLineOf subject (Err fault) l 4) (sym is) (of_memory fault))

-- a request that has no answer in JSON
pub in_text : {request : Request} (known : Request) {before after : Store} {out out' err err' : Collected} {status : ℕ}
    → request ≡ known → (Performs known before after out out' err err' status
    → PerformsAs formats.Json known before after out out' err err' status)
    → Performs request before after out out' err err' status
    → PerformsAs formats.Json request before after out out' err err' status
in_text known {before} {after} {out} {out'} {err} {err'} {status} same into performed =
    subst (λ (r : Request). PerformsAs formats.Json r before after out out' err err' status) (sym same)
    (into (subst (λ (r : Request). Performs r before after out out' err err' status) same performed))

-- ---- which calls failed

pub counts_of : {subject : Subject} {given : Result Answer Fault} {line : List ℕ} {said printed printed' status : ℕ}
    → IsLineOf subject given line said → CountsLine said printed printed' status
    → CountsLineOf given printed printed' status
counts_of (of_answer answer) counts = counts
counts_of (of_fault fault) counts = inl counts
counts_of (of_memory fault) counts = inr counts

three_or_four : {A : Type 0} {status : ℕ} → (status ≡ 3) ⊎ (status ≡ 4) → status ≡ 0 → A
three_or_four (inl is) none = absurd (omega (arith, is, none))
three_or_four (inr is) none = absurd (omega (arith, is, none))

line_calm : {said printed printed' status : ℕ} → CountsLine said printed printed' status → status ≡ 0
    → printed' ≡ printed
line_calm (inl (same, is)) none = same
line_calm (inr (more, failed)) none = three_or_four failed none

pub calm_of : {printed printed' status : ℕ} (given : Result Answer Fault) → CountsLineOf given printed printed' status
    → status ≡ 0 → printed' ≡ printed
calm_of (Ok answer) counts none = line_calm counts none
calm_of (Err fault) (inl counts) none = line_calm counts none
calm_of (Err fault) (inr counts) none = line_calm counts none

-- a file failed, or none did, and standard output did
unprinted : {before after printed printed' status : ℕ} (fault : Fault) → after ≡ failures_by fault before
    → printed' ≡ one_more printed → (status ≡ 3) ⊎ (status ≡ 4) → EndsByStatus before after printed printed' status
unprinted (Text refusal) is more failed = output_failed is more failed
unprinted (Explained refusal lines) is more failed = output_failed is more failed
unprinted (InLibrary path refusal) is more failed = output_failed is more failed
unprinted (ExplainedInLibrary path refusal lines) is more failed = output_failed is more failed
unprinted (Image why) is more failed = output_failed is more failed
unprinted (Run why) is more failed = output_failed is more failed
unprinted (Eval why) is more failed = output_failed is more failed
unprinted (Plan why) is more failed = output_failed is more failed
unprinted (Harts why) is more failed = output_failed is more failed
unprinted (Vectors why) is more failed = output_failed is more failed
unprinted (Code rule) is more failed = output_failed is more failed
unprinted (Name place) is more failed = output_failed is more failed
unprinted (Elf why) is more failed = output_failed is more failed
unprinted (Unmet rule word) is more failed = output_failed is more failed
unprinted (File (CannotRead path)) is more failed = both_failed is more failed
unprinted (File (CannotWrite path)) is more failed = both_failed is more failed
unprinted (File (NotUtf8 path)) is more failed = output_failed is more failed
unprinted (File (IsElf path)) is more failed = output_failed is more failed

pub ends_line : {before after printed printed' status : ℕ} (given : Result Answer Fault) → IsCounted given before after
    → CountsLineOf given printed printed' status → EndsByStatus before after printed printed' status
ends_line (Ok answer) same (inl (kept, is)) = calm same kept
ends_line (Ok answer) same (inr (more, failed)) = output_failed same more failed
ends_line (Err fault) counted (inl (inl (kept, is))) = ends fault (of_files counted kept) (inl is)
ends_line (Err fault) counted (inl (inr (more, failed))) = unprinted fault counted more failed
ends_line (Err fault) counted (inr (inl (kept, is))) = ends fault (of_files counted kept) (inr is)
ends_line (Err fault) counted (inr (inr (more, failed))) = unprinted fault counted more failed
