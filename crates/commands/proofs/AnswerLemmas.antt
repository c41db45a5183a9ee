-- What comes of a request, from what its call gives and what is printed of it.
use Rattle.std.proofs.Common.{◌≡◌, ◌⊎◌, inr, ℕ, List, [], ◌++◌, Result, Ok, Err, append-nil, refl, sym, ap, ◌∙◌, subst}
use Rattle.std.specs.Result.{IsErrAnd, OnOk, OnErr}
use Rattle.commands.specs.Answered.{Does, Finds, RequestGives, answered, IsEnded, IsRead, not_answered, Prints}
use Rattle.commands.specs.Answered.{all_printed, not_printed, part_printed}
use Rattle.commands.specs.Below.{collected, Collected, GainsPart, HasLines, one_more, Reaches}
use Rattle.commands.specs.Contents.{Contents, Store}
use Rattle.commands.specs.Failures.{CountsFailures, failures_by, IsReadBy, of_files, of_output}
use Rattle.commands.specs.Leaks.{IsOutputFault}
use Rattle.commands.specs.Progress.{RequestTells}
use Rattle.commands.specs.Requests.{Answers, Fails, IsDone, Leaves, refused, Refuses, unprinted}
use Rattle.commands.specs.Unread.{IsOutOfMemory}
use Rattle.commands.specs.declared.answer.Answer.{Answer}
use Rattle.command_line.specs.declared.words.Request.{Request}
use Rattle.commands.specs.declared.fault.Fault.{Fault}
use Rattle.commands.proofs.Counting.{counted_by, kept_by, memory_calm}

-- ---- a call whose fault is handed on

pub finds_fault : {request : Request} {files : Contents} (answer : Result Answer Fault) (fault : Fault)
    → IsErrAnd answer (λ e. e ≡ fault) → Refuses request files files fault → RequestGives request files files answer
finds_fault (Ok done) fault is why = absurd is
finds_fault {request} {files} (Err e) fault is why =
    subst (λ (f : Fault). RequestGives request files files (Err f)) (sym is) (not_answered why)

-- the fault is made of another
pub finds_converted : {request : Request} {files : Contents} {Such : Fault → Type 0} (answer : Result Answer Fault)
    → IsErrAnd answer Such → ((e : Fault) → Such e → Refuses request files files e)
    → RequestGives request files files answer
finds_converted (Ok done) is why = absurd is
finds_converted (Err e) is why = not_answered (why e is)

pub read_fault : {T : Type 0} (before after : Store) (answer : Result T Fault) (fault : Fault)
    → IsErrAnd answer (λ e. e ≡ fault) → IsReadBy fault before after → IsRead answer before after
read_fault before after (Ok done) fault is read = absurd is
read_fault before after (Err e) fault is read = subst (λ (f : Fault). IsReadBy f before after) (sym is) read

pub read_memory : {T : Type 0} {before after : Store} (answer : Result T Fault) → IsErrAnd answer IsOutOfMemory
    → after ≡ before → IsRead answer before after
read_memory (Ok done) is same = absurd is
read_memory (Err e) is same = memory_calm e is same

-- a text that is answered, with status 0
pub finds_answer : {request : Request} {files : Contents} {text : List ℕ} (answer : Answer)
    → answer.text.items ≡ text → answer.status ≡ 0 → Answers request files text 0 → Leaves request files files
    → RequestGives request files files (Ok answer)
finds_answer {request} {files} {text} answer same done said left =
    answered
    (subst (λ (t : List ℕ). Answers request files t answer.status) (sym same)
    (subst (λ (s : ℕ). Answers request files text s) (sym done) said)) left

-- ---- a request that is known

same_collected : {taken taken' : List ℕ} {failures failures' : ℕ} → taken' ≡ taken → failures' ≡ failures
    → ◌≡◌ {A = Collected} (collected taken' failures') (collected taken failures)
same_collected {taken} {failures' = failures'} bytes calls =
    ap (λ (t : List ℕ). collected t failures') bytes ∙ ap (collected taken) calls

-- it only reads files, and what it gives was printed, if it could be
pub does_read : {request known : Request} (before after : Store) {Told : Type 0} {taken taken' : List ℕ}
    {failures failures' : ℕ} {given : Result Answer Fault} {answer : Result ℕ Fault} → request ≡ known
    → Finds known before.contents given → IsRead given before after → Told
    → Prints Told taken taken' failures failures' given answer
    → Does request before after (collected taken failures) (collected taken' failures') answer
does_read {known = known} before after {taken = taken} {taken'} {failures} {failures'} same (not_answered {fault} why)
    read told (not_printed kept calm) =
    let out = collected taken failures in
    let out' = collected taken' failures' in
    subst (λ (r : Request). Fails r before after out out' fault) (sym same)
    (refused (subst (λ (now : Contents). Refuses known before.contents now fault) (sym (kept_by fault before after read))
    why) (counted_by fault before after read) (same_collected (kept told) calm))
does_read {known = known} before after {taken = taken} {taken'} {failures} {failures'} same (answered {answer} said left)
    read told (all_printed whole calm) =
    let out = collected taken failures in
    let out' = collected taken' failures' in
    subst (λ (r : Request). IsDone r before after out out' answer.status) (sym same) (record {
      text = answer.text.items;
      answered = said;
      left = subst (λ (now : Store). Leaves known before.contents now.contents) (sym read) left;
      calm = ap (λ (s : Store). s.failures) read;
      printed = (whole told, calm);
    })
does_read {known = known} before after {taken = taken} {taken'} {failures} {failures'} same (answered {answer} said left)
    read told (part_printed {fault = fault} part counts why) =
    let out = collected taken failures in
    let out' = collected taken' failures' in
    subst (λ (r : Request). Fails r before after out out' fault) (sym same)
    (unprinted answer.status said
    (subst (λ (now : Store). Leaves known before.contents now.contents) (sym read) left)
    (ap (λ (s : Store). s.failures) read) (part told, counts) why)

-- which calls failed then
pub ends_read : (before after : Store) {Told : Type 0} {taken taken' : List ℕ} {failures failures' : ℕ}
    {given : Result Answer Fault} {answer : Result ℕ Fault} → IsRead given before after
    → Prints Told taken taken' failures failures' given answer
    → IsEnded answer before.failures after.failures failures failures'
ends_read before after read (not_printed {fault} kept calm) = of_files (counted_by fault before after read) calm
ends_read before after read (all_printed {answer} whole calm) = (answer.known, ap (λ (s : Store). s.failures) read, calm)
ends_read before after read (part_printed part counts why) = of_output why (ap (λ (s : Store). s.failures) read) counts

-- it is refused by a fault that is handed on
pub does_fault : {request known : Request} (before after : Store) (out : Collected) → request ≡ known
    → (answer : Result ℕ Fault) (fault : Fault) → IsErrAnd answer (λ e. e ≡ fault)
    → Refuses known before.contents after.contents fault → after.failures ≡ failures_by fault before.failures
    → Does request before after out out answer
does_fault before after out same (Ok done) fault is why counted = absurd is
does_fault {known = known} before after out same (Err e) fault is why counted =
    subst (λ (r : Request). Fails r before after out out e) (sym same)
    (subst (λ (f : Fault). Fails known before after out out f) (sym is) (refused why counted refl))

pub ends_fault : (before after printed : ℕ) (answer : Result ℕ Fault) (fault : Fault)
    → IsErrAnd answer (λ e. e ≡ fault) → after ≡ failures_by fault before
    → IsEnded answer before after printed printed
ends_fault before after printed (Ok done) fault is counted = absurd is
ends_fault before after printed (Err e) fault is counted =
    subst (λ (f : Fault). CountsFailures before after printed printed f) (sym is) (of_files counted refl)

-- it is done, and nothing is printed
pub does_silently : {request known : Request} {before after : Store} {out : Collected} → request ≡ known
    → Answers known before.contents [] 0 → Leaves known before.contents after.contents
    → after.failures ≡ before.failures → IsDone request before after out out 0
does_silently {before = before} {after} {out} same said left calm =
    subst (λ (r : Request). IsDone r before after out out 0) (sym same) (record {
      text = [];
      answered = said;
      left = left;
      calm = calm;
      printed = (sym (append-nil out.bytes), refl);
    })

-- ---- what went out on standard error

module _ {request known : Request} (same : request ≡ known) (files : Contents) (before after : Collected) where
  pub told_after : {Told : Type 0} {taken taken' : List ℕ} {failures failures' : ℕ} {given : Result Answer Fault}
      {answer : Result ℕ Fault} → Prints Told taken taken' failures failures' given answer
      → OnOk given (RequestTells HasLines known files before after)
      → OnOk answer (RequestTells HasLines request files before after)
  told_after (not_printed kept calm) told = tt
  told_after (all_printed whole calm) told =
      subst (λ (r : Request). RequestTells HasLines r files before after) (sym same) told
  told_after (part_printed part counts why) told = tt

  pub part_after : (Quiet : Type 0) {Told : Type 0} {taken taken' : List ℕ} {failures failures' : ℕ}
      {given : Result Answer Fault} {answer : Result ℕ Fault}
      → Prints Told taken taken' failures failures' given answer
      → OnErr given (Quiet ⊎ RequestTells Reaches known files before after)
      → OnOk given (RequestTells HasLines known files before after)
      → (RequestTells HasLines known files before after → RequestTells Reaches known files before after)
      → OnErr answer (Quiet ⊎ RequestTells Reaches request files before after)
  part_after Quiet (not_printed kept calm) part told reaches =
      subst (λ (r : Request). Quiet ⊎ RequestTells Reaches r files before after) (sym same) part
  part_after Quiet (all_printed whole calm) part told reaches = tt
  part_after Quiet (part_printed some counts why) part told reaches =
      inr (subst (λ (r : Request). RequestTells Reaches r files before after) (sym same) (reaches told))

-- ---- an answer that was printed, and one that was not

pub printed_all : {Told : Type 0} {taken taken' : List ℕ} {failures failures' : ℕ} {given : Result Answer Fault}
    {answer : Result ℕ Fault} (said : Answer) (status : ℕ) → Prints Told taken taken' failures failures' given answer
    → given ≡ Ok said → answer ≡ Ok status
    → (status ≡ said.status) × (failures' ≡ failures) × (Told → taken' ≡ taken ++ said.text.items)
printed_all said status (not_printed kept calm) is ends = cc
printed_all {taken = taken} {taken'} said status (all_printed {answer} whole calm) is ends =
    let same : answer ≡ said = cc in
    let ended : answer.status ≡ status = cc in (
      sym ended ∙ ap (λ (a : Answer). a.status) same,
      calm,
      λ told. subst (λ (a : Answer). taken' ≡ taken ++ a.text.items) same (whole told),
    )
printed_all said status (part_printed part counts why) is ends = cc

pub printed_part : {Told : Type 0} {taken taken' : List ℕ} {failures failures' : ℕ} {given : Result Answer Fault}
    {answer : Result ℕ Fault} (said : Answer) (fault : Fault) → Prints Told taken taken' failures failures' given answer
    → given ≡ Ok said → answer ≡ Err fault
    → IsOutputFault fault × (failures' ≡ one_more failures) × (Told → GainsPart taken taken' said.text.items)
printed_part said fault (not_printed kept calm) is ends = cc
printed_part said fault (all_printed whole calm) is ends = cc
printed_part {taken = taken} {taken'} said fault (part_printed {answer} {fault = why} part counts output) is ends =
    let same : answer ≡ said = cc in
    let cause : why ≡ fault = cc in (
      subst IsOutputFault cause output,
      counts,
      λ told. subst (λ (a : Answer). GainsPart taken taken' a.text.items) same (part told),
    )
