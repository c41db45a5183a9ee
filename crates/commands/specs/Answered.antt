-- What comes of a request before its answer is printed, and of printing it.
use Rattle.std.specs.Prelude.{◌≡◌, ◌≤◌, ◌++◌, ℕ, List, Result, Ok, Err}
use Rattle.commands.specs.Below.{Collected, GainsPart, one_more}
use Rattle.commands.specs.Contents.{Contents, Store}
use Rattle.commands.specs.Failures.{CountsFailures, failures_by, IsReadBy}
use Rattle.commands.specs.Leaks.{IsOutputFault}
use Rattle.commands.specs.Requests.{Answers, Fails, IsDone, Leaves, Refuses}
use Rattle.commands.specs.declared.answer.Answer.{Answer}
use Rattle.command_line.specs.declared.words.Request.{Request}
use Rattle.commands.specs.declared.fault.Fault.{Fault}

-- what comes of a request before its answer is printed, by what files hold before and after
pub data RequestGives (request : Request) (before after : Contents) : Result Answer Fault → Type 0 where
  answered : {answer : Answer} → Answers request before answer.text.items answer.status
      → Leaves request before after
      → RequestGives request before after (Ok answer)
  not_answered : {fault : Fault} → Refuses request before after fault → RequestGives request before after (Err fault)

-- the same of one that only reads files
abbrev pub Finds : Request → Contents → Result Answer Fault → Type 0
Finds request files = RequestGives request files files

-- files that were only read: they are as they were, or a call of them failed, by the fault
abbrev pub IsRead : {T : Type 0} → Result T Fault → Store → Store → Type 0
IsRead (Ok done) before after = after ≡ before
IsRead (Err fault) before after = IsReadBy fault before after

-- the count of failed calls of files that were written
abbrev pub IsCounted : {T : Type 0} → Result T Fault → ℕ → ℕ → Type 0
IsCounted (Ok done) before after = after ≡ before
IsCounted (Err fault) before after = after ≡ failures_by fault before

-- how an answer is printed, where there is one, and with which exit status: all of its text, or standard output failed;
-- what this has taken is known where it is told, and how many of its calls have failed
pub data Prints (Told : Type 0) (taken taken' : List ℕ) (failures failures' : ℕ) : Result Answer Fault
    → Result ℕ Fault → Type 0 where
  not_printed : {fault : Fault} → (Told → taken' ≡ taken)
      → failures' ≡ failures
      → Prints Told taken taken' failures failures' (Err fault) (Err fault)
  all_printed : {answer : Answer} → (Told → taken' ≡ taken ++ answer.text.items)
      → failures' ≡ failures
      → Prints Told taken taken' failures failures' (Ok answer) (Ok answer.status)
  part_printed : {answer : Answer} {fault : Fault} → (Told → GainsPart taken taken' answer.text.items)
      → failures' ≡ one_more failures
      → IsOutputFault fault
      → Prints Told taken taken' failures failures' (Ok answer) (Err fault)

-- what comes of a request
abbrev pub Does : Request → Store → Store → Collected → Collected → Result ℕ Fault → Type 0
Does request before after out out' (Ok status) = IsDone request before after out out' status
Does request before after out out' (Err fault) = Fails request before after out out' fault

-- the exit status of what is done, and which calls of files and of standard output failed
abbrev pub IsEnded : Result ℕ Fault → ℕ → ℕ → ℕ → ℕ → Type 0
IsEnded (Ok status) before after printed printed' = (status ≤ 5) × (after ≡ before) × (printed' ≡ printed)
IsEnded (Err fault) before after printed printed' = CountsFailures before after printed printed' fault
