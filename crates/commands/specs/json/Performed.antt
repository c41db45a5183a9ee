-- Requests that are answered in JSON: by one line on standard output, whether they are done or not; or by a line for
-- each violation.
use Rattle.std.specs.Prelude.{◌≡◌, ◌⊎◌, ℕ, List, Result, Ok, Err}
use Rattle.commands.specs.Answered.{IsCounted}
use Rattle.commands.specs.Below.{Collected, HasLines, IsPutInPart, IsPutWhole, Reaches}
use Rattle.commands.specs.Contents.{Contents, Store}
use Rattle.commands.specs.FaultText.{fault_status}
use Rattle.commands.specs.Leaks.{IsOutputFault}
use Rattle.commands.specs.Progress.{RequestTells}
use Rattle.commands.specs.Requests.{Leaves, Performs, Refuses, Reports}
use Rattle.commands.specs.declared.answer.Answer.{Answer}
use Rattle.command_line.specs.declared.options.Format.{Format}
use Rattle.command_line.specs.declared.options.Format.TheVariants as formats
use Rattle.command_line.specs.declared.words.Request.{Request}
use Rattle.command_line.specs.declared.words.Request.TheVariants as requests
use Rattle.commands.specs.declared.fault.Fault.{Fault}
use Rattle.commands.specs.declared.json.subject.JsonCommand.TheVariants as commands
use Rattle.commands.specs.declared.json.subject.Subject.{Subject}
use Rattle.commands.specs.json.Answers.{AnswersInJson}
use Rattle.commands.specs.json.Faults.{fault_members, out_of_memory}
use Rattle.json_lines.specs.Lines.{line_of}

-- what comes of a request before it is printed, by what files hold before and after: a line and the exit status, or a
-- fault
pub data GivesInJson (request : Request) (before after : Contents) : Result Answer Fault → Type 0 where
  answered_in_json : {answer : Answer} → AnswersInJson request before answer.text.items answer.status
      → Leaves request before after
      → GivesInJson request before after (Ok answer)
  refused_in_json : {fault : Fault} → Refuses request before after fault → GivesInJson request before after (Err fault)

-- which lines of progress went out before that
abbrev pub HasTold : Request → Contents → Result Answer Fault → Collected → Collected → Type 0
HasTold request files (Ok answer) err told = RequestTells HasLines request files err told
HasTold request files (Err fault) err told = (told ≡ err) ⊎ RequestTells Reaches request files err told

-- the line that says what came of a request, and the exit status: that of the answer; that of the fault; or, where
-- there was no memory for that, that of a want of memory
pub data IsLineOf (subject : Subject) : Result Answer Fault → List ℕ → ℕ → Type 0 where
  of_answer : (answer : Answer) → IsLineOf subject (Ok answer) answer.text.items answer.status
  of_fault : (fault : Fault) → IsLineOf subject (Err fault) (line_of (fault_members subject fault)) (fault_status fault)
  of_memory : (fault : Fault) → IsLineOf subject (Err fault) (line_of (out_of_memory subject.command)) 4

-- how a line is printed, with which exit status: all of it; or standard output failed, which is told on standard error
pub data PrintsLine (line : List ℕ) (status : ℕ) (out out' err err' : Collected) : ℕ → Type 0 where
  line_printed : IsPutWhole line out out' → err' ≡ err → PrintsLine line status out out' err err' status
  line_cut_off : {fault : Fault} {failed : ℕ} → IsPutInPart line out out' → IsOutputFault fault
      → Reports fault err err' failed → PrintsLine line status out out' err err' failed

-- what comes of a request that is answered in JSON, with the exit status
pub record PerformsInJson (subject : Subject) (request : Request) (before after : Store) (out out' err err' : Collected)
    (status : ℕ) : Type 0 where
  pub given : Result Answer Fault
  pub line : List ℕ
  pub said : ℕ
  pub told : Collected
  pub gives : GivesInJson request before.contents after.contents given
  pub counted : IsCounted given before.failures after.failures
  pub progress : HasTold request before.contents given err told
  pub is_line : IsLineOf subject given line said
  pub printed : PrintsLine line said out out' told err' status

-- what comes of a request in a format: a command that has no answer in JSON answers in text
abbrev pub PerformsAs : Format → Request → Store → Store → Collected → Collected → Collected → Collected → ℕ → Type 0
PerformsAs formats.Text request = Performs request
PerformsAs formats.Json (requests.Check libraries file profile explain) =
    PerformsInJson (record { command = commands.Check; file = file; list = file })
    (requests.Check libraries file profile explain)
PerformsAs formats.Json (requests.CheckAll libraries file profile explain) =
    PerformsInJson (record { command = commands.Check; file = file; list = file })
    (requests.CheckAll libraries file profile explain)
PerformsAs formats.Json (requests.Build libraries file image options) =
    PerformsInJson (record { command = commands.Build; file = file; list = file })
    (requests.Build libraries file image options)
PerformsAs formats.Json (requests.Function libraries file assembler header options) =
    PerformsInJson (record { command = commands.Function; file = file; list = file })
    (requests.Function libraries file assembler header options)
PerformsAs formats.Json (requests.Stat libraries file profile optimisation) =
    PerformsInJson (record { command = commands.Stat; file = file; list = file })
    (requests.Stat libraries file profile optimisation)
PerformsAs formats.Json (requests.Eval libraries file arguments explain) =
    PerformsInJson (record { command = commands.Eval; file = file; list = file })
    (requests.Eval libraries file arguments explain)
PerformsAs formats.Json (requests.Pair image arguments options) =
    PerformsInJson (record { command = commands.Pair; file = image; list = image })
    (requests.Pair image arguments options)
PerformsAs formats.Json (requests.Certify image arguments options) =
    PerformsInJson (record { command = commands.Certify; file = image; list = image })
    (requests.Certify image arguments options)
PerformsAs formats.Json (requests.Vectors libraries file vectors profile optimisation) =
    PerformsInJson (record { command = commands.Vectors; file = file; list = vectors })
    (requests.Vectors libraries file vectors profile optimisation)
PerformsAs formats.Json request = Performs request
