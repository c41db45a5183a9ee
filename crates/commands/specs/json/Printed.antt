-- How the lines of JSON are made and printed, step by step.
use Rattle.std.specs.Prelude.{◌≡◌, ◌⊎◌, ℕ, List, Result, Ok, Err}
use Rattle.commands.specs.Below.{Collected, one_more}
use Rattle.commands.specs.FaultText.{fault_status}
use Rattle.commands.specs.Unread.{IsOutOfMemory}
use Rattle.commands.specs.declared.answer.Answer.{Answer}
use Rattle.commands.specs.declared.fault.Fault.{Fault}
use Rattle.commands.specs.declared.json.subject.JsonCommand.{JsonCommand}
use Rattle.commands.specs.declared.json.subject.Subject.{Subject}
use Rattle.commands.specs.json.Answers.{lines_members}
use Rattle.commands.specs.json.Performed.{IsLineOf, PrintsLine}
use Rattle.json_lines.specs.Lines.{line_of}

-- an answer in text as one by its lines, unless there is no memory for that
pub data GivesLines (command : JsonCommand) : Result Answer Fault → Result Answer Fault → Type 0 where
  same_fault : (fault : Fault) → GivesLines command (Err fault) (Err fault)
  as_lines : (answer line : Answer) → line.text.items
      ≡ line_of (lines_members command answer.status answer.text.items)
      → line.status ≡ answer.status → GivesLines command (Ok answer) (Ok line)
  no_line : (answer : Answer) (fault : Fault) → IsOutOfMemory fault → GivesLines command (Ok answer) (Err fault)

-- the line that says what came of a request was printed, or standard output failed
abbrev pub PrintsLineOf : Subject → Result Answer Fault → Collected → Collected → Collected → Collected → ℕ → Type 0
PrintsLineOf subject given out out' err err' status =
    (line : List ℕ) × (said : ℕ) × IsLineOf subject given line said × PrintsLine line said out out' err err' status

-- how many calls of standard output have failed after a line, and which exit status that gives
abbrev pub CountsLine : ℕ → ℕ → ℕ → ℕ → Type 0
CountsLine said printed printed' status = ((printed' ≡ printed) × (status ≡ said))
    ⊎ ((printed' ≡ one_more printed) × ((status ≡ 3) ⊎ (status ≡ 4)))

-- the same after the line of what came of a request
abbrev pub CountsLineOf : Result Answer Fault → ℕ → ℕ → ℕ → Type 0
CountsLineOf (Ok answer) printed printed' status = CountsLine answer.status printed printed' status
CountsLineOf (Err fault) printed printed' status = CountsLine (fault_status fault) printed printed' status
    ⊎ CountsLine 4 printed printed' status
