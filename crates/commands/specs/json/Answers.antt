-- The lines of JSON that answer requests which are done.
use Rattle.std.specs.Prelude.{◌≡◌, ℕ, List, [], ◌∷◌, map, codes}
use Rattle.commands.specs.Contents.{Contents}
use Rattle.commands.specs.Judged.{IsAccepted}
use Rattle.commands.specs.Requests.{Answers}
use Rattle.commands.specs.Violations.{listing_status, ListsSource}
use Rattle.command_line.specs.declared.words.Request.{Request}
use Rattle.command_line.specs.declared.words.Request.TheVariants as requests
use Rattle.commands.specs.declared.json.subject.JsonCommand.{JsonCommand}
use Rattle.commands.specs.declared.json.subject.JsonCommand.TheVariants as commands
use Rattle.commands.specs.declared.fault.Fault.{Fault}
use Rattle.commands.specs.declared.json.subject.Subject.{Subject}
use Rattle.commands.specs.json.Faults.{begun, lines_of_faults}
use Rattle.json_lines.specs.Lines.{line_of, lines_data}
use Rattle.serde_json.specs.Data.{Members, put, string}

abbrev pub accepted_members : Members
accepted_members = begun commands.Check 0 (codes "accepted")

-- which image was written
abbrev pub image_written : List ℕ → Members
image_written image = put (codes "image") (string image) (begun commands.Build 0 (codes "written"))

-- which texts of a function were
abbrev pub function_written : List ℕ → List ℕ → Members
function_written assembler header =
    put (codes "header") (string header)
    (put (codes "assembler") (string assembler) (begun commands.Function 0 (codes "written")))

-- the lines of what is answered as a text
abbrev pub lines_members : JsonCommand → ℕ → List ℕ → Members
lines_members command status text = put (codes "lines") (lines_data text) (begun command status (codes "done"))

-- a request is answered by the lines of its text
abbrev pub AnswersByLines : JsonCommand → Request → Contents → List ℕ → ℕ → Type 0
AnswersByLines command request files line status =
    (text : List ℕ) × Answers request files text status × (line ≡ line_of (lines_members command status text))

-- a line for each violation; none, and the source is accepted
abbrev pub listed_in_json : Subject → List Fault → List ℕ
listed_in_json subject [] = line_of accepted_members
listed_in_json subject (fault ∷ others) = lines_of_faults subject (fault ∷ others)

-- the line that answers a request, or of all violations their lines, and the exit status, by what files hold
abbrev pub AnswersInJson : Request → Contents → List ℕ → ℕ → Type 0
AnswersInJson (requests.Check libraries file profile explain) files line status =
    IsAccepted profile files (map (λ path. path.now) libraries.now) file.now × (line ≡ line_of accepted_members)
    × (status ≡ 0)
AnswersInJson (requests.CheckAll libraries file profile explain) files line status =
    (found : List Fault) × ListsSource explain profile files (map (λ path. path.now) libraries.now) file.now found
    × (line ≡ listed_in_json (record { command = commands.Check; file = file; list = file }) found)
    × (status ≡ listing_status found)
AnswersInJson (requests.Build libraries file image options) files line status =
    (line ≡ line_of (image_written image.now)) × (status ≡ 0)
AnswersInJson (requests.Function libraries file assembler header options) files line status =
    (line ≡ line_of (function_written assembler.now header.now)) × (status ≡ 0)
AnswersInJson (requests.Stat libraries file profile optimisation) files line status =
    AnswersByLines commands.Stat (requests.Stat libraries file profile optimisation) files line status
AnswersInJson (requests.Eval libraries file arguments explain) files line status =
    AnswersByLines commands.Eval (requests.Eval libraries file arguments explain) files line status
AnswersInJson (requests.Pair image arguments options) files line status =
    AnswersByLines commands.Pair (requests.Pair image arguments options) files line status
AnswersInJson (requests.Certify image arguments options) files line status =
    AnswersByLines commands.Certify (requests.Certify image arguments options) files line status
AnswersInJson (requests.Vectors libraries file vectors profile optimisation) files line status =
    AnswersByLines commands.Vectors (requests.Vectors libraries file vectors profile optimisation) files line status
AnswersInJson request files line status = ⊥
