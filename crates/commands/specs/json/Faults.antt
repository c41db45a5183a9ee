-- Each fault of a command as an object of JSON.
use Rattle.std.specs.Prelude.{ℕ, List, Option, Some, None, codes, unwrap_or}
use Rattle.std.specs.List.{flat_map}
use Rattle.std.specs.Option.{option_map}
use Rattle.std.specs.String.{string_bytes}
use Rattle.commands.specs.Below.{ArgumentFault, EvalFault, ImageFault, Place, Refusal, RunFault, VectorsFault}
use Rattle.commands.specs.FaultText.{fault_line, fault_status, file_fault_text, rule_status}
use Rattle.commands.specs.declared.fault.Fault.{Fault}
use Rattle.commands.specs.declared.fault.Fault.TheVariants.{Text, Explained, Image, Run, Eval, Vectors}
use Rattle.commands.specs.declared.fault.Fault.TheVariants.{Name, File, InLibrary, ExplainedInLibrary}
use Rattle.commands.specs.declared.json.subject.JsonCommand.{JsonCommand}
use Rattle.commands.specs.declared.json.subject.Subject.{Subject}
use Rattle.commands.specs.json.Names.{command_name}
use Rattle.hepurita.specs.declared.fault.RunFault.TheVariants as runs
use Rattle.image.specs.RuleNames as images
use Rattle.image.specs.declared.fault.ImageFault.TheVariants as image_faults
use Rattle.image_reports.specs.declared.source_places.Standing.{Standing}
use Rattle.image_reports.specs.declared.vectors.fault.VectorsFault.TheVariants as vectors
use Rattle.json_lines.specs.Lines.{line_of, lines_data}
use Rattle.language.specs.Rules.{code_of, name_of}
use Rattle.language.specs.arguments.RuleNames as arguments
use Rattle.rv_machine.specs.Stops.{stop_name}
use Rattle.serde_json.specs.Data.{Members, no_members, number, put, string, unsigned}
use Rattle.source_eval.specs.declared.fault.EvalFault.TheVariants as evaluations

-- what each object has: the command, the exit status, and what came of it
abbrev pub begun : JsonCommand → ℕ → List ℕ → Members
begun command status result =
    put (codes "result") (string result)
    (put (codes "status") (number (unsigned status)) (put (codes "command") (string (command_name command)) no_members))

-- a rule is broken
abbrev pub refused : JsonCommand → ℕ → List ℕ → List ℕ → Members
refused command status code name =
    put (codes "name") (string name) (put (codes "code") (string code) (begun command status (codes "refused")))

abbrev pub out_of_memory : JsonCommand → Members
out_of_memory command = refused command 4 (codes "M1") (codes "memory")

-- with the place in a file, where there is one
abbrev pub placed : List ℕ → Option Place → Members → Members
placed path None members = members
placed path (Some place) members =
    put (codes "column") (number (unsigned place.column))
    (put (codes "line") (number (unsigned place.line)) (put (codes "file") (string path) members))

-- a source is refused, by what stands in the file at a path
abbrev pub refused_in : JsonCommand → List ℕ → Refusal → Members
refused_in command path refusal =
    placed path refusal.place
    (refused command (rule_status refusal.rule) (code_of refusal.rule) (name_of refusal.rule))

-- with lines that explain it
abbrev pub explained : List ℕ → Members → Members
explained lines members = put (codes "explanation") (lines_data lines) members

-- with the number of the argument, where it is one argument's
abbrev pub numbered : Option ℕ → Members → Members
numbered None members = members
numbered (Some index) members = put (codes "argument") (number (unsigned index)) members

abbrev pub argument_members : JsonCommand → ArgumentFault → Members
argument_members command fault =
    numbered fault.index (refused command 1 (arguments.code_of fault.rule) (arguments.name_of fault.rule))

-- with the byte of the file
abbrev pub image_members : Subject → ImageFault → Members
image_members subject (image_faults.Field rule offset) =
    put (codes "offset") (number (unsigned offset))
    (put (codes "file") (string subject.file.now)
    (refused subject.command 1 (images.code_of rule) (images.name_of rule)))
image_members subject image_faults.Memory = out_of_memory subject.command

abbrev pub run_members : Subject → RunFault → Members
run_members subject (runs.Argument rule index) =
    argument_members subject.command (record { rule = rule; index = index })
run_members subject runs.Memory = out_of_memory subject.command
run_members subject (runs.Stopped stop) =
    put (codes "stop") (string (stop_name stop)) (begun subject.command 5 (codes "stopped"))

abbrev pub eval_members : Subject → EvalFault → Members
eval_members subject (evaluations.Argument fault) = argument_members subject.command fault
eval_members subject (evaluations.NoMeaning place) =
    placed subject.file.now (Some place) (refused subject.command 1 (codes "E1") (codes "no meaning"))
eval_members subject evaluations.Budget = refused subject.command 1 (codes "E2") (codes "budget")
eval_members subject evaluations.Memory = out_of_memory subject.command

-- with the line of the file of vectors
abbrev pub vectors_members : Subject → VectorsFault → Members
vectors_members subject (vectors.Line line) =
    put (codes "line") (number (unsigned line))
    (put (codes "file") (string subject.list.now) (refused subject.command 1 (codes "V1") (codes "line form")))
vectors_members subject vectors.TooLong =
    put (codes "file") (string subject.list.now) (refused subject.command 1 (codes "V2") (codes "text too long"))
vectors_members subject vectors.Memory = out_of_memory subject.command

-- the name of an export is taken, where this stands
abbrev pub name_members : Subject → Standing → Members
name_members subject standing =
    placed (unwrap_or (option_map (λ path. path.now) standing.library) subject.file.now) (Some standing.place)
    (refused subject.command 1 (codes "F1") (codes "name"))

-- what no other member says is told by a text
abbrev pub told : JsonCommand → ℕ → List ℕ → List ℕ → Members
told command status result message = put (codes "message") (string message) (begun command status result)

-- a fault; those of commands that do not answer in JSON are told as elsewhere
abbrev pub fault_members : Subject → Fault → Members
fault_members subject (Text refusal) = refused_in subject.command subject.file.now refusal
fault_members subject (Explained refusal lines) =
    explained (string_bytes lines) (refused_in subject.command subject.file.now refusal)
fault_members subject (InLibrary path refusal) = refused_in subject.command path.now refusal
fault_members subject (ExplainedInLibrary path refusal lines) =
    explained (string_bytes lines) (refused_in subject.command path.now refusal)
fault_members subject (Image fault) = image_members subject fault
fault_members subject (Run fault) = run_members subject fault
fault_members subject (Eval fault) = eval_members subject fault
fault_members subject (Vectors fault) = vectors_members subject fault
fault_members subject (Name standing) = name_members subject standing
fault_members subject (File fault) = told subject.command 3 (codes "failed") (file_fault_text fault)
fault_members subject other = told subject.command (fault_status other) (codes "refused") (fault_line other)

-- a line for each of faults, in their order
abbrev pub lines_of_faults : Subject → List Fault → List ℕ
lines_of_faults subject faults = flat_map (λ fault. line_of (fault_members subject fault)) faults
