-- The line and the exit status of each fault.
use Rattle.std.specs.Prelude.{ℕ, List, ◌++◌, Option, Some, None, codes}
use Rattle.std.specs.Fmt.{decimal}
use Rattle.std.specs.Option.{option_map}
use Rattle.std.specs.String.{string_bytes}
use Rattle.language.specs.arguments.Text as arguments
use Rattle.commands.specs.declared.fault.Fault.{Fault}
use Rattle.commands.specs.declared.fault.Fault.TheVariants.{Text, Explained, Image, Run, Eval, Plan, Harts, Vectors}
use Rattle.commands.specs.declared.fault.Fault.TheVariants.{Code, Name, Elf, Unmet, File, InLibrary, ExplainedInLibrary}
use Rattle.commands.specs.declared.fault.FileFault.{FileFault}
use Rattle.commands.specs.declared.fault.FileFault.TheVariants.{CannotRead, CannotWrite, IsElf, NotUtf8}
use Rattle.elf.specs.RuleNames as elf_rules
use Rattle.elf.specs.Text as executables
use Rattle.elf.specs.declared.fault.ElfFault.TheVariants as elf_faults
use Rattle.harts.specs.RuleNames as rules
use Rattle.commands.specs.Below.{ElfFault, ElfRule, EvalFault, HartsFault, ImageFault, PlanFault, RunFault}
use Rattle.commands.specs.Below.{standing_text, VectorsFault}
use Rattle.harts.specs.declared.fault.HartsFault.TheVariants as harts
use Rattle.input_files.specs.harts_file.Text.{plan_fault_text}
use Rattle.input_files.specs.declared.harts_file.fault.PlanFault.TheVariants as plans
use Rattle.hepurita.specs.Text.{run_fault_text}
use Rattle.hepurita.specs.declared.fault.RunFault.TheVariants as runs
use Rattle.image.specs.Text as images
use Rattle.image.specs.declared.fault.ImageFault.TheVariants as image_faults
use Rattle.language.specs.Rules.{code_of, name_of, refusal_text}
use Rattle.language.specs.declared.rule.Rule.{Rule}
use Rattle.language.specs.declared.rule.Rule.TheVariants.{OutOfMemory}
use Rattle.word.specs.Places.{place_text}
use Rattle.word.specs.declared.place.Place.{Place}
use Rattle.source_eval.specs.FaultText.{eval_fault_text}
use Rattle.source_eval.specs.declared.fault.EvalFault.TheVariants as evaluations
use Rattle.rv_machine.specs.Stops.{stop_name}
use Rattle.image_reports.specs.vectors.FaultText.{vectors_fault_text}
use Rattle.image_reports.specs.declared.vectors.fault.VectorsFault.TheVariants as vectors
use Rattle.input_files.specs.wrapping.RuleNames.{rule_text}

-- what failed, and the path; that of standard output is `-`
abbrev pub file_fault_text : FileFault → List ℕ
file_fault_text (CannotRead path) = codes "cannot read " ++ path.now
file_fault_text (CannotWrite path) = codes "cannot write " ++ path.now
file_fault_text (NotUtf8 path) = codes "not UTF-8 " ++ path.now
file_fault_text (IsElf path) = codes "an ELF file, which elf certify takes: " ++ path.now

-- why harts are not run, without the hart's number
abbrev pub harts_fault_text : HartsFault → List ℕ
harts_fault_text (harts.Schedule rule at) = rules.code_of rule ++ codes " at turn " ++ decimal at ++ codes ": "
    ++ rules.name_of rule
harts_fault_text (harts.Argument hart rule index) = arguments.fault_text (record { rule = rule; index = index })
harts_fault_text harts.Memory = refusal_text OutOfMemory None

-- a run that stopped otherwise than by ECALL, by its stop; else as what is refused
abbrev pub run_line : RunFault → List ℕ
run_line (runs.Argument rule index) = codes "refused: " ++ run_fault_text (runs.Argument rule index)
run_line runs.Memory = codes "refused: " ++ run_fault_text runs.Memory
run_line (runs.Stopped stop) = codes "stopped: " ++ stop_name stop

-- a rule that is broken by a word
abbrev pub unmet_text : ElfRule → List ℕ → List ℕ
unmet_text rule word = elf_rules.code_of rule ++ codes ": " ++ elf_rules.name_of rule ++ codes ": " ++ word

-- a refusal in a library, whose path stands before the place
abbrev pub library_text : List ℕ → Rule → Option Place → List ℕ
library_text path rule (Some place) =
    code_of rule ++ codes " at " ++ path ++ codes ":" ++ place_text place ++ codes ": " ++ name_of rule
library_text path rule None = refusal_text rule None

-- a fault's line, and those that explain it, without the last one's end
abbrev pub fault_line : Fault → List ℕ
fault_line (Text refusal) = codes "refused: " ++ refusal_text refusal.rule refusal.place
fault_line (Explained refusal lines) = codes "refused: "
    ++ (refusal_text refusal.rule refusal.place ++ (codes "\n" ++ string_bytes lines))
fault_line (InLibrary path refusal) = codes "refused: " ++ library_text path.now refusal.rule refusal.place
fault_line (ExplainedInLibrary path refusal lines) = codes "refused: "
    ++ (library_text path.now refusal.rule refusal.place ++ (codes "\n" ++ string_bytes lines))
fault_line (Image fault) = codes "refused: " ++ images.fault_text fault
fault_line (Run fault) = run_line fault
fault_line (Eval fault) = codes "refused: " ++ eval_fault_text fault
fault_line (Plan fault) = codes "refused: " ++ plan_fault_text fault
fault_line (Harts fault) = codes "refused: " ++ harts_fault_text fault
fault_line (Vectors fault) = codes "refused: " ++ vectors_fault_text fault
fault_line (Code rule) = codes "refused: " ++ rule_text rule
fault_line (Name name) = codes "refused: F1 at "
    ++ (standing_text (option_map (λ path. path.now) name.library) name.place ++ codes ": name")
fault_line (Elf fault) = codes "refused: " ++ executables.fault_text fault
fault_line (Unmet rule word) = codes "refused: " ++ unmet_text rule (string_bytes word)
fault_line (File fault) = codes "file: " ++ file_fault_text fault

-- 1 refused by a rule, 4 memory
abbrev pub rule_status : Rule → ℕ
rule_status OutOfMemory = 4
rule_status other = 1

abbrev pub image_status : ImageFault → ℕ
image_status (image_faults.Field rule offset) = 1
image_status image_faults.Memory = 4

-- 5 stopped otherwise than by ECALL
abbrev pub run_status : RunFault → ℕ
run_status (runs.Argument rule index) = 1
run_status runs.Memory = 4
run_status (runs.Stopped stop) = 5

abbrev pub eval_status : EvalFault → ℕ
eval_status (evaluations.Argument fault) = 1
eval_status (evaluations.NoMeaning place) = 1
eval_status evaluations.Budget = 1
eval_status evaluations.Memory = 4

abbrev pub plan_status : PlanFault → ℕ
plan_status (plans.Line rule line) = 1
plan_status plans.Memory = 4

abbrev pub harts_status : HartsFault → ℕ
harts_status (harts.Schedule rule at) = 1
harts_status (harts.Argument hart rule index) = 1
harts_status harts.Memory = 4

abbrev pub vectors_status : VectorsFault → ℕ
vectors_status (vectors.Line line) = 1
vectors_status vectors.TooLong = 1
vectors_status vectors.Memory = 4

abbrev pub elf_status : ElfFault → ℕ
elf_status (elf_faults.File rule at) = 1
elf_status elf_faults.Memory = 4

-- the exit status; 3 is that of a file that failed
abbrev pub fault_status : Fault → ℕ
fault_status (Text refusal) = rule_status refusal.rule
fault_status (Explained refusal lines) = rule_status refusal.rule
fault_status (InLibrary path refusal) = rule_status refusal.rule
fault_status (ExplainedInLibrary path refusal lines) = rule_status refusal.rule
fault_status (Image fault) = image_status fault
fault_status (Run fault) = run_status fault
fault_status (Eval fault) = eval_status fault
fault_status (Plan fault) = plan_status fault
fault_status (Harts fault) = harts_status fault
fault_status (Vectors fault) = vectors_status fault
fault_status (Code rule) = 1
fault_status (Name name) = 1
fault_status (Elf fault) = elf_status fault
fault_status (Unmet rule word) = 1
fault_status (File fault) = 3
