-- What is printed of a certificate of a function of an executable.
use Rattle.std.specs.Prelude.{◌≡◌, ◌≢◌, ℕ, ◌-◌, ◌++◌, Bool, true, false, List, Some, None, Ok, codes, ⊤}
use Rattle.std.specs.Fmt.{decimal}
use Rattle.commands.specs.Below.{AskedRun, AskedWords, AsksFor, CertifiedFunction, Encoding, encoding_at, Executable}
use Rattle.commands.specs.Below.{FunctionCertificate, FunctionStop, IsLineOfEncoding, LeadThere, machine_program}
use Rattle.commands.specs.Below.{place_line}
use Rattle.commands.specs.Below.{RunOptions, state_at_start}
use Rattle.elf_reports.specs.Explained.{ExplainsFunction}
use Rattle.elf_memory.specs.Stops.{stop_name}
use Rattle.commands.specs.Certificates.{shifts_seen}
use Rattle.commands.specs.Contents.{Contents}
use Rattle.commands.specs.Executables.{HoldsExecutable}
use Rattle.commands.specs.Stops.{function_stop_status}
use Rattle.command_line.specs.declared.options.FunctionOptions.{FunctionOptions}
use Rattle.elf_runs.specs.declared.certifying.FunctionCertificate.TheVariants.{MayDiffer, Same}
use Rattle.elf_memory.specs.declared.stops.FunctionStop.TheVariants.{Returned, Stopped}

-- how the run is to be made, as the options say
abbrev pub run_options : FunctionOptions → RunOptions
run_options options =
    record { profile = options.profile; shifts = shifts_seen options.shifts; steps = options.steps }

-- the line of how a function's run stops
abbrev pub function_stop_line : FunctionStop → List ℕ
function_stop_line stop = codes "stop " ++ stop_name stop ++ codes "\n"

-- `same` and the stop where all runs return; where they stop otherwise, that stop comes first
abbrev pub function_same_text : FunctionStop → List ℕ
function_same_text Returned = codes "same\n" ++ function_stop_line Returned
function_same_text (Stopped stop) = function_stop_line (Stopped stop) ++ codes "same\n"

-- that text; or the entry that may differ, the line of what begins where its step is made, and the line of
-- that place, with the calls that lead there
abbrev pub PrintsFunctionCertificate : Executable → AskedRun → RunOptions → FunctionCertificate → List ℕ → Type 0
PrintsFunctionCertificate program asked options (Same stop entries) text =
    text ≡ function_same_text stop
PrintsFunctionCertificate program asked options (MayDiffer entry pc) text =
    (encoding : Encoding) × (line calls : List ℕ)
    × (encoding_at program pc ≡ Some encoding)
    × IsLineOfEncoding pc encoding line
    × LeadThere (machine_program program asked options.profile) (state_at_start program asked) (entry - 1) calls
    × (text ≡ codes "may differ at " ++ decimal entry ++ codes "\n" ++ line ++ place_line program pc calls)

-- the same; where it is to be explained, and an entry may differ, these lines follow
abbrev pub PrintsExplainedFunction : Bool → Executable → AskedRun → RunOptions → FunctionCertificate → List ℕ → Type 0
PrintsExplainedFunction explain program asked options (Same stop entries) text =
    PrintsFunctionCertificate program asked options (Same stop entries) text
PrintsExplainedFunction false program asked options (MayDiffer entry pc) text =
    PrintsFunctionCertificate program asked options (MayDiffer entry pc) text
PrintsExplainedFunction true program asked options (MayDiffer entry pc) text =
    (first lines : List ℕ) × PrintsFunctionCertificate program asked options (MayDiffer entry pc) first
    × ExplainsFunction program asked options lines × (text ≡ first ++ lines)

-- an instruction begins where the step is made that may differ
abbrev pub StandsInProgram : Executable → FunctionCertificate → Type 0
StandsInProgram program (Same stop entries) = ⊤
StandsInProgram program (MayDiffer entry pc) = encoding_at program pc ≢ None

-- the exit status: that of the stop; or 1
abbrev pub function_certificate_status : FunctionCertificate → ℕ
function_certificate_status (Same stop entries) = function_stop_status stop
function_certificate_status (MayDiffer entry pc) = 1

-- whether an observer sees the same of all runs of a program's function that begin as is asked, and what is unknown
-- where they may differ, where that is to be explained
pub record SaysCertificateOf (explain : Bool) (program : Executable) (asked : AskedRun) (options : RunOptions)
    (text : List ℕ) (status : ℕ) : Type 0 where
  pub certificate : FunctionCertificate
  pub certified : CertifiedFunction program asked options (Ok certificate)
  pub printed : PrintsExplainedFunction explain program asked options certificate text
  pub ended : status ≡ function_certificate_status certificate

-- the same of a function of the file's program, as the words ask
pub record SaysFunctionCertificate (files : Contents) (path : List ℕ) (words : AskedWords)
    (options : FunctionOptions) (text : List ℕ) (status : ℕ) : Type 0 where
  pub program : Executable
  pub asked : AskedRun
  pub held : HoldsExecutable files path program
  pub as_said : AsksFor words asked
  pub said : SaysCertificateOf options.explain program asked (run_options options) text status
