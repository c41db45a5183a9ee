-- What is written of what an observer sees of a run of the image of a file.
use Rattle.std.specs.Prelude.{◌≡◌, ℕ, List, Err, codes}
use Rattle.commands.specs.Below.{Arg, fault_of_texts, Fields, IsLeak, LeakFault, Leaks, params_of, Stop, Write}
use Rattle.commands.specs.Contents.{Contents}
use Rattle.commands.specs.ImageRefusals.{RefusesImage}
use Rattle.commands.specs.Images.{HoldsImage}
use Rattle.commands.specs.Stops.{status_of}
use Rattle.commands.specs.Unread.{IsUnwritten}
use Rattle.commands.specs.Words.{AreSpelled}
use Rattle.commands.specs.declared.fault.Fault.{Fault}
use Rattle.commands.specs.declared.fault.Fault.TheVariants as faults
use Rattle.commands.specs.declared.fault.FileFault.{FileFault}
use Rattle.hepurita.specs.declared.fault.RunFault.TheVariants as runs
use Rattle.listing.specs.declared.fault.LeakFault.TheVariants.{Argument, Memory}

-- the path that stands for standard output
abbrev pub standard_output : List ℕ
standard_output = codes "-"

-- the listing of the run of the file's image on the arguments that the words spell, and the exit status of how it
-- stops
pub record SaysLeak (files : Contents) (path : List ℕ) (words : List (List ℕ)) (status : ℕ) (text : List ℕ) :
    Type 0 where
  pub image : Fields
  pub args : List Arg
  pub stop : Stop
  pub held : HoldsImage files path image
  pub spelled : AreSpelled (params_of image) words args
  pub listed : IsLeak image args stop text
  pub ended : status ≡ status_of stop

-- standard output failed
abbrev pub IsOutputFault : Fault → Type 0
IsOutputFault fault = (file : FileFault) × IsUnwritten standard_output file × (fault ≡ faults.File file)

-- the fault of a listing, as a command's
abbrev pub IsFaultOfLeak : LeakFault → Fault → Type 0
IsFaultOfLeak (Argument rule index) fault = fault ≡ faults.Run (runs.Argument rule index)
IsFaultOfLeak Memory fault = fault ≡ faults.Run runs.Memory
IsFaultOfLeak Write fault = IsOutputFault fault

-- the listing of the run on these arguments has this fault
abbrev pub FaultsByLeak : List (List ℕ) → Fields → Fault → Type 0
FaultsByLeak words image fault =
    (args : List Arg) × (why : LeakFault) × AreSpelled (params_of image) words args × Leaks image args (Err why)
    × IsFaultOfLeak why fault

-- why the listing is not written to its end
abbrev pub RefusesLeak : Contents → List ℕ → List (List ℕ) → Fault → Type 0
RefusesLeak files path words =
    RefusesImage files path (λ image. fault_of_texts (params_of image) words) (FaultsByLeak words)
