-- What two runs of an image look like side by side.
use Rattle.std.specs.Prelude.{◌≡◌, ◌==◌, ◌&&◌, List, length, Option, Some, None, Result, Ok, Err}
use Rattle.std.specs.Prelude.{if◌then◌else◌}
use Rattle.std.specs.Option.{option_map}
use Rattle.hepurita.specs.Below.{Arg, ArgumentFault, Compares, count_fault, entries_of, fault_of, Fields, Observation}
use Rattle.hepurita.specs.Below.{Pairing, Param, params_of, shifted, Stop}
use Rattle.hepurita.specs.declared.fault.RunFault.{RunFault}
use Rattle.hepurita.specs.declared.fault.RunFault.TheVariants.{Argument, Memory}
use Rattle.hepurita.specs.Uncut.{ImageEnds}

abbrev pub first_of : Option ArgumentFault → Option ArgumentFault → Option ArgumentFault
first_of (Some fault) later = Some fault
first_of None later = later

-- the first fault of two lists: the count of either before all else, then the first list's, then the second's, whose
-- arguments are numbered after those of the first
abbrev pub pair_fault : List Param → List Arg → List Arg → Option ArgumentFault
pair_fault params one other =
    if length one == length params && length other == length params
    then first_of (fault_of params one) (option_map (shifted (length params)) (fault_of params other))
    else Some count_fault

-- what an observer sees of the image's run on arguments
abbrev pub Observed : Fields → List Arg → List Observation → Type 0
Observed image args list = (stop : Stop) × ImageEnds image args list stop

-- what is answered for two lists of arguments: they are refused by their first fault; else memory may be wanting, or
-- what is observed is compared
pub data Paired (image : Fields) (one other : List Arg) : Result Pairing RunFault → Type 0 where
  refused : {fault : ArgumentFault} → pair_fault (params_of image) one other ≡ Some fault
      → Paired image one other (Err (Argument fault.rule fault.index))
  out_of_memory : pair_fault (params_of image) one other ≡ None → Paired image one other (Err Memory)
  compared : {seen seen' : List Observation} {pairing : Pairing} → pair_fault (params_of image) one other ≡ None
      → Observed image one seen → Observed image other seen' → Compares (entries_of seen) (entries_of seen') pairing
      → Paired image one other (Ok pairing)
