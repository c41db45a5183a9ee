-- What is answered where the run of an image is to be listed, and which bytes are its listing.
use Rattle.std.specs.Prelude.{◌≡◌, ℕ, List, Some, None, Result, Ok, Err}
use Rattle.language.specs.arguments.Faults.{fault_of}
use Rattle.listing.specs.Below.{Arg, ArgumentFault, code_at, code_base, Fields, frame_base, ImageEnds, loaded_at}
use Rattle.listing.specs.Below.{Observation, params_of, Stop}
use Rattle.listing.specs.declared.fault.LeakFault.{LeakFault}
use Rattle.listing.specs.declared.fault.LeakFault.TheVariants.{Argument, Memory, Write}
use Rattle.listing.specs.Listings.{IsListing}

-- these bytes are the listing of the run of the image, loaded with these arguments, within its steps, which stops so
abbrev pub IsLeak : Fields → List Arg → Stop → List ℕ → Type 0
IsLeak image args stop bytes =
    IsListing (code_at code_base image) image.max_steps (loaded_at code_base frame_base image args) stop bytes

-- what is answered: arguments are refused by their first fault; else it is the stop of the image's run, or memory was
-- wanting, or the sink failed
pub data Leaks (image : Fields) (args : List Arg) : Result Stop LeakFault → Type 0 where
  refused : {fault : ArgumentFault} → fault_of (params_of image) args ≡ Some fault
      → Leaks image args (Err (Argument fault.rule fault.index))
  out_of_memory : fault_of (params_of image) args ≡ None → Leaks image args (Err Memory)
  cut_off : fault_of (params_of image) args ≡ None → Leaks image args (Err Write)
  ran : {seen : List Observation} {stop : Stop} → fault_of (params_of image) args ≡ None
      → ImageEnds image args seen stop → Leaks image args (Ok stop)
